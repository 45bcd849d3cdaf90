-- Any n words fix the line, over the base field's structure.
use Rattle.distance.proofs.Theorem.{distance}
use Rattle.distance.proofs.any_n_words_fix_the_line.Goals as goal

pub returns : goal.returns
returns g c = distance g.F.Field.structure
