-- Codewords by their syndromes, over the base field's structure.
use Rattle.distance.proofs.Syndromes.{by_syndromes}
use Rattle.distance.proofs.syndromes_tell_codewords.Goals as goal

pub returns : goal.returns
returns g c = by_syndromes g.F.Field.structure
