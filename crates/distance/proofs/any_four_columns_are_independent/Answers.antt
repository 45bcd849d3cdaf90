-- Independent columns, over the base field's structure.
use Rattle.distance.proofs.Independent.{columns_independent}
use Rattle.distance.proofs.any_four_columns_are_independent.Goals as goal

pub returns : goal.returns
returns g c = columns_independent g.F.Field.structure
