-- The extension of a tower is a tower.
use Rattle.tower.proofs.Step.{tower_step}
use Rattle.tower.proofs.tower_grows.Goals as goal

pub returns : goal.returns
returns g c = tower_step g.F.Field.structure
