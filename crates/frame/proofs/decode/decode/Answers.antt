use Rattle.frame.proofs.Numbers.{meant-unknown}
use Rattle.frame.proofs.decode.decode.Goals as goal

pub returns-in_default : goal.returns-in_default
returns-in_default c = meant-unknown _ c.in_default.ensures.1 _
