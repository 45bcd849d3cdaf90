-- The exponent falls.
use Rattle.line_code.proofs.gathering.+gather.Given as goal

abbrev pub decreases-gather : goal.decreases-gather
decreases-gather l = l.exponent
