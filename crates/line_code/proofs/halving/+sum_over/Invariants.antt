-- The exponent falls.
use Rattle.line_code.proofs.halving.+sum_over.Given as goal

abbrev pub decreases-sum_over : goal.decreases-sum_over
decreases-sum_over g l = l.exponent
