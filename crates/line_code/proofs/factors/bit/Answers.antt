-- A power of two below q is the number of an element.
use lib.Pow.{pow-lt}
use Rattle.line_code.proofs.factors.bit.Goals as goal

pub element-requires : goal.element-requires
element-requires g c = rw c.run_length.ensures (pow-lt c.requires)
