-- The least exponent for q items is the number of bits.
use Rattle.std.proofs.Common.{◌<◌, arith}
use native.Mathlib.Decide.{dec_lt}
use lib.Pow.{pow-lt}
use Rattle.line_code.proofs.encoder.Encoder.new.Goals as goal

pub invariant_of-result : goal.invariant_of-result
invariant_of-result g c = record {
  prepared = λ k d h.
      let below : k < c.exponent.result = elim (dec_lt c.exponent.result g.F.Field.structure.bits) [
        | yes l ↦ absurd (omega (arith, pow-lt l, c.exponent.ensures.fits, c.order.ensures))
        | no l ↦ omega arith
      ] in
      c.prepare.ensures k d below;
}
