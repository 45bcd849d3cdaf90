-- A plain rack lies within the ranges. Assumes nothing.
use Rattle.std.proofs.Common.{arith}
use Rattle.std.proofs.lemmas.Bool.Decides.{nat_tests}
use Rattle.rack.specs.Meaning.{InRange}
use Rattle.plain_rack.specs.declared.parts.PlainRack.{PlainRack}
use Rattle.plain_rack.specs.Plain.{plain_meaning}

pub plain_in_range : (p : PlainRack) → InRange (plain_meaning p)
plain_in_range p = record {
  some_bays = p.shape.some_bays;
  few_bays = p.shape.few_bays;
  some_lines = p.shape.some_lines;
  few_lines = p.shape.few_lines;
  words = λ b l h k. grind (arith, nat_tests);
}
