-- A field carried over to another type along the numbers of its elements, so that numbers add, multiply and invert as before. Assumes nothing.
use Rattle.std.specs.Prelude.{bit_xor}
use Rattle.std.proofs.Common.{sym, ap, ap₂, ◌∙◌, arith}
use Rattle.std.proofs.lemmas.Nat.{xor_lt}
use Rattle.field.specs.Structure.{Structure}
use Rattle.table_field.specs.CarriedLaws.{Numbering, sum, multiplied, divided, in_s, from_s, in_s_one, in_s_plus, in_s_root, carried_ring, divided_zero, times_divided, two_bits, some_lt}

abbrev pub carried : {K L : Type 0} (s : Structure K) → Numbering s L → Structure L
carried s m = record {
  zero = m.element 0;
  one = m.element 1;
  plus = sum s m;
  times = multiplied s m;
  inverse = divided s m;
  v = m.element (s.value s.v);
  bits = m.bits;
  value = m.number;
  of = m.element;
  ring = carried_ring s m;
  inverse_zero = divided_zero s m;
  times_inverse = times_divided s m;
  no_root = λ w e. s.no_root (in_s s m w) (sym (in_s_root s m w) ∙ ap (in_s s m) e ∙ from_s s m s.v);
  no_root_one = λ w e. s.no_root_one (in_s s m w)
      (sym (in_s_root s m w) ∙ ap (in_s s m) e ∙ in_s_plus s m (m.element (s.value s.v)) (m.element 1) ∙ ap₂ s.plus (from_s s m s.v) (in_s_one s m));
  two_bits = two_bits s m;
  value_lt = m.number_lt;
  of_value = m.element_number;
  value_of = m.number_element;
  value_zero = m.number_element 0 (some_lt s m 0 (omega arith));
  value_one = m.number_element 1 (some_lt s m 1 (omega arith));
  value_plus = λ x y. m.number_element (bit_xor (m.number x) (m.number y)) (xor_lt m.bits (m.number x) (m.number y) (m.number_lt x) (m.number_lt y));
}
