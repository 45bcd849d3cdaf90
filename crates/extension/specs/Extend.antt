-- The extension of a field is a field: a + b u, with u u = u + v, numbered a + q b, and the constant v u. Assumes nothing.
use Rattle.std.proofs.Common.{ap, ◌∙◌, arith}
use Rattle.std.specs.Prelude.{◌+◌}
use Rattle.field.specs.Structure.{Structure, ops}
use Rattle.extension.specs.declared.ext.Ext.{Ext}
use Rattle.extension.specs.Formulas.{pair, over, multiplied, divided, numbered, element}
use Rattle.extension.specs.Laws.{extended_ring, divided_zero, times_divided, no_root_over, numbered_lt, element_numbered, numbered_element, numbered_low, numbered_plus}

-- It is shut, since three extensions that are open grow too large for `search`.
unfoldable pub extend : {K : Type 0} → Structure K → Structure (Ext K)
extend s = record {
  zero = (over (ops s) s.v).zero;
  one = (over (ops s) s.v).one;
  plus = (over (ops s) s.v).plus;
  times = multiplied s;
  inverse = divided s;
  v = pair s.zero s.v;
  bits = s.bits + s.bits;
  value = numbered s;
  of = element s;
  ring = extended_ring s;
  inverse_zero = divided_zero s;
  times_inverse = times_divided s;
  no_root = λ w e. no_root_over s w s.zero e;
  no_root_one = λ w e. no_root_over s w (s.plus s.zero s.one) (e ∙ ap (pair (s.plus s.zero s.one)) (s.ring.plus_zero s.v));
  two_bits = omega (arith, s.two_bits);
  value_lt = numbered_lt s;
  of_value = element_numbered s;
  value_of = numbered_element s;
  value_zero = numbered_low s s.zero ∙ s.value_zero;
  value_one = numbered_low s s.one ∙ s.value_one;
  value_plus = numbered_plus s;
}
