-- What follows at once from the laws of a commutative ring of characteristic two. Assumes nothing.
use mathlib.Core.Path.{◌≡◌, sym, ap, ap₂, ◌∙◌}
use Rattle.ring2.specs.Ring.{Ops, Ring}

module _ {K : Type 0} {o : Ops K} (R : Ring o) where
  pub zero_plus : (x : K) → o.plus o.zero x ≡ x
  zero_plus x = R.plus_comm o.zero x ∙ R.plus_zero x

  pub one_times : (x : K) → o.times o.one x ≡ x
  one_times x = R.times_comm o.one x ∙ R.times_one x

  -- x + y = z gives x = z + y
  pub moved : (x y z : K) → o.plus x y ≡ z → x ≡ o.plus z y
  moved x y z e =
      sym (R.plus_zero x) ∙ ap (o.plus x) (sym (R.plus_self y)) ∙ sym (R.plus_assoc x y y) ∙ ap (λ w. o.plus w y) e

  -- a sum is zero only of equals
  pub equal : (x y : K) → o.plus x y ≡ o.zero → x ≡ y
  equal x y e = moved x y o.zero e ∙ zero_plus y

  pub times_zero : (x : K) → o.times x o.zero ≡ o.zero
  times_zero x =
      let twice : o.times x o.zero ≡ o.plus (o.times x o.zero) (o.times x o.zero)
      = ap (o.times x) (sym (R.plus_zero o.zero)) ∙ R.times_plus x o.zero o.zero in
      twice ∙ R.plus_self (o.times x o.zero)

  pub zero_times : (x : K) → o.times o.zero x ≡ o.zero
  zero_times x = R.times_comm o.zero x ∙ times_zero x

  pub plus_times : (x y z : K) → o.times (o.plus x y) z ≡ o.plus (o.times x z) (o.times y z)
  plus_times x y z =
      R.times_comm (o.plus x y) z ∙ R.times_plus z x y ∙ ap₂ o.plus (R.times_comm z x) (R.times_comm z y)

  -- (a + b) + (c + d) = (a + c) + (b + d)
  pub exchange : (a b c d : K) → o.plus (o.plus a b) (o.plus c d) ≡ o.plus (o.plus a c) (o.plus b d)
  exchange a b c d =
      R.plus_assoc a b (o.plus c d)
      ∙ ap (o.plus a) (sym (R.plus_assoc b c d) ∙ ap (λ w. o.plus w d) (R.plus_comm b c) ∙ R.plus_assoc c b d)
      ∙ sym (R.plus_assoc a c (o.plus b d))

  -- a (x b) = x (a b)
  pub swap : (a x b : K) → o.times a (o.times x b) ≡ o.times x (o.times a b)
  swap a x b = sym (R.times_assoc a x b) ∙ ap (λ w. o.times w b) (R.times_comm a x) ∙ R.times_assoc x a b
