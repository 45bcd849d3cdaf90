-- Two fields are equal but for the type of their elements: numbers add, multiply and invert alike, and the constants have one number. Assumes nothing.
use Rattle.std.specs.Prelude.{◌≡◌}
use Rattle.field.specs.Structure.{Structure}
use Rattle.field.specs.Numbers.{product, inverted}

pub record Equals {L K : Type 0} (t : Structure L) (s : Structure K) : Type 0 where
  pub bits_are : t.bits ≡ s.bits
  pub zero_is : t.value t.zero ≡ s.value s.zero
  pub one_is : t.value t.one ≡ s.value s.one
  pub constant_is : t.value t.v ≡ s.value s.v
  pub sum_is : (x y : L) → t.value (t.plus x y) ≡ s.value (s.plus (s.of (t.value x)) (s.of (t.value y)))
  pub product_is : (x y : L) → t.value (t.times x y) ≡ product s (t.value x) (t.value y)
  pub inverse_is : (x : L) → t.value (t.inverse x) ≡ inverted s (t.value x)
