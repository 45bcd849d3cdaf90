-- What a field of 2 ^ bits numbered elements is: its operations, the numbers of its elements, and the laws. Assumes nothing.
use Rattle.std.specs.Prelude.{◌≡◌, ℕ, ◌^◌, ◌<◌, ◌≤◌, ◌≢◌, bit_xor}
use Rattle.ring2.specs.Ring.{Ops, Ring}

pub record Structure (K : Type 0) : Type 0 where
  pub zero : K
  pub one : K
  pub plus : K → K → K
  pub times : K → K → K
  -- the inverse of an element that is not zero, and zero of zero
  pub inverse : K → K
  -- the constant v: no w has w w + w equal to v or to v + 1, so u u = u + v has no root yet and makes the field's extension
  pub v : K
  -- there are 2 ^ bits elements
  pub bits : ℕ
  -- the number of an element, and the element of a number
  pub value : K → ℕ
  pub of : ℕ → K
  -- the laws: sum and product
  pub ring : Ring {K = K} (record { zero = zero; one = one; plus = plus; times = times })
  pub inverse_zero : inverse zero ≡ zero
  pub times_inverse : (x : K) → (x ≢ zero) → times x (inverse x) ≡ one
  pub no_root : (w : K) → plus (times w w) w ≢ v
  pub no_root_one : (w : K) → plus (times w w) w ≢ plus v one
  -- the laws: elements and the numbers below 2 ^ bits are one to one, 0 is zero, 1 is one, and a sum is the exclusive or
  pub two_bits : 2 ≤ bits
  pub value_lt : (x : K) → value x < 2 ^ bits
  pub of_value : (x : K) → of (value x) ≡ x
  pub value_of : (n : ℕ) → n < 2 ^ bits → value (of n) ≡ n
  pub value_zero : value zero ≡ 0
  pub value_one : value one ≡ 1
  pub value_plus : (x y : K) → value (plus x y) ≡ bit_xor (value x) (value y)

abbrev pub ops : {K : Type 0} → Structure K → Ops K
ops s = record { zero = s.zero; one = s.one; plus = s.plus; times = s.times }

-- the number of elements, q
abbrev pub size : {K : Type 0} → Structure K → ℕ
size s = 2 ^ s.bits
