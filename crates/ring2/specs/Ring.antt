-- A commutative ring in which each element is its own negative. Assumes nothing.
use Rattle.std.specs.Prelude.{◌≡◌}

-- The operations apart from the laws, so that a formula is written once for elements and for the prover's expressions.
pub record Ops (K : Type 0) : Type 0 where
  pub zero : K
  pub one : K
  pub plus : K → K → K
  pub times : K → K → K

pub record Ring {K : Type 0} (o : Ops K) : Type 0 where
  pub plus_assoc : (x y z : K) → o.plus (o.plus x y) z ≡ o.plus x (o.plus y z)
  pub plus_comm : (x y : K) → o.plus x y ≡ o.plus y x
  pub plus_zero : (x : K) → o.plus x o.zero ≡ x
  pub plus_self : (x : K) → o.plus x x ≡ o.zero
  pub times_assoc : (x y z : K) → o.times (o.times x y) z ≡ o.times x (o.times y z)
  pub times_comm : (x y : K) → o.times x y ≡ o.times y x
  pub times_one : (x : K) → o.times x o.one ≡ x
  pub times_plus : (x y z : K) → o.times x (o.plus y z) ≡ o.plus (o.times x y) (o.times x z)
