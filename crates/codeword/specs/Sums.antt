-- Sums and powers in a field. Assumes nothing.
use Rattle.std.specs.Prelude.{Bool, cond, ℕ, zero, suc, ◌+◌}
use Rattle.field.specs.Structure.{Structure}

module _ {K : Type 0} (s : Structure K) where
  -- f 0 + f 1 + … over all numbers below n
  unfoldable pub total : (ℕ → K) → ℕ → K
  total f zero = s.zero
  total f (suc n) = s.plus (total f n) (f n)

  -- x^n; x^0 is one
  abbrev pub power : K → ℕ → K
  power x zero = s.one
  power x (suc n) = s.times (power x n) x

-- how many numbers below n pass the test
unfoldable pub count : (ℕ → Bool) → ℕ → ℕ
count test zero = 0
count test (suc n) = cond (test n) 1 0 + count test n
