-- The absent bays in rising order. Assumes nothing.
use Rattle.std.specs.Prelude.{◌≡◌, ℕ, ◌<◌, Bool, true, List, length, slice_index}
use Rattle.codeword.specs.Sums.{count}

-- The numbers below n that pass the test, each of them once, in rising order.
pub record Absences (test : ℕ → Bool) (n : ℕ) (bays : List ℕ) : Type 0 where
  pub many : length bays ≡ count test n
  pub below : (j : ℕ) → j < length bays → slice_index bays j < n
  pub chosen : (j : ℕ) → j < length bays → test (slice_index bays j) ≡ true
  pub rising : (i j : ℕ) → i < j → j < length bays → slice_index bays i < slice_index bays j
  pub complete : (bay : ℕ) → bay < n → test bay ≡ true → (j : ℕ) × (j < length bays) × (slice_index bays j ≡ bay)
