-- What an encoder holds: the numbers of the constants by which the sums R(S) are multiplied. Assumes nothing.
use Rattle.std.specs.Prelude.{◌≡◌, ℕ, ◌<◌, List, slice_index, slice_index_or}
use Rattle.field.specs.Structure.{Structure}
use Rattle.halves.specs.Moments.{bit2, bit3, mixed}
use Rattle.line_code.specs.declared.factors.Factors.{Factors}

module _ {K : Type 0} (s : Structure K) where
  -- the factors of bit k
  pub record Factored (k : ℕ) (f : Factors) : Type 0 where
    pub square : f.square ≡ s.value (bit2 s k)
    pub cube : f.cube ≡ s.value (bit3 s k)
    pub mixed_with : (j : ℕ) → j < k → slice_index f.mixed j ≡ s.value (mixed s j k)

  -- those of every bit below n, in their order
  abbrev pub Prepared : ℕ → List Factors → Type 0
  Prepared n factors = (k : ℕ) (d : Factors) → k < n → Factored k (slice_index_or factors k d)
