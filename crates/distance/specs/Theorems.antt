-- What the syndromes tell of words, and that any four columns are independent: the statements. Assumes nothing.
use Rattle.std.specs.Prelude.{◌≡◌, ℕ, ◌+◌, ◌<◌, ◌≤◌, List, length, drop, slice_index}
use Rattle.field.specs.Structure.{Structure, size}
use Rattle.extension.specs.declared.ext.Ext.{Ext}
use Rattle.extension.specs.Extend.{extend}
use Rattle.codeword.specs.Sums.{total}
use Rattle.codeword.specs.Codeword.{words, codeword}
use Rattle.distance.specs.Column.{column, syndrome}

module _ {K : Type 0} (s : Structure K) where
  -- Words, one for each bay, whose four syndromes are zero are the codeword of their items; and a codeword has zero syndromes.
  pub record BySyndromes : Type 0 where
    pub enough : (n : ℕ) (bays : List ℕ) → length bays ≡ n + 4 → ((b : ℕ) → b < n + 4 → slice_index bays b < words s)
        → ((r : ℕ) → r < 4 → syndrome s bays n r ≡ (extend s).zero) → bays ≡ codeword s (drop 4 bays)
    pub needed : (items : List ℕ) (r : ℕ) → r < 4 → syndrome s (codeword s items) (length items) r ≡ (extend s).zero

  -- At most four bays b in their order, and x for each: where the sum of x times column is zero in the four rows, each x is zero.
  abbrev pub Independent : Type 0
  Independent = (n : ℕ) → n ≤ size s → (m : ℕ) → m ≤ 4 → (b : ℕ → ℕ) → ((i j : ℕ) → i < j → j < m → b i < b j) → ((j : ℕ) → j < m → b j < n + 4)
      → (x : ℕ → Ext K) → ((r : ℕ) → r < 4 → total (extend s) (λ j. (extend s).times (column s (b j) r) (x j)) m ≡ (extend s).zero)
      → (j : ℕ) → j < m → x j ≡ (extend s).zero
