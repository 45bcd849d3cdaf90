-- The equations that the absent words solve. Assumes nothing.
use Rattle.std.specs.Prelude.{◌≡◌, ℕ, ◌<◌, cond, List, length, ◌≢◌, slice_index}
use Rattle.field.specs.Structure.{Structure}
use Rattle.extension.specs.declared.ext.Ext.{Ext}
use Rattle.extension.specs.Extend.{extend}
use Rattle.codeword.specs.Sums.{total}
use Rattle.codeword.specs.Codeword.{element}
use Rattle.distance.specs.Column.{column}
use Rattle.elimination.specs.declared.four.Four.{Four}
use Rattle.elimination.specs.declared.system.Equation.{Equation}
use Rattle.elimination.specs.Equations.{at, coefficient, right}
use Rattle.elimination.specs.Places.{place, made}
use Rattle.restore.specs.Restored.{absent}

module _ {K : Type 0} (s : Structure K) where
  -- Four sums with a multiple of a column added.
  abbrev pub multiple_added : Four (Ext K) → Four (Ext K) → Ext K → Four (Ext K)
  multiple_added x y by = made (λ k. (extend s).plus (place x k) ((extend s).times (place y k) by))

  -- The word of a present bay as an element, and zero for an absent one.
  abbrev pub known : List ℕ → List ℕ → ℕ → Ext K
  known bays marks bay = cond (absent marks bay) (extend s).zero (element s (slice_index bays bay))

  -- What the present words add to check word k, its own bay among them.
  abbrev pub present_sum : List ℕ → List ℕ → ℕ → Ext K
  present_sum bays marks k = total (extend s) (λ b. (extend s).times (column s b k) (known bays marks b)) (length bays)

  -- The system: unknown j stands in the column of the j-th absent bay, and the right hand sides are the present sums.
  pub record Asks (bays marks : List ℕ) (places : List ℕ) (m : ℕ) (t : Four (Equation (Ext K))) : Type 0 where
    pub columns : (k j : ℕ) → k < 4 → j < m → coefficient (extend s) t k j ≡ column s (slice_index places j) k
    pub sums : (k : ℕ) → k < 4 → right (extend s) t k ≡ present_sum bays marks k

  -- The words with those of the unknowns in the first m places' bays, and the others as they were.
  pub record Placed (bays places : List ℕ) (m : ℕ) (x : Four (Ext K)) (after : List ℕ) : Type 0 where
    pub long : length after ≡ length bays
    pub filled : (j : ℕ) → j < m → slice_index after (slice_index places j) ≡ (extend s).value (at (extend s) x j)
    pub others : (bay : ℕ) → ((j : ℕ) → j < m → bay ≢ slice_index places j) → slice_index after bay ≡ slice_index bays bay
