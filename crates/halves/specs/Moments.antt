-- The sums t0 to t3 of a run by halves, and the check words that they give. Assumes nothing.
use Rattle.std.specs.Prelude.{ℕ, ◌^◌, List, slice_index}
use Rattle.field.specs.Structure.{Structure}
use Rattle.extension.specs.declared.ext.Ext.{Ext}
use Rattle.extension.specs.Formulas.{embed, root_u}
use Rattle.extension.specs.Extend.{extend}
use Rattle.codeword.specs.Sums.{total, power}
use Rattle.codeword.specs.Codeword.{element}
use Rattle.halves.specs.Runs.{none, one, two, run}

module _ {K : Type 0} (s : Structure K) where
  -- v_j, the base element numbered 2^j, its square and its cube, and the mixed factor v_j²·v_k + v_j·v_k²
  abbrev pub bit : ℕ → K
  bit j = s.of (2 ^ j)

  abbrev pub bit2 : ℕ → K
  bit2 j = s.times (bit j) (bit j)

  abbrev pub bit3 : ℕ → K
  bit3 j = s.times (bit2 j) (bit j)

  abbrev pub mixed : ℕ → ℕ → K
  mixed j k = s.plus (s.times (bit2 j) (bit k)) (s.times (bit j) (bit2 k))

  -- the sum over all bits j of R(j) by a factor, and over all pairs j < k of R(j, k) by a factor
  abbrev pub singles : (ℕ → K) → ℕ → (ℕ → Ext K) → Ext K
  singles c m f = total (extend s) (λ j. (extend s).times (run (extend s) (one j) m f) (embed s (c j))) m

  abbrev pub pairs : (ℕ → ℕ → K) → ℕ → (ℕ → Ext K) → Ext K
  pairs c m f =
      total (extend s) (λ k. total (extend s) (λ j. (extend s).times (run (extend s) (two j k) m f) (embed s (c j k))) k) m

  -- t0 = R(none), t1 = Σ v_j·R(j), t2 = Σ v_j²·R(j), t3 = Σ v_j³·R(j) + Σ (v_j²·v_k + v_j·v_k²)·R(j, k)
  abbrev pub t0 : ℕ → (ℕ → Ext K) → Ext K
  t0 m f = run (extend s) none m f

  abbrev pub t1 : ℕ → (ℕ → Ext K) → Ext K
  t1 m f = singles bit m f

  abbrev pub t2 : ℕ → (ℕ → Ext K) → Ext K
  t2 m f = singles bit2 m f

  abbrev pub t3 : ℕ → (ℕ → Ext K) → Ext K
  t3 m f = (extend s).plus (singles bit3 m f) (pairs mixed m f)

  -- the line's items as elements; words past its end are zero
  abbrev pub items_of : List ℕ → ℕ → Ext K
  items_of items i = element s (slice_index items i)

  -- what t0 to t3 are: the sum of d·w^l, where w is the base element of the item's number
  abbrev pub moment : ℕ → ℕ → (ℕ → Ext K) → Ext K
  moment l n f = total (extend s) (λ i. (extend s).times (f i) (power (extend s) (embed s (s.of i)) l)) n

  -- the check words from t0 to t3, by u
  abbrev pub by_u : Ext K → Ext K
  by_u x = (extend s).times x (root_u s)

  abbrev pub shifted1 : Ext K → Ext K → Ext K
  shifted1 a0 a1 = (extend s).plus a1 (by_u a0)

  abbrev pub shifted2 : Ext K → Ext K → Ext K
  shifted2 a0 a2 = (extend s).plus a2 (by_u (by_u a0))

  abbrev pub shifted3 : Ext K → Ext K → Ext K → Ext K → Ext K
  shifted3 a0 a1 a2 a3 = (extend s).plus a3 (by_u ((extend s).plus a2 (by_u (shifted1 a0 a1))))
