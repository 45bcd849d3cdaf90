-- The columns of at most four bays are independent. Assumes nothing.
use Rattle.std.proofs.Common.{◌≡◌, ℕ, ◌+◌, ◌<◌, ◌≤◌, Bool, true, false, sym, refl, ap, ◌∙◌, subst, arith}
use Rattle.ring2.proofs.Laws.{times_zero}
use Rattle.field.specs.Structure.{Structure, ops, size}
use Rattle.extension.specs.declared.ext.Ext.{Ext}
use Rattle.extension.specs.Extend.{extend}
use Rattle.codeword.specs.Sums.{total, count}
use Rattle.distance.specs.Column.{column, weighed}
use Rattle.distance.specs.Theorems.{Independent}
use Rattle.distance.proofs.Minors.{det}
use Rattle.distance.proofs.Points.{Nonzero}
use Rattle.distance.proofs.Nonzero.{det_nonzero}
use Rattle.distance.proofs.Cramer.{four_independent}
use Rattle.distance.proofs.Chosen.{larger, Listed, listed, spread, spread_off, spread_at, spread_sum, hit, not_hit, count_hit}

module _ {K : Type 0} (s : Structure K) (n : ℕ) (fits : n ≤ size s) where
  -- the columns of four listed bays
  pub listed_det : {test : ℕ → Bool} (l : Listed (extend s) test (n + 4) 4)
      → Nonzero (extend s) (det (ops (extend s)) (column s (l.nth 0)) (column s (l.nth 1)) (column s (l.nth 2)) (column s (l.nth 3)))
  listed_det l =
      det_nonzero s n fits (l.nth 0) (l.nth 1) (l.nth 2) (l.nth 3)
      (l.rising 0 1 (omega arith) (omega arith)) (l.rising 1 2 (omega arith) (omega arith)) (l.rising 2 3 (omega arith) (omega arith)) (l.below 3 (omega arith))

  -- elements that are zero but in four chosen bays, and whose four rows are zero, are all zero
  four_chosen : (test : ℕ → Bool) → Listed (extend s) test (n + 4) 4 → (f : ℕ → Ext K)
      → ((b : ℕ) → b < n + 4 → test b ≡ false → f b ≡ (extend s).zero) → ((r : ℕ) → r < 4 → weighed s f n r ≡ (extend s).zero)
      → (b : ℕ) → b < n + 4 → f b ≡ (extend s).zero
  four_chosen test l f off rows b h = go (test b) refl
    where
      all : (j : ℕ) → j < 4 → f (l.nth j) ≡ (extend s).zero
      all =
          four_independent (extend s) (λ j. column s (l.nth j)) (listed_det l) (λ j. f (l.nth j))
          (λ r k.
          sym (l.sum (λ c. (extend s).times (column s c r) (f c)) (λ c p e. ap ((extend s).times (column s c r)) (off c p e) ∙ times_zero (extend s).ring (column s c r)))
          ∙ rows r k)

      go : (t : Bool) → test b ≡ t → f b ≡ (extend s).zero
      go false e = off b h e
      go true e = let (j, k, p) = l.complete b h e in ap f (sym p) ∙ all j k

  -- so too with at most four
  pub chosen_zero : (test : ℕ → Bool) → count test (n + 4) ≤ 4 → (f : ℕ → Ext K)
      → ((b : ℕ) → b < n + 4 → test b ≡ false → f b ≡ (extend s).zero) → ((r : ℕ) → r < 4 → weighed s f n r ≡ (extend s).zero)
      → (b : ℕ) → b < n + 4 → f b ≡ (extend s).zero
  chosen_zero test few f off rows =
      let (big, four, within) = larger test (n + 4) 4 few (omega arith) in
      four_chosen big (subst (Listed (extend s) big (n + 4)) four (listed (extend s) big (n + 4))) f (λ b h e. off b h (within b h e)) rows

  -- m bays in their order, and an unknown for each: where the four rows are zero, the unknowns are
  pub independent : (m : ℕ) → m ≤ 4 → (b : ℕ → ℕ) → ((i j : ℕ) → i < j → j < m → b i < b j) → ((j : ℕ) → j < m → b j < n + 4) → (x : ℕ → Ext K)
      → ((r : ℕ) → r < 4 → total (extend s) (λ j. (extend s).times (column s (b j) r) (x j)) m ≡ (extend s).zero) → (j : ℕ) → j < m → x j ≡ (extend s).zero
  independent m few b rising small x rows j h =
      sym (spread_at (extend s) b x m rising j h)
      ∙ chosen_zero (hit b m) (omega (arith, count_hit b m (n + 4))) (spread (extend s) b x m) (λ c k e. spread_off (extend s) b x m c (not_hit b m c e))
      (λ r k. spread_sum (extend s) b x (λ c. column s c r) (n + 4) m small ∙ rows r k) (b j) (small j h)

pub columns_independent : {K : Type 0} (s : Structure K) → Independent s
columns_independent s n fits m few b rising small x rows j h = independent s n fits m few b rising small x rows j h
