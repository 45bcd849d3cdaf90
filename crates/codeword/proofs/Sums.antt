-- The laws of sums over all numbers below a bound. Assumes nothing.
use mathlib.Core.Path.{◌≡◌, refl, sym, ap, ap₂, ◌∙◌}
use Prim.Native.Nat.{ℕ, zero, suc, ◌+◌, ◌<◌}
use native.Mathlib.Omega.{arith}
use native.Mathlib.Numerals.{add-one}
use native.Mathlib.Decide.{ℕ_discrete}
use Rattle.ring2.proofs.Laws.{exchange, times_zero, zero_plus}
use Rattle.field.specs.Structure.{Structure}
use Rattle.codeword.specs.Sums.{total}

module _ {K : Type 0} (s : Structure K) where
  pub total_none : (f : ℕ → K) → total s f 0 ≡ s.zero
  unfolding total
  total_none f = refl

  pub total_suc : (f : ℕ → K) (n : ℕ) → total s f (suc n) ≡ s.plus (total s f n) (f n)
  unfolding total
  total_suc f n = refl

  pub total_more : (f : ℕ → K) (n : ℕ) → total s f (n + 1) ≡ s.plus (total s f n) (f n)
  total_more f n = ap (total s f) (add-one n) ∙ total_suc f n

  -- the sum depends on the terms below the bound alone
  pub total_ext : (f g : ℕ → K) (n : ℕ) → ((i : ℕ) → i < n → f i ≡ g i) → total s f n ≡ total s g n
  unfolding total
  total_ext f g zero same = refl
  total_ext f g (suc n) same = ap₂ s.plus (total_ext f g n (λ i h. same i (omega arith))) (same n (omega arith))

  pub total_plus : (f g : ℕ → K) (n : ℕ) → total s (λ i. s.plus (f i) (g i)) n ≡ s.plus (total s f n) (total s g n)
  unfolding total
  total_plus f g zero = sym (s.ring.plus_zero s.zero)
  total_plus f g (suc n) =
      ap (λ t. s.plus t (s.plus (f n) (g n))) (total_plus f g n) ∙ exchange s.ring (total s f n) (total s g n) (f n) (g n)

  pub total_zero : (f : ℕ → K) (n : ℕ) → ((i : ℕ) → i < n → f i ≡ s.zero) → total s f n ≡ s.zero
  unfolding total
  total_zero f zero none = refl
  total_zero f (suc n) none = ap₂ s.plus (total_zero f n (λ i h. none i (omega arith))) (none n (omega arith)) ∙ s.ring.plus_zero s.zero

  pub total_times : (c : K) (f : ℕ → K) (n : ℕ) → total s (λ i. s.times c (f i)) n ≡ s.times c (total s f n)
  unfolding total
  total_times c f zero = sym (times_zero s.ring c)
  total_times c f (suc n) = ap (λ t. s.plus t (s.times c (f n))) (total_times c f n) ∙ sym (s.ring.times_plus c (total s f n) (f n))

  -- the first m terms, and the others
  pub total_split : (f : ℕ → K) (m n : ℕ) → total s f (m + n) ≡ s.plus (total s f m) (total s (λ i. f (m + i)) n)
  total_split f m zero = ap (total s f) (omega arith) ∙ sym (s.ring.plus_zero (total s f m)) ∙ ap (s.plus (total s f m)) (sym (total_none (λ i. f (m + i))))
  total_split f m (suc n) =
      ap (total s f) (omega arith) ∙ total_suc f (m + n) ∙ ap (λ t. s.plus t (f (m + n))) (total_split f m n)
      ∙ s.ring.plus_assoc (total s f m) (total s (λ i. f (m + i)) n) (f (m + n))
      ∙ ap (s.plus (total s f m)) (sym (total_suc (λ i. f (m + i)) n))

  -- where one term alone is not zero
  pub total_one : (f : ℕ → K) (k n : ℕ) → k < n → ((i : ℕ) → i < n → (i ≡ k → ⊥) → f i ≡ s.zero) → total s f n ≡ f k
  unfolding total
  total_one f k zero h none = absurd (omega arith)
  total_one f k (suc n) h none = elim (ℕ_discrete k n) [
    | yes e ↦ ap₂ s.plus (total_zero f n (λ i l. none i (omega arith) (omega arith))) (ap f (sym e)) ∙ zero_plus s.ring (f k)
    | no d ↦ ap₂ s.plus (total_one f k n (omega arith) (λ i l ne. none i (omega arith) ne)) (none n (omega arith) (λ e. d (sym e))) ∙ s.ring.plus_zero (f k)
  ]
