-- Reading and writing four values by their places. Assumes nothing.
use Rattle.std.proofs.Common.{◌≡◌, ℕ, zero, suc, ◌<◌, ◌≤◌, refl, lit<, arith}
use Rattle.field.specs.Structure.{Structure}
use Rattle.elimination.specs.declared.four.Four.{Four}
use Rattle.elimination.specs.Places.{place, made, put}
use Rattle.elimination.specs.Equations.{at}

pub place_made : {T : Type 0} (f : ℕ → T) (k : ℕ) → k < 4 → place (made f) k ≡ f k
place_made f zero h = refl
place_made f (suc zero) h = refl
place_made f (suc (suc zero)) h = refl
place_made f (suc (suc (suc zero))) h = refl
place_made f (suc (suc (suc (suc k)))) h = absurd (omega arith)

pub is_made : {T : Type 0} (f : ℕ → T) (x : Four T) → ((k : ℕ) → k < 4 → place x k ≡ f k) → x ≡ made f
is_made f x same = λ i. record { a = same 0 (lit< tt) i; b = same 1 (lit< tt) i; c = same 2 (lit< tt) i; d = same 3 (lit< tt) i }

module _ {T : Type 0} (f : Four T) where
  pub place_put : (i : ℕ) (x : T) → place (put f i x) i ≡ x
  place_put zero x = refl
  place_put (suc zero) x = refl
  place_put (suc (suc zero)) x = refl
  place_put (suc (suc (suc n))) x = refl

  pub place_other : (i : ℕ) (x : T) (k : ℕ) → i < 4 → k < 4 → (k ≡ i → ⊥) → place (put f i x) k ≡ place f k
  place_other zero x zero h l n = absurd (n refl)
  place_other zero x (suc zero) h l n = refl
  place_other zero x (suc (suc zero)) h l n = refl
  place_other zero x (suc (suc (suc k))) h l n = refl
  place_other (suc zero) x zero h l n = refl
  place_other (suc zero) x (suc zero) h l n = absurd (n refl)
  place_other (suc zero) x (suc (suc zero)) h l n = refl
  place_other (suc zero) x (suc (suc (suc k))) h l n = refl
  place_other (suc (suc zero)) x zero h l n = refl
  place_other (suc (suc zero)) x (suc zero) h l n = refl
  place_other (suc (suc zero)) x (suc (suc zero)) h l n = absurd (n refl)
  place_other (suc (suc zero)) x (suc (suc (suc k))) h l n = refl
  place_other (suc (suc (suc i))) x zero h l n = refl
  place_other (suc (suc (suc i))) x (suc zero) h l n = refl
  place_other (suc (suc (suc i))) x (suc (suc zero)) h l n = refl
  place_other (suc (suc (suc i))) x (suc (suc (suc k))) h l n = absurd (n (omega arith))

module _ {K : Type 0} (s : Structure K) (f : Four K) where
  -- the elements of four are read at the places below 4, and zero after them
  pub at_place : (j : ℕ) → j < 4 → at s f j ≡ place f j
  at_place zero h = refl
  at_place (suc zero) h = refl
  at_place (suc (suc zero)) h = refl
  at_place (suc (suc (suc zero))) h = refl
  at_place (suc (suc (suc (suc j)))) h = absurd (omega arith)

  pub at_after : (j : ℕ) → 4 ≤ j → at s f j ≡ s.zero
  at_after zero h = absurd (omega arith)
  at_after (suc zero) h = absurd (omega arith)
  at_after (suc (suc zero)) h = absurd (omega arith)
  at_after (suc (suc (suc zero))) h = absurd (omega arith)
  at_after (suc (suc (suc (suc j)))) h = refl
