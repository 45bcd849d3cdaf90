-- What the steps of the elimination do to the table of a system. Assumes nothing.
use Rattle.std.proofs.Common.{◌≡◌, ℕ, zero, suc, ◌<◌, refl, ap, ◌∙◌, ap₂, arith}
use native.Mathlib.Decide.{ℕ_discrete}
use Rattle.field.specs.Structure.{Structure}
use Rattle.systems.specs.Rows.{Augmented, Exchanged, Added}
use Rattle.elimination.specs.declared.four.Four.{Four}
use Rattle.elimination.specs.declared.system.Equation.{Equation}
use Rattle.elimination.specs.Places.{place, put}
use Rattle.elimination.specs.Equations.{at, coefficient, right, cell, table, multiplied, summed, across, by_columns}
use Rattle.elimination.proofs.Places.{place_made, place_put, place_other, at_place}

module _ {K : Type 0} (s : Structure K) where
  cell_multiplied : (c : K) (e : Equation K) (j : ℕ) → cell s (multiplied s c e) j ≡ s.times c (cell s e j)
  cell_multiplied c e zero = refl
  cell_multiplied c e (suc zero) = refl
  cell_multiplied c e (suc (suc zero)) = refl
  cell_multiplied c e (suc (suc (suc zero))) = refl
  cell_multiplied c e (suc (suc (suc (suc j)))) = refl

  cell_summed : (e f : Equation K) (j : ℕ) → cell s (summed s e f) j ≡ s.plus (cell s e j) (cell s f j)
  cell_summed e f zero = refl
  cell_summed e f (suc zero) = refl
  cell_summed e f (suc (suc zero)) = refl
  cell_summed e f (suc (suc (suc zero))) = refl
  cell_summed e f (suc (suc (suc (suc j)))) = refl

  cell_coefficient : (e : Equation K) (j : ℕ) → j < 4 → cell s e j ≡ at s e.coefficients j
  cell_coefficient e zero h = refl
  cell_coefficient e (suc zero) h = refl
  cell_coefficient e (suc (suc zero)) h = refl
  cell_coefficient e (suc (suc (suc zero))) h = refl
  cell_coefficient e (suc (suc (suc (suc j)))) h = absurd (omega arith)

  -- the system of four columns: the coefficient of unknown j in equation r stands in column j at place r
  pub coefficient_columns : (columns : Four (Four K)) (b : Four K) (r j : ℕ) → r < 4 → j < 4 → coefficient s (by_columns columns b) r j ≡ place (place columns j) r
  coefficient_columns columns b r j h l =
      ap (λ e. at s e.coefficients j) (place_made (across columns b) r h)
      ∙ at_place s (across columns b r).coefficients j l ∙ place_made (λ k. place (place columns k) r) j l

  pub right_columns : (columns : Four (Four K)) (b : Four K) (r : ℕ) → r < 4 → right s (by_columns columns b) r ≡ place b r
  right_columns columns b r h = ap (λ e. e.right) (place_made (across columns b) r h)

  pub augmented : (t : Four (Equation K)) → Augmented s (coefficient s t) (right s t) (table s t)
  augmented t = record { coefficients = λ r j l h. cell_coefficient (place t r) j h; right = λ r l. refl }

  pub exchanged : (t u : Four (Equation K)) (p q : ℕ) → p < 4 → q < 4 → u ≡ put (put t p (place t q)) q (place t p)
      → Exchanged s (table s t) p q (table s u)
  exchanged t u p q h k e = record {
    first = λ j l. ap (λ w. cell s w j) first;
    second = λ j l. ap (λ w. cell s w j) (ap (λ w. place w q) e ∙ place_put (put t p (place t q)) q (place t p));
    others = λ r j l lj n o. ap (λ w. cell s w j)
        (ap (λ w. place w r) e ∙ place_other (put t p (place t q)) q (place t p) r k l o ∙ place_other t p (place t q) r h l n);
  }
    where
      first : place u p ≡ place t q
      first = elim (ℕ_discrete p q) [
        | yes i ↦ ap₂ place e i ∙ place_put (put t p (place t q)) q (place t p) ∙ ap (place t) i
        | no n ↦ ap (λ w. place w p) e ∙ place_other (put t p (place t q)) q (place t p) p k h n ∙ place_put t p (place t q)
      ]

  -- row k plus so many times row p that its element in column p becomes zero
  abbrev reduced : Four (Equation K) → ℕ → ℕ → Equation K
  reduced t p k = summed s (place t k) (multiplied s (cell s (place t k) p) (place t p))

  pub added : (t u : Four (Equation K)) (p : ℕ) → place u p ≡ place t p → ((k : ℕ) → k < 4 → (k ≡ p → ⊥) → place u k ≡ reduced t p k)
      → Added s (table s t) p (λ k. table s t k p) (table s u)
  added t u p pivot others = record {
    row = λ j l. ap (λ w. cell s w j) pivot;
    others = λ r j l lj o.
        ap (λ w. cell s w j) (others r l o) ∙ cell_summed (place t r) (multiplied s (cell s (place t r) p) (place t p)) j
        ∙ ap (s.plus (cell s (place t r) j)) (cell_multiplied (cell s (place t r) p) (place t p) j);
  }
