-- Four equations in four unknowns, whose determinant is not zero, have one solution. Assumes nothing.
use Rattle.std.proofs.Common.{◌≡◌, ℕ, zero, suc, ◌+◌, ◌<◌, T, List, [], ◌∷◌, sym, ap, ◌∙◌, arith}
use Rattle.ring2.specs.Ring.{Ops, Ring}
use Rattle.ring2.specs.Determinant.{det4}
use Rattle.ring2.proofs.Determinants.{row4, cramer}
use Rattle.ring2.proofs.Solve.{Ex, var, nought, ◌⊕◌, ◌⊗◌, ex, den, same, solve}
use Rattle.field.specs.Structure.{Structure, ops}
use Rattle.field.proofs.Elements.{product_zero}
use Rattle.codeword.specs.Sums.{total}
use Rattle.distance.proofs.Minors.{det}
use Rattle.distance.proofs.Points.{Nonzero, equal_nonzero}

-- what holds at 0, 1, 2 and 3 holds below four
pub below_four : (P : ℕ → Type 0) → P 0 → P 1 → P 2 → P 3 → (r : ℕ) → r < 4 → P r
below_four P a b c d zero h = a
below_four P a b c d (suc zero) h = b
below_four P a b c d (suc (suc zero)) h = c
below_four P a b c d (suc (suc (suc zero))) h = d
below_four P a b c d (suc (suc (suc (suc r)))) h = absurd (omega arith)

-- the four by their number
abbrev pub pick : {K : Type 0} → K → K → K → K → ℕ → K
pick a b c d zero = a
pick a b c d (suc zero) = b
pick a b c d (suc (suc zero)) = c
pick a b c d (suc (suc (suc i))) = d

-- five columns of variables, the last for the right hand sides
abbrev C : ℕ → ℕ → Ex
C k r = var (k + r)

abbrev column_list : {K : Type 0} → (ℕ → K) → (ℕ → K) → (ℕ → K) → (ℕ → K) → (ℕ → K) → List K
column_list a b c d y = a 0 ∷ a 1 ∷ a 2 ∷ a 3 ∷ b 0 ∷ b 1 ∷ b 2 ∷ b 3 ∷ c 0 ∷ c 1 ∷ c 2 ∷ c 3 ∷ d 0 ∷ d 1 ∷ d 2 ∷ d 3 ∷ y 0 ∷ y 1 ∷ y 2 ∷ y 3 ∷ []

abbrev row_at : {K : Type 0} → Ops K → (ℕ → K) → (ℕ → K) → (ℕ → K) → (ℕ → K) → K → K → K → K → ℕ → K
row_at o a b c d x y z w r = row4 o (a r) (b r) (c r) (d r) x y z w

-- row r of the columns at the four determinants in which the right hand sides y replace a column
abbrev expanded : {K : Type 0} → Ops K → (ℕ → K) → (ℕ → K) → (ℕ → K) → (ℕ → K) → (ℕ → K) → ℕ → K
expanded o a b c d y r = row_at o a b c d (det o y b c d) (det o a y c d) (det o a b y d) (det o a b c y) r

module _ {K : Type 0} {o : Ops K} (R : Ring o) (a b c d y : ℕ → K) where
  -- two columns changed for one another
  swap_01 : det o b a c d ≡ det o a b c d
  swap_01 = solve R (column_list a b c d y) (det ex (C 4) (C 0) (C 8) (C 12)) (det ex (C 0) (C 4) (C 8) (C 12)) tt

  swap_02 : det o c b a d ≡ det o a b c d
  swap_02 = solve R (column_list a b c d y) (det ex (C 8) (C 4) (C 0) (C 12)) (det ex (C 0) (C 4) (C 8) (C 12)) tt

  swap_03 : det o d b c a ≡ det o a b c d
  swap_03 = solve R (column_list a b c d y) (det ex (C 12) (C 4) (C 8) (C 0)) (det ex (C 0) (C 4) (C 8) (C 12)) tt

  zero_column : det o (λ r. o.zero) b c d ≡ o.zero
  zero_column = solve R (column_list a b c d y) (det ex (λ r. nought) (C 4) (C 8) (C 12)) nought tt

  expand : (r : ℕ) → r < 4 → expanded o a b c d y r ≡ o.times (y r) (det o a b c d)
  expand =
      below_four (λ r. expanded o a b c d y r ≡ o.times (y r) (det o a b c d))
      (solve R (column_list a b c d y) (expanded ex (C 0) (C 4) (C 8) (C 12) (C 16) 0) (var 16 ⊗ det ex (C 0) (C 4) (C 8) (C 12)) tt)
      (solve R (column_list a b c d y) (expanded ex (C 0) (C 4) (C 8) (C 12) (C 16) 1) (var 17 ⊗ det ex (C 0) (C 4) (C 8) (C 12)) tt)
      (solve R (column_list a b c d y) (expanded ex (C 0) (C 4) (C 8) (C 12) (C 16) 2) (var 18 ⊗ det ex (C 0) (C 4) (C 8) (C 12)) tt)
      (solve R (column_list a b c d y) (expanded ex (C 0) (C 4) (C 8) (C 12) (C 16) 3) (var 19 ⊗ det ex (C 0) (C 4) (C 8) (C 12)) tt)

-- term j of a row, of the coefficient j and the unknown j
abbrev term : ℕ → Ex
term j = var j ⊗ var (4 + j)

module _ {K : Type 0} (s : Structure K) where
  -- the first unknown is zero where all right hand sides are
  first_zero : (a b c d : ℕ → K) (x y z w : K) → Nonzero s (det (ops s) a b c d)
      → ((r : ℕ) → r < 4 → row_at (ops s) a b c d x y z w r ≡ s.zero) → x ≡ s.zero
  first_zero a b c d x y z w n rows =
      product_zero s (det (ops s) a b c d) x n
      (s.ring.times_comm (det (ops s) a b c d) x
      ∙ sym (cramer s.ring (a 0) (b 0) (c 0) (d 0) (a 1) (b 1) (c 1) (d 1) (a 2) (b 2) (c 2) (d 2) (a 3) (b 3) (c 3) (d 3) x y z w)
      ∙ (λ i. det4 (ops s) (at 0 (omega arith) i) (b 0) (c 0) (d 0) (at 1 (omega arith) i) (b 1) (c 1) (d 1) (at 2 (omega arith) i) (b 2) (c 2) (d 2) (at 3 (omega arith) i) (b 3) (c 3) (d 3))
      ∙ zero_column s.ring a b c d a)
    where
      at : (r : ℕ) → r < 4 → row_at (ops s) a b c d x y z w r ≡ s.zero
      at r h = rows r h

  four_terms : (f : ℕ → K) → total s f 4 ≡ s.plus (s.plus (f 0) (f 1)) (s.plus (f 2) (f 3))
  unfolding total
  four_terms f = solve s.ring (f 0 ∷ f 1 ∷ f 2 ∷ f 3 ∷ []) (nought ⊕ var 0 ⊕ var 1 ⊕ var 2 ⊕ var 3) (var 0 ⊕ var 1 ⊕ (var 2 ⊕ var 3)) tt

  -- columns by their number: with right hand sides that are zero, the unknowns are
  module _ (c : ℕ → ℕ → K) (n : Nonzero s (det (ops s) (c 0) (c 1) (c 2) (c 3))) where
    pub four_independent : (x : ℕ → K) → ((r : ℕ) → r < 4 → total s (λ j. s.times (c j r) (x j)) 4 ≡ s.zero) → (j : ℕ) → j < 4 → x j ≡ s.zero
    four_independent x rows =
        below_four (λ j. x j ≡ s.zero)
        (first_zero (c 0) (c 1) (c 2) (c 3) (x 0) (x 1) (x 2) (x 3) n row)
        (first_zero (c 1) (c 0) (c 2) (c 3) (x 1) (x 0) (x 2) (x 3) (equal_nonzero s (swap_01 s.ring (c 0) (c 1) (c 2) (c 3) (c 0)) n) (λ r h. terms r (term 1 ⊕ term 0 ⊕ (term 2 ⊕ term 3)) tt ∙ row r h))
        (first_zero (c 2) (c 1) (c 0) (c 3) (x 2) (x 1) (x 0) (x 3) (equal_nonzero s (swap_02 s.ring (c 0) (c 1) (c 2) (c 3) (c 0)) n) (λ r h. terms r (term 2 ⊕ term 1 ⊕ (term 0 ⊕ term 3)) tt ∙ row r h))
        (first_zero (c 3) (c 1) (c 2) (c 0) (x 3) (x 1) (x 2) (x 0) (equal_nonzero s (swap_03 s.ring (c 0) (c 1) (c 2) (c 3) (c 0)) n) (λ r h. terms r (term 3 ⊕ term 1 ⊕ (term 2 ⊕ term 0)) tt ∙ row r h))
      where
        around : ℕ → List K
        around r = c 0 r ∷ c 1 r ∷ c 2 r ∷ c 3 r ∷ x 0 ∷ x 1 ∷ x 2 ∷ x 3 ∷ []

        row : (r : ℕ) → r < 4 → row_at (ops s) (c 0) (c 1) (c 2) (c 3) (x 0) (x 1) (x 2) (x 3) r ≡ s.zero
        row r h = sym (four_terms (λ j. s.times (c j r) (x j))) ∙ rows r h

        -- the terms of a row, in another order
        terms : (r : ℕ) (e : Ex) → T (same e (term 0 ⊕ term 1 ⊕ (term 2 ⊕ term 3))) → den (ops s) (around r) e ≡ row_at (ops s) (c 0) (c 1) (c 2) (c 3) (x 0) (x 1) (x 2) (x 3) r
        terms r e t = solve s.ring (around r) e (term 0 ⊕ term 1 ⊕ (term 2 ⊕ term 3)) t

    -- the solution, by Cramer's rule
    abbrev pub solution : (ℕ → K) → ℕ → K
    solution y j =
        s.times (s.inverse (det (ops s) (c 0) (c 1) (c 2) (c 3)))
        (pick (det (ops s) y (c 1) (c 2) (c 3)) (det (ops s) (c 0) y (c 2) (c 3)) (det (ops s) (c 0) (c 1) y (c 3)) (det (ops s) (c 0) (c 1) (c 2) y) j)

    pub solution_is : (y : ℕ → K) (r : ℕ) → r < 4 → total s (λ j. s.times (c j r) (solution y j)) 4 ≡ y r
    solution_is y r h =
        let D : K = det (ops s) (c 0) (c 1) (c 2) (c 3) in
        let i : K = s.inverse D in
        four_terms (λ j. s.times (c j r) (solution y j))
        ∙ solve s.ring
        (c 0 r ∷ c 1 r ∷ c 2 r ∷ c 3 r ∷ det (ops s) y (c 1) (c 2) (c 3) ∷ det (ops s) (c 0) y (c 2) (c 3) ∷ det (ops s) (c 0) (c 1) y (c 3) ∷ det (ops s) (c 0) (c 1) (c 2) y ∷ i ∷ [])
        (row4 ex (var 0) (var 1) (var 2) (var 3) (var 8 ⊗ var 4) (var 8 ⊗ var 5) (var 8 ⊗ var 6) (var 8 ⊗ var 7))
        (var 8 ⊗ row4 ex (var 0) (var 1) (var 2) (var 3) (var 4) (var 5) (var 6) (var 7)) tt
        ∙ ap (s.times i) (expand s.ring (c 0) (c 1) (c 2) (c 3) y r h)
        ∙ solve s.ring (i ∷ y r ∷ D ∷ []) (var 0 ⊗ (var 1 ⊗ var 2)) (var 1 ⊗ (var 2 ⊗ var 0)) tt
        ∙ ap (s.times (y r)) (s.times_inverse D n) ∙ s.ring.times_one (y r)
