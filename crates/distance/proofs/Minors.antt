-- The determinants of four columns, each a basis vector or the powers of an element, as products. Assumes nothing.
use Rattle.std.proofs.Common.{◌≡◌, ℕ, [], ◌∷◌}
use Rattle.ring2.specs.Ring.{Ops, Ring}
use Rattle.ring2.specs.Determinant.{det4}
use Rattle.ring2.proofs.Solve.{Ex, var, unit, ◌⊕◌, ◌⊗◌, ex, solve}
use Rattle.distance.specs.Column.{basis, powers}

-- the determinant of four columns, each by its rows
abbrev pub det : {K : Type 0} → Ops K → (ℕ → K) → (ℕ → K) → (ℕ → K) → (ℕ → K) → K
det o a b c d = det4 o (a 0) (b 0) (c 0) (d 0) (a 1) (b 1) (c 1) (d 1) (a 2) (b 2) (c 2) (d 2) (a 3) (b 3) (c 3) (d 3)

module _ {K : Type 0} (o : Ops K) where
  -- the Vandermonde products of three and of four
  abbrev pub three_sums : K → K → K → K
  three_sums x y z = o.times (o.plus x y) (o.times (o.plus x z) (o.plus y z))

  abbrev pub four_sums : K → K → K → K → K
  four_sums x y z w = o.times (three_sums x y z) (o.times (o.plus x w) (o.times (o.plus y w) (o.plus z w)))

  -- x + y + z, and x y + x z + y z
  abbrev pub sum3 : K → K → K → K
  sum3 x y z = o.plus (o.plus x y) z

  abbrev pub pairs3 : K → K → K → K
  pairs3 x y z = o.plus (o.plus (o.times x y) (o.times x z)) (o.times y z)

  -- x x + x y + y y
  abbrev pub trinomial : K → K → K
  trinomial x y = o.plus (o.plus (o.times x x) (o.times x y)) (o.times y y)

-- the columns of the expressions: a basis vector, and the powers of a variable
abbrev B : ℕ → ℕ → Ex
B = basis ex

abbrev P : ℕ → ℕ → Ex
P i = powers ex (var i)

module _ {K : Type 0} {o : Ops K} (R : Ring o) where
  -- four elements
  module _ (x y z w : K) where
    pub four : det o (powers o x) (powers o y) (powers o z) (powers o w) ≡ four_sums o x y z w
    four = solve R (x ∷ y ∷ z ∷ w ∷ []) (det ex (P 0) (P 1) (P 2) (P 3)) (four_sums ex (var 0) (var 1) (var 2) (var 3)) tt

  -- three elements, by the check bay: its row is struck out
  module _ (x y z : K) where
    pub three_0 : det o (basis o 0) (powers o x) (powers o y) (powers o z) ≡ o.times (three_sums o x y z) (o.times x (o.times y z))
    three_0 = solve R (x ∷ y ∷ z ∷ []) (det ex (B 0) (P 0) (P 1) (P 2)) (three_sums ex (var 0) (var 1) (var 2) ⊗ (var 0 ⊗ (var 1 ⊗ var 2))) tt

    pub three_1 : det o (basis o 1) (powers o x) (powers o y) (powers o z) ≡ o.times (three_sums o x y z) (pairs3 o x y z)
    three_1 = solve R (x ∷ y ∷ z ∷ []) (det ex (B 1) (P 0) (P 1) (P 2)) (three_sums ex (var 0) (var 1) (var 2) ⊗ pairs3 ex (var 0) (var 1) (var 2)) tt

    pub three_2 : det o (basis o 2) (powers o x) (powers o y) (powers o z) ≡ o.times (three_sums o x y z) (sum3 o x y z)
    three_2 = solve R (x ∷ y ∷ z ∷ []) (det ex (B 2) (P 0) (P 1) (P 2)) (three_sums ex (var 0) (var 1) (var 2) ⊗ sum3 ex (var 0) (var 1) (var 2)) tt

    pub three_3 : det o (basis o 3) (powers o x) (powers o y) (powers o z) ≡ three_sums o x y z
    three_3 = solve R (x ∷ y ∷ z ∷ []) (det ex (B 3) (P 0) (P 1) (P 2)) (three_sums ex (var 0) (var 1) (var 2)) tt

  -- two elements, by the two check bays
  module _ (x y : K) where
    pub two_23 : det o (basis o 2) (basis o 3) (powers o x) (powers o y) ≡ o.plus x y
    two_23 = solve R (x ∷ y ∷ []) (det ex (B 2) (B 3) (P 0) (P 1)) (var 0 ⊕ var 1) tt

    pub two_13 : det o (basis o 1) (basis o 3) (powers o x) (powers o y) ≡ o.times (o.plus x y) (o.plus x y)
    two_13 = solve R (x ∷ y ∷ []) (det ex (B 1) (B 3) (P 0) (P 1)) ((var 0 ⊕ var 1) ⊗ (var 0 ⊕ var 1)) tt

    pub two_12 : det o (basis o 1) (basis o 2) (powers o x) (powers o y) ≡ o.times (o.plus x y) (trinomial o x y)
    two_12 = solve R (x ∷ y ∷ []) (det ex (B 1) (B 2) (P 0) (P 1)) ((var 0 ⊕ var 1) ⊗ trinomial ex (var 0) (var 1)) tt

    pub two_03 : det o (basis o 0) (basis o 3) (powers o x) (powers o y) ≡ o.times (o.times x y) (o.plus x y)
    two_03 = solve R (x ∷ y ∷ []) (det ex (B 0) (B 3) (P 0) (P 1)) (var 0 ⊗ var 1 ⊗ (var 0 ⊕ var 1)) tt

    pub two_02 : det o (basis o 0) (basis o 2) (powers o x) (powers o y) ≡ o.times (o.times x y) (o.times (o.plus x y) (o.plus x y))
    two_02 = solve R (x ∷ y ∷ []) (det ex (B 0) (B 2) (P 0) (P 1)) (var 0 ⊗ var 1 ⊗ ((var 0 ⊕ var 1) ⊗ (var 0 ⊕ var 1))) tt

    pub two_01 : det o (basis o 0) (basis o 1) (powers o x) (powers o y) ≡ o.times (o.times x y) (o.times (o.times x y) (o.plus x y))
    two_01 = solve R (x ∷ y ∷ []) (det ex (B 0) (B 1) (P 0) (P 1)) (var 0 ⊗ var 1 ⊗ (var 0 ⊗ var 1 ⊗ (var 0 ⊕ var 1))) tt

  -- one element, by its row
  module _ (x : K) where
    pub one_0 : det o (basis o 1) (basis o 2) (basis o 3) (powers o x) ≡ o.one
    one_0 = solve R (x ∷ []) (det ex (B 1) (B 2) (B 3) (P 0)) unit tt

    pub one_1 : det o (basis o 0) (basis o 2) (basis o 3) (powers o x) ≡ x
    one_1 = solve R (x ∷ []) (det ex (B 0) (B 2) (B 3) (P 0)) (var 0) tt

    pub one_2 : det o (basis o 0) (basis o 1) (basis o 3) (powers o x) ≡ o.times x x
    one_2 = solve R (x ∷ []) (det ex (B 0) (B 1) (B 3) (P 0)) (var 0 ⊗ var 0) tt

    pub one_3 : det o (basis o 0) (basis o 1) (basis o 2) (powers o x) ≡ o.times x (o.times x x)
    one_3 = solve R (x ∷ []) (det ex (B 0) (B 1) (B 2) (P 0)) (var 0 ⊗ (var 0 ⊗ var 0)) tt

  pub none : det o (basis o 0) (basis o 1) (basis o 2) (basis o 3) ≡ o.one
  none = solve R [] (det ex (B 0) (B 1) (B 2) (B 3)) unit tt
