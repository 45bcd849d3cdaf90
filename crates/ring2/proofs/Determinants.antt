-- Identities of determinants of four rows, by `solve` and by `solved`: what the prover has to be strong enough for. Assumes nothing.
use mathlib.Core.Path.{◌≡◌}
use mathlib.Core.List.{[], ◌∷◌}
use Rattle.ring2.specs.Ring.{Ops, Ring}
use Rattle.ring2.specs.Determinant.{det4}
use Rattle.ring2.proofs.Solve.{var, ◌⊗◌, ex, solve, reading, solved}

module _ {K : Type 0} (o : Ops K) where
  abbrev sq : K → K
  sq x = o.times x x

  abbrev cube : K → K
  cube x = o.times x (o.times x x)

  -- the Vandermonde determinant, and its product
  abbrev pub vandermonde : K → K → K → K → K
  vandermonde x y z w =
      det4 o o.one o.one o.one o.one x y z w (sq x) (sq y) (sq z) (sq w) (cube x) (cube y) (cube z) (cube w)

  abbrev pub differences : K → K → K → K → K
  differences x y z w =
      o.times (o.times (o.plus x y) (o.times (o.plus x z) (o.plus x w))) (o.times (o.plus y z) (o.times (o.plus y w) (o.plus z w)))

  -- one row times a column of four unknowns
  abbrev pub row4 : K → K → K → K → K → K → K → K → K
  row4 a b c d x y z w = o.plus (o.plus (o.times a x) (o.times b y)) (o.plus (o.times c z) (o.times d w))

  -- the determinant whose first column is replaced by the right hand sides at x, y, z, w
  abbrev pub replaced : K → K → K → K → K → K → K → K → K → K → K → K → K → K → K → K → K → K → K → K → K
  replaced a b c d e f g h i j k l m n p q x y z w =
      det4 o (row4 a b c d x y z w) b c d (row4 e f g h x y z w) f g h (row4 i j k l x y z w) j k l (row4 m n p q x y z w) n p q

module _ {K : Type 0} {o : Ops K} (R : Ring o) where
  pub vandermonde_is : (x y z w : K) → vandermonde o x y z w ≡ differences o x y z w
  vandermonde_is x y z w =
      solved R (x ∷ y ∷ z ∷ w ∷ []) (search reading depth 20 fits 20000) (search reading depth 20 fits 20000) tt

  -- Cramer's rule for the first of four unknowns
  pub cramer : (a b c d e f g h i j k l m n p q x y z w : K)
      → replaced o a b c d e f g h i j k l m n p q x y z w ≡ o.times x (det4 o a b c d e f g h i j k l m n p q)
  cramer a b c d e f g h i j k l m n p q x y z w =
      solve R (a ∷ b ∷ c ∷ d ∷ e ∷ f ∷ g ∷ h ∷ i ∷ j ∷ k ∷ l ∷ m ∷ n ∷ p ∷ q ∷ x ∷ y ∷ z ∷ w ∷ [])
      (replaced ex (var 0) (var 1) (var 2) (var 3) (var 4) (var 5) (var 6) (var 7) (var 8) (var 9) (var 10) (var 11) (var 12) (var 13) (var 14) (var 15) (var 16) (var 17) (var 18) (var 19))
      (var 16 ⊗ det4 ex (var 0) (var 1) (var 2) (var 3) (var 4) (var 5) (var 6) (var 7) (var 8) (var 9) (var 10) (var 11) (var 12) (var 13) (var 14) (var 15)) tt
