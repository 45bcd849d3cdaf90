-- What is not zero in a field, and of the points of items: themselves, and their sums and products. Assumes nothing.
use Rattle.std.proofs.Common.{◌≡◌, ℕ, ◌<◌, [], ◌∷◌, sym, refl, ap, ◌∙◌, arith}
use Rattle.ring2.proofs.Laws.{equal}
use Rattle.ring2.proofs.Solve.{var, unit, ◌⊕◌, ◌⊗◌, ex, solve}
use Rattle.field.specs.Structure.{Structure, ops, size}
use Rattle.field.proofs.Elements.{same_number, product_zero}
use Rattle.extension.specs.declared.ext.Ext.{Ext}
use Rattle.extension.specs.Formulas.{pair, over}
use Rattle.extension.specs.Extend.{extend}
use Rattle.codeword.specs.Codeword.{point}
use Rattle.distance.proofs.Minors.{three_sums, four_sums, sum3, pairs3, trinomial}

abbrev pub Nonzero : {K : Type 0} → Structure K → K → Type 0
Nonzero s x = x ≡ s.zero → ⊥

module _ {K : Type 0} (s : Structure K) where
  pub one_nonzero : Nonzero s s.one
  one_nonzero h = let m : ◌≡◌ {A = ℕ} 1 0 = sym s.value_one ∙ ap s.value h ∙ s.value_zero in omega arith

  pub times_nonzero : {x y : K} → Nonzero s x → Nonzero s y → Nonzero s (s.times x y)
  times_nonzero {x} {y} n m e = m (product_zero s x y n e)

  pub equal_nonzero : {x y : K} → x ≡ y → Nonzero s y → Nonzero s x
  equal_nonzero e n z = n (sym e ∙ z)

  -- the Vandermonde products
  module _ {x y z : K} (xy : Nonzero s (s.plus x y)) (xz : Nonzero s (s.plus x z)) (yz : Nonzero s (s.plus y z)) where
    pub three_sums_nonzero : Nonzero s (three_sums (ops s) x y z)
    three_sums_nonzero = times_nonzero xy (times_nonzero xz yz)

    pub four_sums_nonzero : {w : K} → Nonzero s (s.plus x w) → Nonzero s (s.plus y w) → Nonzero s (s.plus z w) → Nonzero s (four_sums (ops s) x y z w)
    four_sums_nonzero xw yw zw = times_nonzero three_sums_nonzero (times_nonzero xw (times_nonzero yw zw))

  -- an element whose coefficient of u is one is not zero
  by_u : (x : Ext K) → x.hi ≡ s.one → Nonzero (extend s) x
  unfolding extend
  by_u x e z = one_nonzero (sym e ∙ ap (λ t. t.hi) z)

  pub point_nonzero : (i : ℕ) → Nonzero (extend s) (point s i)
  point_nonzero i = by_u (point s i) refl

  -- the points of two items differ
  pub points_differ : (i j : ℕ) → i < j → j < size s → Nonzero (extend s) ((extend s).plus (point s i) (point s j))
  points_differ i j h k z =
      let e : s.of i ≡ s.of j = ap (λ x. x.lo) (equal (extend s).ring (point s i) (point s j) z) in
      let m : i ≡ j = same_number s i j (omega arith) k e in
      omega arith

  -- the coefficient of u in x + y + z and in x y + x z + y z is one
  pub sum3_nonzero : (i j k : ℕ) → Nonzero (extend s) (sum3 (ops (extend s)) (point s i) (point s j) (point s k))
  unfolding extend
  sum3_nonzero i j k =
      by_u (sum3 (ops (extend s)) (point s i) (point s j) (point s k)) (solve s.ring [] (unit ⊕ unit ⊕ unit) unit tt)

  pub pairs3_nonzero : (i j k : ℕ) → Nonzero (extend s) (pairs3 (ops (extend s)) (point s i) (point s j) (point s k))
  unfolding extend
  pairs3_nonzero i j k =
      by_u (pairs3 (ops (extend s)) (point s i) (point s j) (point s k))
      (solve s.ring (s.of i ∷ s.of j ∷ s.of k ∷ s.v ∷ []) (pairs3 (over ex (var 3)) (pair (var 0) unit) (pair (var 1) unit) (pair (var 2) unit)).hi unit tt)

  -- with x = a + u and y = b + u, x x + x y + y y is zero only where b = a + 1 and then a a + a = v + 1
  pub trinomial_nonzero : (i j : ℕ) → Nonzero (extend s) (trinomial (ops (extend s)) (point s i) (point s j))
  unfolding extend
  trinomial_nonzero i j z =
      let a : K = s.of i in
      let b : K = s.of j in
      let high : s.plus a b ≡ s.one
      = equal s.ring (s.plus a b) s.one
      (solve s.ring (a ∷ b ∷ s.v ∷ []) (var 0 ⊕ var 1 ⊕ unit) (trinomial (over ex (var 2)) (pair (var 0) unit) (pair (var 1) unit)).hi tt ∙ ap (λ x. x.hi) z) in
      s.no_root_one a
      (equal s.ring (s.plus (s.times a a) a) (s.plus s.v s.one)
      -- a a + a t + t t + v is the lower part where t = a + b, and t is one
      (solve s.ring (a ∷ s.v ∷ []) (var 0 ⊗ var 0 ⊕ var 0 ⊕ (var 1 ⊕ unit)) (var 0 ⊗ var 0 ⊕ var 0 ⊗ unit ⊕ unit ⊗ unit ⊕ var 1) tt
      ∙ ap (λ t. s.plus (s.plus (s.plus (s.times a a) (s.times a t)) (s.times t t)) s.v) (sym high)
      ∙ solve s.ring (a ∷ b ∷ s.v ∷ []) (var 0 ⊗ var 0 ⊕ var 0 ⊗ (var 0 ⊕ var 1) ⊕ (var 0 ⊕ var 1) ⊗ (var 0 ⊕ var 1) ⊕ var 2) (trinomial (over ex (var 2)) (pair (var 0) unit) (pair (var 1) unit)).lo tt
      ∙ ap (λ x. x.lo) z))
