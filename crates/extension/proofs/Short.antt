-- The short forms that the code computes are those of the definition. Assumes nothing.
use Rattle.std.proofs.Common.{◌≡◌, [], ◌∷◌}
use Rattle.ring2.proofs.Solve.{var, nought, ◌⊕◌, ◌⊗◌, ex}
use Rattle.field.specs.Structure.{Structure}
use Rattle.extension.specs.declared.ext.Ext.{Ext}
use Rattle.extension.specs.Formulas.{pair, over, embed}
use Rattle.extension.specs.Laws.{solve2, X, Y, E}
use Rattle.extension.specs.Extend.{extend}

module _ {K : Type 0} (s : Structure K) where
  -- a product with an element of the base field: two products
  pub scaled_is : (x : Ext K) (c : K) → pair (s.times x.lo c) (s.times x.hi c) ≡ (extend s).times x (embed s c)
  unfolding extend
  scaled_is x c =
      solve2 s.ring (x.lo ∷ x.hi ∷ c ∷ s.v ∷ []) (pair (var 0 ⊗ var 2) (var 1 ⊗ var 2)) ((over ex (var 3)).times X (pair (var 2) nought)) tt tt

  -- a product: a c, b d, (a + b) (c + d), and one by v
  pub product_is : (x y : Ext K)
      → pair (s.plus (s.times x.lo y.lo) (s.times (s.times x.hi y.hi) s.v))
      (s.plus (s.times (s.plus x.lo x.hi) (s.plus y.lo y.hi)) (s.times x.lo y.lo))
      ≡ (extend s).times x y
  unfolding extend
  product_is x y =
      solve2 s.ring (x.lo ∷ x.hi ∷ y.lo ∷ y.hi ∷ y.lo ∷ y.hi ∷ s.v ∷ [])
      (pair (var 0 ⊗ var 2 ⊕ var 1 ⊗ var 3 ⊗ var 6) ((var 0 ⊕ var 1) ⊗ (var 2 ⊕ var 3) ⊕ var 0 ⊗ var 2)) (E.times X Y) tt tt
