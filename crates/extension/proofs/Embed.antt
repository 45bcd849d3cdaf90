-- The base field inside its extension, the element u, and the parts of sums and products. Assumes nothing.
use Rattle.std.proofs.Common.{◌≡◌, ℕ, ◌*◌, ◌<◌, [], ◌∷◌, refl, ap, ◌∙◌, ap₂, mod-eq_of_lt, mul-div_cancel, pow_pos}
use native.Mathlib.Nat.{div-eq_of_lt, mul-mod_left}
use Rattle.ring2.proofs.Solve.{var, nought, unit, ◌⊗◌, ex}
use Rattle.field.specs.Structure.{Structure, ops, size}
use Rattle.field.proofs.Elements.{of_zero}
use Rattle.extension.specs.declared.ext.Ext.{Ext}
use Rattle.extension.specs.Formulas.{pair, over, embed, root_u}
use Rattle.extension.specs.Laws.{solve2}
use Rattle.extension.specs.Extend.{extend}

module _ {K : Type 0} (s : Structure K) where
  -- sums and products by their parts
  pub plus_parts : (x y : Ext K) → (extend s).plus x y ≡ (over (ops s) s.v).plus x y
  unfolding extend
  plus_parts x y = refl

  pub times_parts : (x y : Ext K) → (extend s).times x y ≡ (over (ops s) s.v).times x y
  unfolding extend
  times_parts x y = refl

  -- the elements of the extension numbered below q, and those numbered by a multiple of q
  pub low_of : (n : ℕ) → n < size s → (extend s).of n ≡ embed s (s.of n)
  unfolding extend
  low_of n h = ap₂ pair (ap s.of (mod-eq_of_lt h)) (ap s.of (div-eq_of_lt h) ∙ of_zero s)

  pub high_of : (n : ℕ) → (extend s).of (n * size s) ≡ pair s.zero (s.of n)
  unfolding extend
  high_of n = ap₂ pair (ap s.of (mul-mod_left n (size s)) ∙ of_zero s) (ap s.of (mul-div_cancel n (pow_pos s.bits)))

  pub embed_one : (extend s).one ≡ embed s s.one
  unfolding extend
  embed_one = refl

  pub embed_times : (x y : K) → (extend s).times (embed s x) (embed s y) ≡ embed s (s.times x y)
  unfolding extend
  embed_times x y =
      solve2 s.ring (x ∷ y ∷ s.v ∷ []) ((over ex (var 2)).times (pair (var 0) nought) (pair (var 1) nought)) (pair (var 0 ⊗ var 1) nought) tt tt

  pub embed_plus : (x y : K) → (extend s).plus (embed s x) (embed s y) ≡ embed s (s.plus x y)
  unfolding extend
  embed_plus x y = ap (pair (s.plus x y)) (s.ring.plus_zero s.zero)

  pub times_root : (x : K) → (extend s).times (embed s x) (root_u s) ≡ pair s.zero x
  unfolding extend
  times_root x =
      solve2 s.ring (x ∷ s.v ∷ []) ((over ex (var 1)).times (pair (var 0) nought) (pair nought unit)) (pair nought (var 0)) tt tt

  pub root_square : (extend s).times (root_u s) (root_u s) ≡ (extend s).plus (root_u s) (embed s s.v)
  unfolding extend
  root_square =
      solve2 s.ring (s.v ∷ []) ((over ex (var 0)).times (pair nought unit) (pair nought unit)) ((over ex (var 0)).plus (pair nought unit) (pair (var 0) nought)) tt tt
