-- The laws of the extension, from those of the field that it extends. Assumes nothing.
use Rattle.std.specs.Prelude.{◌≡◌, ℕ, ◌+◌, ◌*◌, ◌/◌, ◌%◌, ◌^◌, ◌<◌, T, List, [], ◌∷◌, ◌≢◌, bit_xor}
use Rattle.std.proofs.Common.{sym, ap, ap₂, ◌∙◌, mod-lt, arith, pow_pos, pow-add, shr_lt}
use Rattle.std.proofs.lemmas.Nat.{xor_block}
use Rattle.std.proofs.Math.Pow.{split, high, low}
use Rattle.std.proofs.Math.Arith.{digits_lt}
use Rattle.ring2.specs.Ring.{Ops, Ring}
use Rattle.ring2.proofs.Laws.{zero_times, equal}
use Rattle.ring2.proofs.Solve.{Ex, var, nought, unit, ◌⊕◌, ◌⊗◌, ex, den, same, solve}
use Rattle.field.specs.Structure.{Structure, ops, size}
use Rattle.field.proofs.Elements.{zero_or_not, square_zero}
use Rattle.extension.specs.declared.ext.Ext.{Ext}
use Rattle.extension.specs.Formulas.{pair, over, norm, conjugate_times, multiplied, divided, numbered, element}

pair_path : {K : Type 0} (x y : Ext K) → x.lo ≡ y.lo → x.hi ≡ y.hi → x ≡ y
pair_path x y p q = λ i. record { lo = p i; hi = q i }

-- an identity of pairs, by the prover at each part
module _ {K : Type 0} {o : Ops K} (R : Ring o) where
  abbrev pub den2 : List K → Ext Ex → Ext K
  den2 ρ e = pair (den o ρ e.lo) (den o ρ e.hi)

  pub solve2 : (ρ : List K) (a b : Ext Ex) → T (same a.lo b.lo) → T (same a.hi b.hi) → den2 ρ a ≡ den2 ρ b
  solve2 ρ a b s t = pair_path (den2 ρ a) (den2 ρ b) (solve R ρ a.lo b.lo s) (solve R ρ a.hi b.hi t)

-- the variables of an identity: three pairs, and v
abbrev pub X : Ext Ex
X = pair (var 0) (var 1)

abbrev pub Y : Ext Ex
Y = pair (var 2) (var 3)

abbrev pub Z : Ext Ex
Z = pair (var 4) (var 5)

abbrev pub E : Ops (Ext Ex)
E = over ex (var 6)

-- the pairs are a ring, whatever v is
pub over_ring : {K : Type 0} {o : Ops K} (R : Ring o) (v : K) → Ring (over o v)
over_ring {K} R v =
    let ρ : Ext K → Ext K → Ext K → List K = λ x y z. x.lo ∷ x.hi ∷ y.lo ∷ y.hi ∷ z.lo ∷ z.hi ∷ v ∷ [] in
    record {
      plus_assoc = λ x y z. solve2 R (ρ x y z) (E.plus (E.plus X Y) Z) (E.plus X (E.plus Y Z)) tt tt;
      plus_comm = λ x y. solve2 R (ρ x y x) (E.plus X Y) (E.plus Y X) tt tt;
      plus_zero = λ x. solve2 R (ρ x x x) (E.plus X E.zero) X tt tt;
      plus_self = λ x. solve2 R (ρ x x x) (E.plus X X) E.zero tt tt;
      times_assoc = λ x y z. solve2 R (ρ x y z) (E.times (E.times X Y) Z) (E.times X (E.times Y Z)) tt tt;
      times_comm = λ x y. solve2 R (ρ x y x) (E.times X Y) (E.times Y X) tt tt;
      times_one = λ x. solve2 R (ρ x x x) (E.times X E.one) X tt tt;
      times_plus = λ x y z. solve2 R (ρ x y z) (E.times X (E.plus Y Z)) (E.plus (E.times X Y) (E.times X Z)) tt tt;
    }

module _ {K : Type 0} (s : Structure K) where
  -- the norm is zero at zero alone: otherwise a / b would be a root of w w + w = v
  norm_zero : (x : Ext K) → norm (ops s) s.v x ≡ s.zero → x ≡ pair s.zero s.zero
  norm_zero x e = elim (zero_or_not s x.hi) [
    | yes z ↦ pair_path x (pair s.zero s.zero) (square_zero s x.lo (flat z)) z
    | no n ↦ absurd (s.no_root (s.times x.lo (s.inverse x.hi)) (root n))
  ]
    where
      flat : x.hi ≡ s.zero → s.times x.lo x.lo ≡ s.zero
      flat z =
          solve s.ring (x.lo ∷ s.v ∷ []) (var 0 ⊗ var 0) (norm ex (var 1) (pair (var 0) nought)) tt
          ∙ ap (λ b. norm (ops s) s.v (pair x.lo b)) (sym z) ∙ e

      root : (x.hi ≢ s.zero) → s.plus (s.times (s.times x.lo (s.inverse x.hi)) (s.times x.lo (s.inverse x.hi))) (s.times x.lo (s.inverse x.hi)) ≡ s.v
      root n =
          let a : K = x.lo in
          let j : K = s.inverse x.hi in
          let w : K = s.times a j in
          -- the norm of w + t u, of which t = b / b is one
          let at : K → K = λ t. norm (ops s) s.v (pair w t) in
          equal s.ring (s.plus (s.times w w) w) s.v
          (solve s.ring (w ∷ s.v ∷ []) (var 0 ⊗ var 0 ⊕ var 0 ⊕ var 1) (norm ex (var 1) (pair (var 0) unit)) tt
          ∙ ap at (sym (s.times_inverse x.hi n))
          ∙ solve s.ring (a ∷ x.hi ∷ j ∷ s.v ∷ []) (norm ex (var 3) (pair (var 0 ⊗ var 2) (var 1 ⊗ var 2))) (norm ex (var 3) X ⊗ (var 2 ⊗ var 2)) tt
          ∙ ap (λ m. s.times m (s.times j j)) e ∙ zero_times s.ring (s.times j j))

  pub times_divided : (x : Ext K) → (x ≢ pair s.zero s.zero) → multiplied s x (divided s x) ≡ pair s.one s.zero
  times_divided x n =
      let m : K = norm (ops s) s.v x in
      solve2 s.ring (x.lo ∷ x.hi ∷ s.inverse m ∷ s.v ∷ []) ((over ex (var 3)).times X (conjugate_times ex (var 2) X)) (pair (norm ex (var 3) X ⊗ var 2) nought) tt tt
      ∙ ap (λ w. pair w s.zero) (s.times_inverse m (λ e. n (norm_zero x e)))

  pub divided_zero : divided s (pair s.zero s.zero) ≡ pair s.zero s.zero
  divided_zero =
      solve2 s.ring (s.inverse (norm (ops s) s.v (pair s.zero s.zero)) ∷ []) (conjugate_times ex (var 0) (pair nought nought)) (pair nought nought) tt tt

  -- the u part of w w + w is b b + b, which is not v
  pub no_root_over : (w : Ext K) (c : K) → (over (ops s) s.v).plus (multiplied s w w) w ≢ pair c s.v
  no_root_over w c e =
      s.no_root w.hi
      (solve s.ring (w.lo ∷ w.hi ∷ []) (var 1 ⊗ var 1 ⊕ var 1) (var 0 ⊗ var 1 ⊕ var 1 ⊗ var 0 ⊕ var 1 ⊗ var 1 ⊕ var 1) tt ∙ ap (λ x. x.hi) e)

  pub numbered_lt : (x : Ext K) → numbered s x < 2 ^ (s.bits + s.bits)
  numbered_lt x = rw (pow-add 2 s.bits s.bits) (digits_lt (s.value_lt x.hi) (s.value_lt x.lo))

  pub element_numbered : (x : Ext K) → element s (numbered s x) ≡ x
  element_numbered x =
      pair_path (element s (numbered s x)) x (ap s.of (low (s.value x.hi) s.bits (s.value_lt x.lo)) ∙ s.of_value x.lo)
      (ap s.of (high (s.value x.hi) s.bits (s.value_lt x.lo)) ∙ s.of_value x.hi)

  pub numbered_element : (n : ℕ) → n < 2 ^ (s.bits + s.bits) → numbered s (element s n) ≡ n
  numbered_element n h =
      ap₂ (λ a b. a * size s + b) (s.value_of (n / size s) (shr_lt s.bits s.bits h)) (s.value_of (n % size s) (mod-lt n (pow_pos s.bits)))
      ∙ split n s.bits

  pub numbered_low : (x : K) → numbered s (pair x s.zero) ≡ s.value x
  numbered_low x = ap (λ n. n * size s + s.value x) s.value_zero ∙ omega arith

  pub numbered_plus : (x y : Ext K) → numbered s ((over (ops s) s.v).plus x y) ≡ bit_xor (numbered s x) (numbered s y)
  numbered_plus x y =
      ap₂ (λ a b. a * size s + b) (s.value_plus x.hi y.hi) (s.value_plus x.lo y.lo)
      ∙ sym (xor_block s.bits (s.value x.hi) (s.value y.hi) (s.value x.lo) (s.value y.lo) (s.value_lt x.lo) (s.value_lt y.lo))

  pub extended_ring : Ring {K = Ext K} (record { zero = (over (ops s) s.v).zero; one = (over (ops s) s.v).one; plus = (over (ops s) s.v).plus; times = multiplied s })
  extended_ring = over_ring s.ring s.v
