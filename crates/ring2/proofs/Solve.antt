-- A prover of the identities of commutative rings of characteristic two: `solve`. Assumes nothing.
use mathlib.Core.Path.{◌≡◌, refl, sym, ap, ap₂, ◌∙◌}
use mathlib.Core.Bool.{Bool, true, false, ◌&&◌}
use mathlib.Core.List.{List, [], ◌∷◌}
use Prim.Native.Nat.{ℕ, zero, suc}
use lib.Dec.{T}
use Rattle.ring2.specs.Ring.{Ops, Ring}
use Rattle.ring2.proofs.Laws.{zero_plus, one_times, equal, times_zero, zero_times, plus_times, exchange, swap}

-- an expression over numbered variables
pub data Ex : Type 0 where
  var : ℕ → Ex
  nought : Ex
  unit : Ex
  ◌⊕◌ : Ex → Ex → Ex
  ◌⊗◌ : Ex → Ex → Ex

infixl 60 ◌⊕◌
infixl 70 ◌⊗◌
abbrev pub ex : Ops Ex
ex = record { zero = nought; one = unit; plus = ◌⊕◌; times = ◌⊗◌ }

-- a polynomial with coefficients 0 and 1, by its first variable x: nil is 0, leaf is 1, and node p P is p + x P, with no x in p
pub data Poly : Type 0 where
  nil : Poly
  leaf : Poly
  node : Poly → Poly → Poly

-- p + x P, with 0 kept as nil, so that what cancels takes no room
abbrev pub mk : Poly → Poly → Poly
mk nil nil = nil
mk nil leaf = node nil leaf
mk nil (node q Q) = node nil (node q Q)
mk leaf P = node leaf P
mk (node p P) Q = node (node p P) Q

abbrev pub inc : Poly → Poly
inc nil = leaf
inc leaf = nil
inc (node p P) = mk (inc p) P

abbrev pub add : Poly → Poly → Poly
add nil Q = Q
add leaf Q = inc Q
add (node p P) nil = node p P
add (node p P) leaf = mk (inc p) P
add (node p P) (node q Q) = mk (add p q) (add P Q)

-- p Q, of a p with no x; f is the product by p
abbrev pub scale : (Poly → Poly) → Poly → Poly → Poly
scale f p nil = nil
scale f p leaf = mk p nil
scale f p (node q Q) = mk (f q) (scale f p Q)

abbrev pub mul : Poly → Poly → Poly
mul nil Q = nil
mul leaf Q = Q
mul (node p P) Q = add (scale (mul p) p Q) (mk nil (mul P Q))

abbrev pub letter : ℕ → Poly
letter zero = node nil leaf
letter (suc i) = node (letter i) nil

abbrev pub norm : Ex → Poly
norm (var i) = letter i
norm nought = nil
norm unit = leaf
norm (a ⊕ b) = add (norm a) (norm b)
norm (a ⊗ b) = mul (norm a) (norm b)

abbrev pub vanishes : Poly → Bool
vanishes nil = true
vanishes leaf = false
vanishes (node p P) = vanishes p && vanishes P

-- the two expressions have one polynomial: their sum is 0
abbrev pub same : Ex → Ex → Bool
same a b = vanishes (add (norm a) (norm b))

pub both_left : (a b : Bool) → T (a && b) → T a
both_left true b t = tt
both_left false b t = t

pub both_right : (a b : Bool) → T (a && b) → T b
both_right true b t = t
both_right false b t = absurd t

-- the value of an expression at ρ, whose i-th element stands for the variable i
abbrev pub first : {K : Type 0} → Ops K → List K → K
first o [] = o.zero
first o (x ∷ ρ) = x

abbrev pub rest : {K : Type 0} → List K → List K
rest [] = []
rest (x ∷ ρ) = ρ

abbrev pub at : {K : Type 0} → Ops K → List K → ℕ → K
at o ρ zero = first o ρ
at o ρ (suc i) = at o (rest ρ) i

abbrev pub den : {K : Type 0} → Ops K → List K → Ex → K
den o ρ (var i) = at o ρ i
den o ρ nought = o.zero
den o ρ unit = o.one
den o ρ (a ⊕ b) = o.plus (den o ρ a) (den o ρ b)
den o ρ (a ⊗ b) = o.times (den o ρ a) (den o ρ b)

abbrev pub value : {K : Type 0} → Ops K → List K → Poly → K
value o ρ nil = o.zero
value o ρ leaf = o.one
value o ρ (node p P) = o.plus (value o (rest ρ) p) (o.times (first o ρ) (value o ρ P))

module _ {K : Type 0} {o : Ops K} (R : Ring o) where
  mk_is : (p P : Poly) (ρ : List K) → value o ρ (mk p P) ≡ o.plus (value o (rest ρ) p) (o.times (first o ρ) (value o ρ P))
  mk_is nil nil ρ = sym (zero_plus R (o.times (first o ρ) o.zero) ∙ times_zero R (first o ρ))
  mk_is nil leaf ρ = refl
  mk_is nil (node q Q) ρ = refl
  mk_is leaf P ρ = refl
  mk_is (node p P) Q ρ = refl

  inc_is : (P : Poly) (ρ : List K) → value o ρ (inc P) ≡ o.plus o.one (value o ρ P)
  inc_is nil ρ = sym (R.plus_zero o.one)
  inc_is leaf ρ = sym (R.plus_self o.one)
  inc_is (node p P) ρ =
      mk_is (inc p) P ρ
      ∙ ap (λ w. o.plus w (o.times (first o ρ) (value o ρ P))) (inc_is p (rest ρ))
      ∙ R.plus_assoc o.one (value o (rest ρ) p) (o.times (first o ρ) (value o ρ P))

  add_is : (P Q : Poly) (ρ : List K) → value o ρ (add P Q) ≡ o.plus (value o ρ P) (value o ρ Q)
  add_is nil Q ρ = sym (zero_plus R (value o ρ Q))
  add_is leaf Q ρ = inc_is Q ρ
  add_is (node p P) nil ρ = sym (R.plus_zero (value o ρ (node p P)))
  add_is (node p P) leaf ρ = inc_is (node p P) ρ ∙ R.plus_comm o.one (value o ρ (node p P))
  add_is (node p P) (node q Q) ρ =
      mk_is (add p q) (add P Q) ρ
      ∙ ap₂ o.plus (add_is p q (rest ρ)) (ap (o.times (first o ρ)) (add_is P Q ρ) ∙ R.times_plus (first o ρ) (value o ρ P) (value o ρ Q))
      ∙ exchange R (value o (rest ρ) p) (value o (rest ρ) q) (o.times (first o ρ) (value o ρ P)) (o.times (first o ρ) (value o ρ Q))

  scale_is : (f : Poly → Poly) (p Q : Poly) (ρ : List K)
      → ((q : Poly) → value o (rest ρ) (f q) ≡ o.times (value o (rest ρ) p) (value o (rest ρ) q))
      → value o ρ (scale f p Q) ≡ o.times (value o (rest ρ) p) (value o ρ Q)
  scale_is f p nil ρ h = sym (times_zero R (value o (rest ρ) p))
  scale_is f p leaf ρ h =
      mk_is p nil ρ
      ∙ ap (o.plus (value o (rest ρ) p)) (times_zero R (first o ρ)) ∙ R.plus_zero (value o (rest ρ) p) ∙ sym (R.times_one (value o (rest ρ) p))
  scale_is f p (node q Q) ρ h =
      mk_is (f q) (scale f p Q) ρ
      ∙ ap₂ o.plus (h q) (ap (o.times (first o ρ)) (scale_is f p Q ρ h) ∙ swap R (first o ρ) (value o (rest ρ) p) (value o ρ Q))
      ∙ sym (R.times_plus (value o (rest ρ) p) (value o (rest ρ) q) (o.times (first o ρ) (value o ρ Q)))

  mul_is : (P Q : Poly) (ρ : List K) → value o ρ (mul P Q) ≡ o.times (value o ρ P) (value o ρ Q)
  mul_is nil Q ρ = sym (zero_times R (value o ρ Q))
  mul_is leaf Q ρ = sym (one_times R (value o ρ Q))
  mul_is (node p P) Q ρ =
      add_is (scale (mul p) p Q) (mk nil (mul P Q)) ρ
      ∙ ap₂ o.plus (scale_is (mul p) p Q ρ (λ q. mul_is p q (rest ρ)))
      (mk_is nil (mul P Q) ρ ∙ zero_plus R (o.times (first o ρ) (value o ρ (mul P Q))) ∙ ap (o.times (first o ρ)) (mul_is P Q ρ) ∙ sym (R.times_assoc (first o ρ) (value o ρ P) (value o ρ Q)))
      ∙ sym (plus_times R (value o (rest ρ) p) (o.times (first o ρ) (value o ρ P)) (value o ρ Q))

  letter_is : (i : ℕ) (ρ : List K) → value o ρ (letter i) ≡ at o ρ i
  letter_is zero ρ = zero_plus R (o.times (first o ρ) o.one) ∙ R.times_one (first o ρ)
  letter_is (suc i) ρ =
      ap (o.plus (value o (rest ρ) (letter i))) (times_zero R (first o ρ)) ∙ R.plus_zero (value o (rest ρ) (letter i)) ∙ letter_is i (rest ρ)

  norm_is : (e : Ex) (ρ : List K) → value o ρ (norm e) ≡ den o ρ e
  norm_is (var i) ρ = letter_is i ρ
  norm_is nought ρ = refl
  norm_is unit ρ = refl
  norm_is (a ⊕ b) ρ = add_is (norm a) (norm b) ρ ∙ ap₂ o.plus (norm_is a ρ) (norm_is b ρ)
  norm_is (a ⊗ b) ρ = mul_is (norm a) (norm b) ρ ∙ ap₂ o.times (norm_is a ρ) (norm_is b ρ)

  vanishes_is : (P : Poly) (ρ : List K) → T (vanishes P) → value o ρ P ≡ o.zero
  vanishes_is nil ρ t = refl
  vanishes_is leaf ρ t = absurd t
  vanishes_is (node p P) ρ t =
      ap₂ o.plus (vanishes_is p (rest ρ) (both_left (vanishes p) (vanishes P) t))
      (ap (o.times (first o ρ)) (vanishes_is P ρ (both_right (vanishes p) (vanishes P) t)) ∙ times_zero R (first o ρ))
      ∙ R.plus_zero o.zero

  -- an identity, by one test that computes: `solve R (a ∷ b ∷ []) LEFT RIGHT tt`
  pub solve : (ρ : List K) (a b : Ex) → T (same a b) → den o ρ a ≡ den o ρ b
  solve ρ a b t =
      equal R (den o ρ a) (den o ρ b)
      (ap₂ o.plus (sym (norm_is a ρ)) (sym (norm_is b ρ)) ∙ sym (add_is (norm a) (norm b) ρ) ∙ vanishes_is (add (norm a) (norm b)) ρ t)

-- where an element stands in ρ
pub data Var {K : Type 0} : List K → K → Type 0 where
  here : {x : K} {ρ : List K} → Var (x ∷ ρ) x
  there : {x y : K} {ρ : List K} → Var ρ x → Var (y ∷ ρ) x

-- how an element is written with the operations over ρ: `search reading` finds it
pub data Read {K : Type 0} (o : Ops K) (ρ : List K) : K → Type 0 where
  r+ : {x y : K} → Read o ρ x → Read o ρ y → Read o ρ (o.plus x y)
  r* : {x y : K} → Read o ρ x → Read o ρ y → Read o ρ (o.times x y)
  r0 : Read o ρ o.zero
  r1 : Read o ρ o.one
  rx : {x : K} → Var ρ x → Read o ρ x

pub ruleset reading = (r+, r*, r0, r1, rx, here, there)

abbrev pub place : {K : Type 0} {ρ : List K} {x : K} → Var ρ x → ℕ
place here = zero
place (there v) = suc (place v)

place_is : {K : Type 0} (o : Ops K) {ρ : List K} {x : K} (v : Var ρ x) → at o ρ (place v) ≡ x
place_is o here = refl
place_is o (there v) = place_is o v

module _ {K : Type 0} {o : Ops K} {ρ : List K} where
  abbrev pub expr : {x : K} → Read o ρ x → Ex
  expr (r+ a b) = expr a ⊕ expr b
  expr (r* a b) = expr a ⊗ expr b
  expr r0 = nought
  expr r1 = unit
  expr (rx v) = var (place v)

  expr_is : {x : K} (a : Read o ρ x) → den o ρ (expr a) ≡ x
  expr_is (r+ a b) = ap₂ o.plus (expr_is a) (expr_is b)
  expr_is (r* a b) = ap₂ o.times (expr_is a) (expr_is b)
  expr_is r0 = refl
  expr_is r1 = refl
  expr_is (rx v) = place_is o v

-- an identity as it stands: `solved R (a ∷ b ∷ []) (search reading depth 9) (search reading depth 9) tt`
pub solved : {K : Type 0} {o : Ops K} (R : Ring o) (ρ : List K) {x y : K} (a : Read o ρ x) (b : Read o ρ y) → T (same (expr a) (expr b)) → x ≡ y
solved R ρ a b t = sym (expr_is a) ∙ solve R ρ (expr a) (expr b) t ∙ expr_is b
