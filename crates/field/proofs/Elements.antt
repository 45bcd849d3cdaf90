-- Facts of every field: elements by their numbers, and products that are zero. Assumes nothing.
use Rattle.std.proofs.Common.{◌≡◌, ℕ, ◌<◌, [], ◌∷◌, sym, ap, ◌∙◌, ap₂, arith}
use native.Mathlib.Decide.{ℕ_discrete}
use lib.Bits.{bit_xor}
use Rattle.ring2.proofs.Laws.{zero_times}
use Rattle.ring2.proofs.Solve.{reading, solved}
use Rattle.field.specs.Structure.{Structure, size}

module _ {K : Type 0} (s : Structure K) where
  -- an element is known by its number
  pub same_element : (x y : K) → s.value x ≡ s.value y → x ≡ y
  same_element x y e = sym (s.of_value x) ∙ ap s.of e ∙ s.of_value y

  -- and two numbers below q are of two elements
  pub same_number : (a b : ℕ) → a < size s → b < size s → s.of a ≡ s.of b → a ≡ b
  same_number a b h k e = sym (s.value_of a h) ∙ ap s.value e ∙ s.value_of b k

  pub of_zero : s.of 0 ≡ s.zero
  of_zero = ap s.of (sym s.value_zero) ∙ s.of_value s.zero

  pub of_one : s.of 1 ≡ s.one
  of_one = ap s.of (sym s.value_one) ∙ s.of_value s.one

  pub of_xor : (a b : ℕ) → a < size s → b < size s → s.of (bit_xor a b) ≡ s.plus (s.of a) (s.of b)
  of_xor a b h k =
      ap s.of (sym (s.value_plus (s.of a) (s.of b) ∙ ap₂ bit_xor (s.value_of a h) (s.value_of b k)))
      ∙ s.of_value (s.plus (s.of a) (s.of b))

  -- the number 0 is zero's alone
  pub zero_by_number : (x : K) → s.value x ≡ 0 → x ≡ s.zero
  zero_by_number x e = same_element x s.zero (e ∙ sym s.value_zero)

  pub zero_or_not : (x : K) → Dec (x ≡ s.zero)
  zero_or_not x = elim (ℕ_discrete (s.value x) 0) [
    | yes e ↦ yes (zero_by_number x e)
    | no n ↦ no (λ e. n (ap s.value e ∙ s.value_zero))
  ]

  -- a product is zero only with a factor that is: y = (x y) / x
  pub product_zero : (x y : K) → (x ≡ s.zero → ⊥) → s.times x y ≡ s.zero → y ≡ s.zero
  product_zero x y n e =
      let i : K = s.inverse x in
      let back : s.times (s.times x y) i ≡ s.times y (s.times x i)
      = solved s.ring (x ∷ y ∷ i ∷ []) (search reading depth 9) (search reading depth 9) tt in
      sym (s.ring.times_one y) ∙ ap (s.times y) (sym (s.times_inverse x n)) ∙ sym back ∙ ap (λ w. s.times w i) e ∙ zero_times s.ring i

  pub square_zero : (a : K) → s.times a a ≡ s.zero → a ≡ s.zero
  square_zero a e = elim (zero_or_not a) [
    | yes z ↦ z
    | no n ↦ product_zero a a n e
  ]

  -- the inverse is the one element whose product with x is one
  pub inverse_unique : (x y : K) → s.times x y ≡ s.one → y ≡ s.inverse x
  inverse_unique x y e =
      elim (zero_or_not x) [
        | yes z ↦ absurd (one_zero (sym e ∙ ap (λ w. s.times w y) z ∙ zero_times s.ring y))
        | no n ↦
            sym (s.ring.times_one y) ∙ ap (s.times y) (sym (s.times_inverse x n))
            ∙ solved s.ring (x ∷ y ∷ s.inverse x ∷ []) (search reading depth 9) (search reading depth 9) tt
            ∙ ap (s.times (s.inverse x)) e ∙ s.ring.times_one (s.inverse x)
      ]
    where
      one_zero : s.one ≡ s.zero → ⊥
      one_zero h = let m : ◌≡◌ {A = ℕ} 1 0 = sym s.value_one ∙ ap s.value h ∙ s.value_zero in omega arith
