-- Tables of powers and logarithms in any field of 256 elements: one test over each table gives the rule at each entry. Assumes nothing.
use Rattle.std.proofs.Common.{◌≡◌, ℕ, zero, suc, ◌+◌, ◌-◌, ◌%◌, ◌<◌, ◌≤◌, Bool, ◌&&◌, T, eqb, ltb, List, get_or, sym, ap, ◌∙◌, subst, ap₂, mod-lt, mod-eq_of_lt, suc-add, zero-add, arith, lit<, eqb→eq, ltb→lt}
use native.Mathlib.Nat.{suc-mod}
use Rattle.ring2.proofs.Laws.{one_times, zero_times, times_zero}
use Rattle.ring2.proofs.Solve.{both_left, both_right}
use Rattle.field.specs.Structure.{Structure}
use Rattle.field.specs.Numbers.{product, inverted}
use Rattle.field.specs.Tests.{every, every_at}
use Rattle.field.proofs.Elements.{same_element, of_zero, inverse_unique}
use Rattle.table_field.specs.Table.{power, power_number}

-- the entry i is a number below 256, and p of it is the next one, round to the first again
abbrev next_test : (ℕ → ℕ) → List ℕ → ℕ → Bool
next_test p xs i = ltb (get_or xs i 0) 256 && eqb (p (get_or xs i 0)) (get_or xs (suc i % 255) 0)

abbrev pub power_test : (ℕ → ℕ) → List ℕ → Bool
power_test p xs = eqb (get_or xs 0 0) 1 && every 255 (next_test p xs)

-- the number n has its place among the powers
abbrev place_test : List ℕ → List ℕ → ℕ → Bool
place_test xs ys n = ltb (get_or ys n 0) 255 && eqb (get_or xs (get_or ys n 0) 0) n

abbrev pub logarithm_test : List ℕ → List ℕ → Bool
logarithm_test xs ys = every 255 (λ k. place_test xs ys (suc k))

-- p is the product with the element numbered g
module _ {K : Type 0} (s : Structure K) (g : ℕ) (p : ℕ → ℕ) (by-g : (b : ℕ) → b < 256 → product s g b ≡ p b) (xs : List ℕ) (t : T (power_test p xs)) where
  first_is : get_or xs 0 0 ≡ 1
  first_is = eqb→eq (get_or xs 0 0) 1 (both_left (eqb (get_or xs 0 0) 1) (every 255 (next_test p xs)) t)

  next_is : (i : ℕ) → i < 255 → product s g (get_or xs i 0) ≡ get_or xs (suc i % 255) 0
  next_is i h =
      let passed = every_at 255 (next_test p xs) (both_right (eqb (get_or xs 0 0) 1) (every 255 (next_test p xs)) t) i h in
      by-g (get_or xs i 0) (ltb→lt (get_or xs i 0) 256 (both_left (ltb (get_or xs i 0) 256) (eqb (p (get_or xs i 0)) (get_or xs (suc i % 255) 0)) passed))
      ∙ eqb→eq (p (get_or xs i 0)) (get_or xs (suc i % 255) 0) (both_right (ltb (get_or xs i 0) 256) (eqb (p (get_or xs i 0)) (get_or xs (suc i % 255) 0)) passed)

  -- the powers, from entry to entry and round
  pub power_rule : (i : ℕ) → get_or xs (i % 255) 0 ≡ power_number s g i
  power_rule zero = first_is ∙ sym s.value_one
  power_rule (suc i) =
      ap (λ n. get_or xs n 0) (suc-mod i 255) ∙ sym (next_is (i % 255) (mod-lt i (lit< tt))) ∙ ap (product s g) (power_rule i)
      ∙ ap (λ k. s.value (s.times (s.of g) k)) (s.of_value (power s (s.of g) i))

  pub full_turn : power_number s g 255 ≡ 1
  full_turn = sym (power_rule 255) ∙ first_is

  module _ (ys : List ℕ) (u : T (logarithm_test xs ys)) (n : ℕ) (pos : 0 < n) (small : n < 256) where
    placed : T (place_test xs ys n)
    placed =
        let e : suc (n - 1) ≡ n = omega arith in
        subst (λ k. T (place_test xs ys k)) e (every_at 255 (λ k. place_test xs ys (suc k)) u (n - 1) (omega arith))

    pub logarithm_lt : get_or ys n 0 < 255
    logarithm_lt = ltb→lt (get_or ys n 0) 255 (both_left (ltb (get_or ys n 0) 255) (eqb (get_or xs (get_or ys n 0) 0) n) placed)

    pub logarithm_rule : power_number s g (get_or ys n 0) ≡ n
    logarithm_rule =
        sym (power_rule (get_or ys n 0)) ∙ ap (λ i. get_or xs i 0) (mod-eq_of_lt logarithm_lt)
        ∙ eqb→eq (get_or xs (get_or ys n 0) 0) n (both_right (ltb (get_or ys n 0) 255) (eqb (get_or xs (get_or ys n 0) 0) n) placed)

module _ {K : Type 0} (s : Structure K) where
  power_add : (x : K) (i j : ℕ) → power s x (i + j) ≡ s.times (power s x i) (power s x j)
  power_add x zero j = ap (power s x) (zero-add j) ∙ sym (one_times s.ring (power s x j))
  power_add x (suc i) j =
      ap (power s x) (suc-add i j) ∙ ap (s.times x) (power_add x i j) ∙ sym (s.ring.times_assoc x (power s x i) (power s x j))

  -- a product adds the logarithms
  pub power_sum : (g i j : ℕ) → power_number s g (i + j) ≡ product s (power_number s g i) (power_number s g j)
  power_sum g i j =
      let x : K = s.of g in
      ap s.value (power_add x i j ∙ ap₂ s.times (sym (s.of_value (power s x i))) (sym (s.of_value (power s x j))))

  -- an inverse takes the logarithm from 255
  pub power_inverse : (g i : ℕ) → power_number s g 255 ≡ 1 → i ≤ 255 → power_number s g (255 - i) ≡ inverted s (power_number s g i)
  power_inverse g i full h =
      let x : K = s.of g in
      let turn : power s x 255 ≡ s.one = same_element s (power s x 255) s.one (full ∙ sym s.value_one) in
      let total : i + (255 - i) ≡ 255 = omega arith in
      ap s.value
      (inverse_unique s (s.of (power_number s g i)) (power s x (255 - i))
      (ap (λ k. s.times k (power s x (255 - i))) (s.of_value (power s x i)) ∙ sym (power_add x i (255 - i)) ∙ ap (power s x) total ∙ turn))

  -- products with zero, and its inverse
  pub zero_product : (b : ℕ) → product s 0 b ≡ 0
  zero_product b = ap (λ k. s.value (s.times k (s.of b))) (of_zero s) ∙ ap s.value (zero_times s.ring (s.of b)) ∙ s.value_zero

  pub product_zero : (a : ℕ) → product s a 0 ≡ 0
  product_zero a = ap (λ k. s.value (s.times (s.of a) k)) (of_zero s) ∙ ap s.value (times_zero s.ring (s.of a)) ∙ s.value_zero

  pub zero_inverse : inverted s 0 ≡ 0
  zero_inverse = ap (λ k. s.value (s.inverse k)) (of_zero s) ∙ ap s.value s.inverse_zero ∙ s.value_zero
