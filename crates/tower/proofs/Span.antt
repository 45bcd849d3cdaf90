-- In every field the elements numbered by powers of two span it, and products are bilinear over them. Assumes nothing.
use Rattle.std.proofs.Common.{◌≡◌, ℕ, zero, suc, ◌+◌, ◌*◌, ◌/◌, ◌%◌, ◌^◌, ◌<◌, ◌≤◌, Bool, true, false, cond, sym, refl, ap, ◌∙◌, ap₂, lt_of_lt_of_le, mod-lt, mod-eq_of_lt, one-mul, arith, pow_pos, pow_mono, eqb-true}
use native.Mathlib.Nat.{mod-one}
use lib.Bits.{bit_xor, xor_shifted}
use lib.Pow.{pow-lt, mod-pow-add}
use borrow.Author.Tests.{eqb-false}
use Rattle.ring2.proofs.Laws.{times_zero, zero_times, plus_times}
use Rattle.field.specs.Structure.{Structure}
use Rattle.field.proofs.Elements.{of_zero, of_xor}
use Rattle.tower.specs.Tower.{bit, combined}

-- the low k + 1 bits of n: bit k, if it is set, above the low k
pub low_set : (k n : ℕ) → bit k n ≡ true → n % 2 ^ suc k ≡ bit_xor (1 * 2 ^ k) (n % 2 ^ k)
low_set k n e =
    ap (λ j. n % 2 ^ j) (omega arith) ∙ mod-pow-add n 1 k ∙ ap (λ d. d * 2 ^ k + n % 2 ^ k) (eqb-true (n / 2 ^ k % 2) 1 e)
    ∙ sym (xor_shifted 1 k (n % 2 ^ k) (mod-lt n (pow_pos k)))

pub low_clear : (k n : ℕ) → bit k n ≡ false → n % 2 ^ suc k ≡ n % 2 ^ k
low_clear k n e =
    let d : n / 2 ^ k % 2 ≡ 0 = omega (arith, mod-lt (n / 2 ^ k) {m = 2} (omega arith), eqb-false (n / 2 ^ k % 2) 1 e) in
    ap (λ j. n % 2 ^ j) (omega arith) ∙ mod-pow-add n 1 k ∙ ap (λ c. c * 2 ^ k + n % 2 ^ k) d ∙ omega arith

module _ {K : Type 0} (s : Structure K) where
  low_step : (n k : ℕ) → k < s.bits → (b : Bool) → bit k n ≡ b → s.of (n % 2 ^ suc k) ≡ s.plus (s.of (n % 2 ^ k)) (cond b (s.of (2 ^ k)) s.zero)
  low_step n k h true e =
      let low : n % 2 ^ k < 2 ^ s.bits = lt_of_lt_of_le (mod-lt n (pow_pos k)) (pow_mono (omega arith)) in
      let one : 1 * 2 ^ k ≡ 2 ^ k = one-mul (2 ^ k) in
      ap s.of (low_set k n e ∙ ap (λ p. bit_xor p (n % 2 ^ k)) one) ∙ of_xor s (2 ^ k) (n % 2 ^ k) (pow-lt h) low
      ∙ s.ring.plus_comm (s.of (2 ^ k)) (s.of (n % 2 ^ k))
  low_step n k h false e = ap s.of (low_clear k n e) ∙ sym (s.ring.plus_zero (s.of (n % 2 ^ k)))

  -- the element of the low k bits of a number
  pub low_is : (n k : ℕ) → k ≤ s.bits → s.of (n % 2 ^ k) ≡ combined s (λ i. s.of (2 ^ i)) k n
  low_is n zero h = ap s.of (mod-one n) ∙ of_zero s
  low_is n (suc k) h =
      low_step n k h (bit k n) refl ∙ ap (λ w. s.plus w (cond (bit k n) (s.of (2 ^ k)) s.zero)) (low_is n k (omega arith))

  pub spanned : (x : K) → x ≡ combined s (λ i. s.of (2 ^ i)) s.bits (s.value x)
  spanned x = sym (s.of_value x) ∙ ap s.of (sym (mod-eq_of_lt (s.value_lt x))) ∙ low_is (s.value x) s.bits (omega arith)

  times_cond : (x y : K) (b : Bool) → s.times x (cond b y s.zero) ≡ cond b (s.times x y) s.zero
  times_cond x y true = refl
  times_cond x y false = times_zero s.ring x

  cond_times : (x y : K) (b : Bool) → s.times (cond b x s.zero) y ≡ cond b (s.times x y) s.zero
  cond_times x y true = refl
  cond_times x y false = zero_times s.ring y

  times_combined : (x : K) (f : ℕ → K) (k n : ℕ) → s.times x (combined s f k n) ≡ combined s (λ i. s.times x (f i)) k n
  times_combined x f zero n = times_zero s.ring x
  times_combined x f (suc k) n =
      s.ring.times_plus x (combined s f k n) (cond (bit k n) (f k) s.zero)
      ∙ ap₂ s.plus (times_combined x f k n) (times_cond x (f k) (bit k n))

  combined_times : (y : K) (f : ℕ → K) (k n : ℕ) → s.times (combined s f k n) y ≡ combined s (λ i. s.times (f i) y) k n
  combined_times y f zero n = zero_times s.ring y
  combined_times y f (suc k) n =
      plus_times s.ring (combined s f k n) (cond (bit k n) (f k) s.zero) y
      ∙ ap₂ s.plus (combined_times y f k n) (cond_times (f k) y (bit k n))

  combined_same : (f g : ℕ → K) → ((i : ℕ) → f i ≡ g i) → (k n : ℕ) → combined s f k n ≡ combined s g k n
  combined_same f g e zero n = refl
  combined_same f g e (suc k) n = ap₂ (λ w x. s.plus w (cond (bit k n) x s.zero)) (combined_same f g e k n) (e k)

  pub bilinear : (x y : K) → s.times x y ≡ combined s (λ i. combined s (λ j. s.times (s.of (2 ^ i)) (s.of (2 ^ j))) s.bits (s.value y)) s.bits (s.value x)
  bilinear x y =
      let power : ℕ → K = λ i. s.of (2 ^ i) in
      ap₂ s.times (spanned x) (spanned y)
      ∙ combined_times (combined s power s.bits (s.value y)) power s.bits (s.value x)
      ∙ combined_same (λ i. s.times (power i) (combined s power s.bits (s.value y))) (λ i. combined s (λ j. s.times (power i) (power j)) s.bits (s.value y))
      (λ i. times_combined (power i) power s.bits (s.value y)) s.bits (s.value x)
