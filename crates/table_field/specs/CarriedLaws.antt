-- The laws of a field that is carried over to another type along the numbers of its elements. Assumes nothing.
use Rattle.std.specs.Prelude.{◌≡◌, ℕ, ◌^◌, ◌<◌, ◌≤◌, ◌≢◌, bit_xor}
use Rattle.std.proofs.Common.{sym, ap, ap₂, subst, ◌∙◌, lt_of_lt_of_le, pow_mono}
use Rattle.std.proofs.lemmas.Nat.{xor_lt}
use Rattle.ring2.specs.Ring.{Ring}
use Rattle.field.specs.Structure.{Structure, size}
use Rattle.field.specs.Numbers.{product, inverted}
use Rattle.field.proofs.Elements.{of_xor}

-- the elements of L by their numbers, as many as s has elements
pub record Numbering {K : Type 0} (s : Structure K) (L : Type 0) : Type 0 where
  pub bits : ℕ
  pub bits_are : s.bits ≡ bits
  pub number : L → ℕ
  pub element : ℕ → L
  pub number_lt : (x : L) → number x < 2 ^ bits
  pub element_number : (x : L) → element (number x) ≡ x
  pub number_element : (n : ℕ) → n < 2 ^ bits → number (element n) ≡ n

module _ {K L : Type 0} (s : Structure K) (m : Numbering s L) where
  abbrev pub sum : L → L → L
  sum x y = m.element (bit_xor (m.number x) (m.number y))

  abbrev pub multiplied : L → L → L
  multiplied x y = m.element (product s (m.number x) (m.number y))

  abbrev pub divided : L → L
  divided x = m.element (inverted s (m.number x))

  below : (x : L) → m.number x < size s
  below x = subst (λ b. m.number x < 2 ^ b) (sym m.bits_are) (m.number_lt x)

  back : (n : ℕ) → n < size s → m.number (m.element n) ≡ n
  back n h = m.number_element n (subst (λ b. n < 2 ^ b) m.bits_are h)

  -- the element of s that has the same number
  abbrev pub in_s : L → K
  in_s x = s.of (m.number x)

  pub from_s : (k : K) → in_s (m.element (s.value k)) ≡ k
  from_s k = ap s.of (back (s.value k) (s.value_lt k)) ∙ s.of_value k

  pub in_s_zero : in_s (m.element 0) ≡ s.zero
  in_s_zero = ap (λ n. in_s (m.element n)) (sym s.value_zero) ∙ from_s s.zero

  pub in_s_one : in_s (m.element 1) ≡ s.one
  in_s_one = ap (λ n. in_s (m.element n)) (sym s.value_one) ∙ from_s s.one

  pub in_s_plus : (x y : L) → in_s (sum x y) ≡ s.plus (in_s x) (in_s y)
  in_s_plus x y =
      ap s.of (back (bit_xor (m.number x) (m.number y)) (xor_lt s.bits (m.number x) (m.number y) (below x) (below y)))
      ∙ of_xor s (m.number x) (m.number y) (below x) (below y)

  pub in_s_times : (x y : L) → in_s (multiplied x y) ≡ s.times (in_s x) (in_s y)
  in_s_times x y = from_s (s.times (in_s x) (in_s y))

  pub same : (x y : L) → in_s x ≡ in_s y → x ≡ y
  same x y e =
      sym (m.element_number x) ∙ ap m.element (sym (s.value_of (m.number x) (below x)) ∙ ap s.value e ∙ s.value_of (m.number y) (below y))
      ∙ m.element_number y

  pub in_s_root : (w : L) → in_s (sum (multiplied w w) w) ≡ s.plus (s.times (in_s w) (in_s w)) (in_s w)
  in_s_root w = in_s_plus (multiplied w w) w ∙ ap (λ k. s.plus k (in_s w)) (in_s_times w w)

  pub carried_ring : Ring {K = L} (record { zero = m.element 0; one = m.element 1; plus = sum; times = multiplied })
  carried_ring = record {
    plus_assoc = λ x y z. same (sum (sum x y) z) (sum x (sum y z))
        (in_s_plus (sum x y) z ∙ ap (λ k. s.plus k (in_s z)) (in_s_plus x y) ∙ s.ring.plus_assoc (in_s x) (in_s y) (in_s z)
        ∙ sym (in_s_plus x (sum y z) ∙ ap (s.plus (in_s x)) (in_s_plus y z)));
    plus_comm = λ x y. same (sum x y) (sum y x) (in_s_plus x y ∙ s.ring.plus_comm (in_s x) (in_s y) ∙ sym (in_s_plus y x));
    plus_zero = λ x. same (sum x (m.element 0)) x (in_s_plus x (m.element 0) ∙ ap (s.plus (in_s x)) in_s_zero ∙ s.ring.plus_zero (in_s x));
    plus_self = λ x. same (sum x x) (m.element 0) (in_s_plus x x ∙ s.ring.plus_self (in_s x) ∙ sym in_s_zero);
    times_assoc = λ x y z. same (multiplied (multiplied x y) z) (multiplied x (multiplied y z))
        (in_s_times (multiplied x y) z ∙ ap (λ k. s.times k (in_s z)) (in_s_times x y) ∙ s.ring.times_assoc (in_s x) (in_s y) (in_s z)
        ∙ sym (in_s_times x (multiplied y z) ∙ ap (s.times (in_s x)) (in_s_times y z)));
    times_comm = λ x y. same (multiplied x y) (multiplied y x) (in_s_times x y ∙ s.ring.times_comm (in_s x) (in_s y) ∙ sym (in_s_times y x));
    times_one = λ x. same (multiplied x (m.element 1)) x (in_s_times x (m.element 1) ∙ ap (s.times (in_s x)) in_s_one ∙ s.ring.times_one (in_s x));
    times_plus = λ x y z. same (multiplied x (sum y z)) (sum (multiplied x y) (multiplied x z))
        (in_s_times x (sum y z) ∙ ap (s.times (in_s x)) (in_s_plus y z) ∙ s.ring.times_plus (in_s x) (in_s y) (in_s z)
        ∙ sym (in_s_plus (multiplied x y) (multiplied x z) ∙ ap₂ s.plus (in_s_times x y) (in_s_times x z)));
  }

  pub divided_zero : divided (m.element 0) ≡ m.element 0
  divided_zero =
      same (divided (m.element 0)) (m.element 0)
      (from_s (s.inverse (in_s (m.element 0))) ∙ ap s.inverse in_s_zero ∙ s.inverse_zero ∙ sym in_s_zero)

  pub times_divided : (x : L) → (x ≢ m.element 0) → multiplied x (divided x) ≡ m.element 1
  times_divided x n =
      same (multiplied x (divided x)) (m.element 1)
      (in_s_times x (divided x) ∙ ap (s.times (in_s x)) (from_s (s.inverse (in_s x)))
      ∙ s.times_inverse (in_s x) (λ e. n (same x (m.element 0) (e ∙ sym in_s_zero))) ∙ sym in_s_one)

  pub two_bits : 2 ≤ m.bits
  two_bits = subst (λ b. 2 ≤ b) m.bits_are s.two_bits

  pub some_lt : (n : ℕ) → n < 4 → n < 2 ^ m.bits
  some_lt n h = lt_of_lt_of_le h (pow_mono two_bits)
