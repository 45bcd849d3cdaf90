-- The operations of the field of four elements, by two tables, and their laws by tests that compute. Assumes nothing.
use Rattle.std.specs.Prelude.{◌≡◌, ℕ, zero, suc, ◌+◌, ◌*◌, ◌<◌, [], ◌∷◌, ◌≢◌, bit_xor, nat_lt, slice_index, refl}
use mathlib.Core.HLevel.{is_prop→PathP}
use Rattle.std.proofs.Math.Bridge.{le_prop}
use Rattle.std.proofs.Common.{arith, lit<}
use Rattle.std.proofs.lemmas.Nat.{xor_lt, xor_comm}
use Rattle.std.specs.Int.Bits.{xor_assoc, xor_zero_r, xor_self}
use Rattle.ring2.specs.Ring.{Ring}
use Rattle.field.specs.Tests.{every, every_at, agree, agree2, agree3, below}
use Rattle.field.specs.declared.gf4.Gf4.{Gf4}

-- 2 2 = 3, 2 3 = 1 and 3 3 = 2, a row of four for each first factor
abbrev pub times_of : ℕ → ℕ → ℕ
times_of a b = slice_index (0 ∷ 0 ∷ 0 ∷ 0 ∷ 0 ∷ 1 ∷ 2 ∷ 3 ∷ 0 ∷ 2 ∷ 3 ∷ 1 ∷ 0 ∷ 3 ∷ 1 ∷ 2 ∷ []) (4 * a + b)

abbrev pub inverse_of : ℕ → ℕ
inverse_of a = slice_index (0 ∷ 1 ∷ 3 ∷ 2 ∷ []) a

pub times_lt : (a b : ℕ) → a < 4 → b < 4 → times_of a b < 4
times_lt a b h k = below 4 4 (times_of a) (every_at 4 (λ i. every 4 (λ j. nat_lt (times_of i j) 4)) tt a h) b k

pub inverse_lt : (a : ℕ) → a < 4 → inverse_of a < 4
inverse_lt = below 4 4 inverse_of tt

pub times_inverse_of : (a : ℕ) → a < 4 → (a ≢ 0) → times_of a (inverse_of a) ≡ 1
times_inverse_of zero l h = absurd (h refl)
times_inverse_of (suc a) l h = agree 3 (λ i. times_of (suc i) (inverse_of (suc i))) (λ i. 1) tt a (omega arith)

-- w w + w is 0 or 1
pub no_root_of : (a : ℕ) → a < 4 → bit_xor (times_of a a) a < 2
no_root_of = below 4 2 (λ a. bit_xor (times_of a a) a) tt

-- two elements of one number are one element
pub same_number : (x y : Gf4) → x.n ≡ y.n → x ≡ y
same_number x y p = λ i. record { n = p i; small = is_prop→PathP (λ j. p j < 4) (λ j. le_prop) x.small y.small i }

abbrev pub element : (n : ℕ) → n < 4 → Gf4
element n h = record { n = n; small = h }

abbrev pub nought : Gf4
nought = element 0 (lit< tt)

abbrev pub unit : Gf4
unit = element 1 (lit< tt)

abbrev pub sum : Gf4 → Gf4 → Gf4
sum x y = element (bit_xor x.n y.n) (xor_lt 2 x.n y.n x.small y.small)

abbrev pub multiplied : Gf4 → Gf4 → Gf4
multiplied x y = element (times_of x.n y.n) (times_lt x.n y.n x.small y.small)

abbrev pub divided : Gf4 → Gf4
divided x = element (inverse_of x.n) (inverse_lt x.n x.small)

pub four_ring : Ring {K = Gf4} (record { zero = nought; one = unit; plus = sum; times = multiplied })
four_ring = record {
  plus_assoc = λ x y z. same_number (sum (sum x y) z) (sum x (sum y z)) (xor_assoc x.n y.n z.n);
  plus_comm = λ x y. same_number (sum x y) (sum y x) (xor_comm x.n y.n);
  plus_zero = λ x. same_number (sum x nought) x (xor_zero_r x.n);
  plus_self = λ x. same_number (sum x x) nought (xor_self x.n);
  times_assoc = λ x y z. same_number (multiplied (multiplied x y) z) (multiplied x (multiplied y z))
      (agree3 4 (λ a b c. times_of (times_of a b) c) (λ a b c. times_of a (times_of b c)) tt x.n y.n z.n x.small y.small z.small);
  times_comm = λ x y. same_number (multiplied x y) (multiplied y x)
      (agree2 4 times_of (λ a b. times_of b a) tt x.n y.n x.small y.small);
  times_one = λ x. same_number (multiplied x unit) x (agree 4 (λ a. times_of a 1) (λ a. a) tt x.n x.small);
  times_plus = λ x y z. same_number (multiplied x (sum y z)) (sum (multiplied x y) (multiplied x z))
      (agree3 4 (λ a b c. times_of a (bit_xor b c)) (λ a b c. bit_xor (times_of a b) (times_of a c)) tt x.n y.n z.n x.small y.small z.small);
}
