-- Cantor's tower: a field of 2 ^ (2 ^ m) elements by its generators u_0 .. u_(m-1). Assumes nothing.
use Rattle.std.specs.Prelude.{◌≡◌, ℕ, zero, suc, ◌/◌, ◌%◌, ◌^◌, ◌<◌, Bool, cond, ◌==◌}
use Rattle.field.specs.Structure.{Structure}

-- bit k of i is set
abbrev pub bit : ℕ → ℕ → Bool
bit k i = i / 2 ^ k % 2 == 1

module _ {K : Type 0} (s : Structure K) where
  -- u_k, the element numbered 2 ^ (2 ^ k)
  abbrev pub generator : ℕ → K
  generator k = s.of (2 ^ (2 ^ k))

  -- u_0 u_1 .. u_(k-1)
  abbrev pub all_generators : ℕ → K
  all_generators zero = s.one
  all_generators (suc k) = s.times (all_generators k) (generator k)

  -- the product of those of u_0 .. u_(m-1) whose bit is set in i
  abbrev pub monomial : ℕ → ℕ → K
  monomial zero i = s.one
  monomial (suc k) i = s.times (monomial k i) (cond (bit k i) (generator k) s.one)

  -- the sum of those of f 0 .. f (k-1) whose bit is set in n
  abbrev pub combined : (ℕ → K) → ℕ → ℕ → K
  combined f zero n = s.zero
  combined f (suc k) n = s.plus (combined f k n) (cond (bit k n) (f k) s.zero)

-- The field is a tower of m generators.
pub record Tower {K : Type 0} (s : Structure K) (m : ℕ) : Type 0 where
  pub bits_are : s.bits ≡ 2 ^ m
  -- the element numbered 2 ^ i is the product of those u_k whose bit k is set in i
  pub basis : (i : ℕ) → i < 2 ^ m → s.of (2 ^ i) ≡ monomial s m i
  -- u_k u_k = u_k + u_0 .. u_(k-1); in particular u_0 u_0 = u_0 + 1
  pub squares : (k : ℕ) → k < m → s.times (generator s k) (generator s k) ≡ s.plus (generator s k) (all_generators s k)
  -- the constant of the next extension is the product of all generators
  pub constant : s.v ≡ all_generators s m
  -- each element is the sum of the basis elements whose bit is set in its number
  pub spanned : (x : K) → x ≡ combined s (λ i. s.of (2 ^ i)) s.bits (s.value x)
  -- and a product is the sum of the products of those basis elements
  pub bilinear : (x y : K) → s.times x y ≡ combined s (λ i. combined s (λ j. s.times (s.of (2 ^ i)) (s.of (2 ^ j))) s.bits (s.value y)) s.bits (s.value x)
