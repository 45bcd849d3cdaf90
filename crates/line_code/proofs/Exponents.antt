-- Powers of two at a count. Assumes nothing.
use Rattle.std.proofs.Common.{◌≡◌, ℕ, suc, ◌*◌, ◌/◌, ◌^◌, ◌<◌, ◌≤◌, max, ap, arith, pow_mono, pow_pos}
use native.Mathlib.Decide.{dec_lt}
use lib.Pow.{pow-lt}
use Rattle.halves.proofs.Halving.{twice}

-- the logarithm of a power is exact
pub exact : (p k n : ℕ) → p ≡ 2 ^ k → 2 ^ n ≤ p → p < 2 * 2 ^ n → p ≡ 2 ^ n
exact p k n is low high = elim (dec_lt k n) [
  | yes l ↦ absurd (omega (arith, pow-lt l))
  | no g ↦ elim (dec_lt n k) [
    | yes l ↦ let up : 2 ^ suc n ≤ 2 ^ k = pow_mono l in absurd (omega (arith, twice n))
    | no h ↦ let e : k ≡ n = omega arith in omega (arith, ap (λ m. 2 ^ m) e)
  ]
]

-- the powers below the least that is no less than a count are below the count
pub below_least : (count n k : ℕ) → 2 ^ n / 2 < max 1 count → k < n → 2 ^ k < count
below_least count n k least l =
    let up : 2 ^ suc k ≤ 2 ^ n = pow_mono l in omega (arith, twice k, pow_pos k)

-- the least exponent for at most 2^bits items is at most bits
pub least_within : (n count bits : ℕ) → count ≤ 2 ^ bits → ((k : ℕ) → k < n → 2 ^ k < count) → n ≤ bits
least_within n count bits h least = elim (dec_lt bits n) [
  | yes l ↦ absurd (omega (arith, least bits l))
  | no l ↦ omega arith
]
