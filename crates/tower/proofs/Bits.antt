-- The bits of a number: below, at and above the place where a power of two is added. Assumes nothing.
use Rattle.std.proofs.Common.{◌≡◌, ℕ, ◌+◌, ◌-◌, ◌*◌, ◌/◌, ◌%◌, ◌^◌, ◌<◌, true, false, eqb, sym, ap, ◌∙◌, arith, pow-add}
use native.Mathlib.Nat.{div-eq_of_lt, add-mul-mod_self_right}
use lib.Pow.{field, high}
use Rattle.tower.specs.Tower.{bit}

-- a number below 2 ^ p has no bit p
pub bit_above : (p i : ℕ) → i < 2 ^ p → bit p i ≡ false
bit_above p i h = rw (div-eq_of_lt h)

pub bit_at : (j k : ℕ) → k < 2 ^ j → bit j (k + 2 ^ j) ≡ true
bit_at j k h =
    let e : (k + 2 ^ j) / 2 ^ j ≡ 1 = ap (λ n. n / 2 ^ j) (omega arith) ∙ high 1 j h in
    ap (λ n. eqb (n % 2) 1) e

-- a power above bit p does not change it
pub bit_below : (p j k : ℕ) → p < j → bit p (k + 2 ^ j) ≡ bit p k
bit_below p j k h =
    let d : ℕ = j - (1 + p) in
    let power : 2 ^ j ≡ 2 ^ d * 2 ^ (1 + p) = ap (λ n. 2 ^ n) (omega arith) ∙ pow-add 2 d (1 + p) in
    let low : (k + 2 ^ j) % 2 ^ (1 + p) ≡ k % 2 ^ (1 + p) =
    ap (λ n. (k + n) % 2 ^ (1 + p)) power ∙ add-mul-mod_self_right k (2 ^ d) (2 ^ (1 + p)) in
    ap (λ n. eqb n 1) (sym (field (k + 2 ^ j) 1 p) ∙ ap (λ n. n / 2 ^ p) low ∙ field k 1 p)
