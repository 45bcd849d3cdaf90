-- The laws of counting the numbers below a bound that pass a test. Assumes nothing.
use mathlib.Core.Path.{◌≡◌, refl, ap, ap₂, ◌∙◌}
use mathlib.Core.Bool.{Bool, true, false, cond}
use Prim.Native.Nat.{ℕ, zero, suc, ◌+◌, ◌-◌, ◌≤◌, ◌<◌}
use native.Mathlib.Omega.{arith}
use native.Mathlib.Numerals.{add-one}
use native.Mathlib.Decide.{ℕ_discrete}
use lib.Dec.{eqb}
use borrow.Author.Tests.{eq-eqb, ne_eqb}
use Rattle.codeword.specs.Sums.{count}

pub count_none : (test : ℕ → Bool) → count test 0 ≡ 0
unfolding count
count_none test = refl

pub count_suc : (test : ℕ → Bool) (n : ℕ) → count test (suc n) ≡ cond (test n) 1 0 + count test n
unfolding count
count_suc test n = refl

count_more : (test : ℕ → Bool) (n : ℕ) → count test (n + 1) ≡ cond (test n) 1 0 + count test n
count_more test n = ap (count test) (add-one n) ∙ count_suc test n

-- the count depends on the tests below the bound alone
pub count_ext : (p q : ℕ → Bool) (n : ℕ) → ((i : ℕ) → i < n → p i ≡ q i) → count p n ≡ count q n
unfolding count
count_ext p q zero same = refl
count_ext p q (suc n) same = ap₂ (λ b c. cond b 1 0 + c) (same n (omega arith)) (count_ext p q n (λ i h. same i (omega arith)))

one_most : (b : Bool) → cond b 1 0 ≤ 1
one_most true = omega arith
one_most false = omega arith

pub count_le : (test : ℕ → Bool) (n : ℕ) → count test n ≤ n
unfolding count
count_le test zero = omega arith
count_le test (suc n) = omega (arith, one_most (test n), count_le test n)

count_mono : (test : ℕ → Bool) (i k : ℕ) → count test i ≤ count test (i + k)
count_mono test i zero = let e : i + 0 ≡ i = omega arith in rw e (omega arith)
count_mono test i (suc k) =
    let e : i + suc k ≡ i + k + 1 = omega arith in
    rw e (omega (arith, count_more test (i + k), count_mono test i k))

pub count_up : (test : ℕ → Bool) (i n : ℕ) → i ≤ n → count test i ≤ count test n
count_up test i n h = let e : n ≡ i + (n - i) = omega arith in rw e (count_mono test i (n - i))

pub count_skip : (test : ℕ → Bool) (n : ℕ) → test n ≡ false → count test (n + 1) ≡ count test n
count_skip test n off = count_more test n ∙ ap (λ b. cond b 1 0 + count test n) off ∙ omega arith

pub count_take : (test : ℕ → Bool) (n : ℕ) → test n ≡ true → count test (n + 1) ≡ count test n + 1
count_take test n on = count_more test n ∙ ap (λ b. cond b 1 0 + count test n) on ∙ omega arith

-- one number more that passes counts one at most
pub count_place : (c : ℕ) (p : ℕ → Bool) (n : ℕ) → count (λ i. cond (eqb i c) true (p i)) n ≤ 1 + count p n
count_place c p zero = rw (count_none (λ i. cond (eqb i c) true (p i))) (omega arith)
count_place c p (suc n) = elim (ℕ_discrete n c) [
  | yes e ↦
      let same : count (λ i. cond (eqb i c) true (p i)) n ≡ count p n
      = count_ext (λ i. cond (eqb i c) true (p i)) p n (λ i h. rw (ne_eqb i c (omega arith))) in
      rw (count_suc (λ i. cond (eqb i c) true (p i)) n, count_suc p n, eq-eqb n c e) (omega arith)
  | no d ↦
      rw (count_suc (λ i. cond (eqb i c) true (p i)) n, count_suc p n, ne_eqb n c d) (omega (arith, count_place c p n))
]

pub count_never : (n : ℕ) → count (λ i. false) n ≤ 0
unfolding count
count_never zero = omega arith
count_never (suc n) = omega (arith, count_never n)
