-- How many numbers pass a test, where the test is changed at one place, and some of those that pass. Assumes nothing.
use Rattle.std.proofs.Common.{◌≡◌, ℕ, zero, suc, ◌+◌, ◌-◌, ◌<◌, ◌≤◌, Bool, true, false, cond, not, ◌&&◌, eqb, refl, arith}
use Rattle.std.proofs.lemmas.Bool.{not-true, not-false}
use Rattle.codeword.specs.Sums.{count}
use Rattle.codeword.proofs.Counts.{count_ext, count_place}
use Rattle.distance.proofs.Chosen.{larger}
use Rattle.worksheet.proofs.Highest.{count_others}
use Rattle.rules.specs.Known.{put}

bit_le : (a b : Bool) → (a ≡ true → b ≡ true) → cond a 1 0 ≤ cond b 1 0
bit_le true b h = rw (h refl) (omega arith)
bit_le false b h = omega arith

-- what passes one test passes the other
pub count_fewer : (p q : ℕ → Bool) (n : ℕ) → ((i : ℕ) → i < n → p i ≡ true → q i ≡ true) → count p n ≤ count q n
unfolding count
count_fewer p q zero h = omega arith
count_fewer p q (suc n) h = omega (arith, bit_le (p n) (q n) (h n (omega arith)), count_fewer p q n (λ i k. h i (omega arith)))

-- the numbers other than c that pass
abbrev pub others : (ℕ → Bool) → ℕ → ℕ → Bool
others p c i = p i && not (eqb i c)

pub count_but_one : (p : ℕ → Bool) (c n : ℕ) → count (put p c true) n ≤ 1 + count (others p c) n
count_but_one p c n =
    let same : count (put p c true) n ≡ count (put (others p c) c true) n
    = count_ext (put p c true) (put (others p c) c true) n (λ i h. at (p i) (eqb i c)) in
    omega (arith, count_place c (others p c) n)
  where
    at : (x e : Bool) → cond e true x ≡ cond e true (x && not e)
    at true true = refl
    at true false = refl
    at false true = refl
    at false false = refl

-- k of the numbers that pass
abbrev pub SomeOf : (ℕ → Bool) → ℕ → ℕ → Type 0
SomeOf p n k = (few : ℕ → Bool) × (count few n ≡ k) × ((i : ℕ) → i < n → few i ≡ true → p i ≡ true)

pub some_of : (p : ℕ → Bool) (n k : ℕ) → k ≤ count p n → SomeOf p n k
some_of p n k h =
    let all : count (λ i. not (p i)) n + count p n ≡ n = count_others (λ i. not (p i)) p n (λ i _. refl) in
    let (big, counted, within) = larger (λ i. not (p i)) n (n - k) (omega arith) (omega arith) in
    let rest : count (λ i. not (big i)) n + count big n ≡ n = count_others (λ i. not (big i)) big n (λ i _. refl) in
    (λ i. not (big i), omega arith, λ i l e. not-false (p i) (within i l (not-true (big i) e)))
