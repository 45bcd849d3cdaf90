-- How many bays pass a test, and how many of these have the highest numbers. Assumes nothing.
use Rattle.std.proofs.Common.{◌≡◌, ℕ, zero, suc, ◌+◌, ◌-◌, ◌<◌, ◌≤◌, Bool, true, false, cond, not, ◌&&◌, ltb, refl, ap, arith}
use Rattle.std.proofs.lemmas.Bool.Decides.{nat_tests}
use Rattle.codeword.specs.Sums.{count}
use Rattle.worksheet.specs.Present.{above, highest}

-- what a test adds to a count
abbrev pub bit : Bool → ℕ
bit b = cond b 1 0

one_of_two : (b : Bool) → bit (not b) + bit b ≡ 1
one_of_two true = refl
one_of_two false = refl

-- each number passes one of two tests, if one is the other's contrary
pub count_others : (p q : ℕ → Bool) (n : ℕ) → ((i : ℕ) → i < n → p i ≡ not (q i)) → count p n + count q n ≡ n
unfolding count
count_others p q zero contrary = refl
count_others p q (suc n) contrary =
    let here : bit (p n) ≡ bit (not (q n)) = ap bit (contrary n (omega arith)) in
    omega (arith, here, one_of_two (q n), count_others p q n (λ i h. contrary i (omega arith)))

module _ (test : ℕ → Bool) where
  -- the first k numbers from the top one down, and those below them
  from_top : (m k : ℕ) → k ≤ m → count (λ j. test (m - 1 - j)) k + count test (m - k) ≡ count test m
  unfolding count
  from_top m zero h = let all : m - 0 ≡ m = omega arith in omega (arith, ap (count test) all)
  from_top m (suc k) h =
      let next : m - k ≡ suc (m - suc k) = omega arith in
      let more : count test (m - k) ≡ bit (test (m - suc k)) + count test (m - suc k) = ap (count test) next in
      let same : m - 1 - k ≡ m - suc k = omega arith in
      let here : bit (test (m - 1 - k)) ≡ bit (test (m - suc k)) = ap (λ b. bit (test b)) same in
      omega (arith, more, here, from_top m k (omega arith))

  pub above_rest : (bays bay : ℕ) → bay < bays → above test bays bay + count test (suc bay) ≡ count test bays
  above_rest bays bay h =
      let rest : bays - (bays - 1 - bay) ≡ suc bay = omega arith in
      omega (arith, ap (count test) rest, from_top bays (bays - 1 - bay) (omega arith))

one_more : (b : Bool) (n above below all passed : ℕ) → passed ≡ below - (all - n) → above + (bit b + below) ≡ all
    → bit (b && ltb above n) + passed ≡ bit b + below - (all - n)
one_more true n above below all passed so rest = grind (arith, nat_tests)
one_more false n above below all passed so rest = omega arith

-- Of the lowest bays that pass, those are left out that make more than n with all above.
pub count_highest : (n : ℕ) (test : ℕ → Bool) (top : ℕ) → top ≤ n + 4 → count (highest n test) top ≡ count test top - (count test (n + 4) - n)
unfolding count
count_highest n test zero h = omega arith
count_highest n test (suc bay) h =
    one_more (test bay) n (above test (n + 4) bay) (count test bay) (count test (n + 4)) (count (highest n test) bay)
    (count_highest n test bay (omega arith)) (above_rest test (n + 4) bay (omega arith))
