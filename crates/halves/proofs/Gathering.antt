-- All runs of a list of words, gathered in place by exclusive or: the places of sets, and the step from 2^m words to 2^(m + 1). Assumes nothing.
use Rattle.std.proofs.Common.{◌≡◌, ℕ, zero, suc, ◌+◌, ◌-◌, ◌^◌, ◌<◌, ◌≤◌, Bool, true, false, cond, eqb, List, ◌++◌, length, get_or, sym, refl, ap, ◌∙◌, ap₂, arith, eq-eqb, ne_eqb}
use native.Mathlib.Decide.{ℕ_discrete}
use lib.Bits.{bit_xor, xor_assoc, xor_comm}
use Rattle.std.proofs.lemmas.List.{get_or_append_left, get_or-append-add}
use Rattle.codeword.specs.Sums.{count}
use Rattle.halves.specs.Runs.{none, one, two, upper}
use Rattle.halves.specs.Gathered.{run_by, place, Gathered}
use Rattle.halves.proofs.Halving.{twice, same, run_by_ext}

-- the image of a choice is the choice of the images
image_cond : {K L : Type 0} (h : K → L) (t : Bool) (x y : K) → h (cond t x y) ≡ cond t (h x) (h y)
image_cond h true x y = refl
image_cond h false x y = refl

-- a run of images is the image of the run
pub run_image : {K L : Type 0} (plus : K → K → K) (add : L → L → L) (h : K → L) → ((x y : K) → h (plus x y) ≡ add (h x) (h y))
    → (set : ℕ → Bool) (m : ℕ) (f : ℕ → K) (g : ℕ → L) → ((i : ℕ) → i < 2 ^ m → h (f i) ≡ g i) → h (run_by plus set m f) ≡ run_by add set m g
unfolding run_by
run_image plus add h law set zero f g e = e 0 (omega arith)
run_image plus add h law set (suc m) f g e =
    let low : h (run_by plus set m f) ≡ run_by add set m g = run_image plus add h law set m f g (λ i l. e i (omega (arith, twice m))) in
    let high : h (run_by plus set m (upper m f)) ≡ run_by add set m (upper m g)
    = run_image plus add h law set m (upper m f) (upper m g) (λ i l. e (2 ^ m + i) (omega (arith, twice m))) in
    image_cond h (set m) (run_by plus set m (upper m f)) (plus (run_by plus set m f) (run_by plus set m (upper m f)))
    ∙ ap₂ (cond (set m)) high (law (run_by plus set m f) (run_by plus set m (upper m f)) ∙ ap₂ add low high)

xor_exchange : (a b c d : ℕ) → bit_xor (bit_xor a b) (bit_xor c d) ≡ bit_xor (bit_xor a c) (bit_xor b d)
xor_exchange a b c d =
    xor_assoc a b (bit_xor c d)
    ∙ ap (bit_xor a) (sym (xor_assoc b c d) ∙ ap (λ w. bit_xor w d) (xor_comm b c) ∙ xor_assoc c b d)
    ∙ sym (xor_assoc a c (bit_xor b d))

-- a run of sums is the sum of the runs
run_sum : (set : ℕ → Bool) (m : ℕ) (f g : ℕ → ℕ) → run_by bit_xor set m (λ i. bit_xor (f i) (g i)) ≡ bit_xor (run_by bit_xor set m f) (run_by bit_xor set m g)
unfolding run_by
run_sum set zero f g = refl
run_sum set (suc m) f g =
    ap₂ (λ a b. cond (set m) b (bit_xor a b)) (run_sum set m f g) (run_sum set m (upper m f) (upper m g)) ∙ go (set m)
  where
    go : (t : Bool) → cond t (bit_xor (run_by bit_xor set m (upper m f)) (run_by bit_xor set m (upper m g)))
        (bit_xor (bit_xor (run_by bit_xor set m f) (run_by bit_xor set m g)) (bit_xor (run_by bit_xor set m (upper m f)) (run_by bit_xor set m (upper m g))))
        ≡ bit_xor (cond t (run_by bit_xor set m (upper m f)) (bit_xor (run_by bit_xor set m f) (run_by bit_xor set m (upper m f))))
        (cond t (run_by bit_xor set m (upper m g)) (bit_xor (run_by bit_xor set m g) (run_by bit_xor set m (upper m g))))
    go true = refl
    go false = xor_exchange (run_by bit_xor set m f) (run_by bit_xor set m g) (run_by bit_xor set m (upper m f)) (run_by bit_xor set m (upper m g))

-- the place depends on the bits below m alone, and is below 2^m
place_set : (a b : ℕ → Bool) (m : ℕ) → ((i : ℕ) → i < m → a i ≡ b i) → place a m ≡ place b m
unfolding place
place_set a b zero e = refl
place_set a b (suc m) e =
    ap₂ (λ t p. cond t (2 ^ m + p) p) (e m (omega arith)) (place_set a b m (λ i h. e i (omega arith)))

pub place_lt : (set : ℕ → Bool) (m : ℕ) → place set m < 2 ^ m
unfolding place
place_lt set zero = omega arith
place_lt set (suc m) = go (set m) (place_lt set m)
  where
    go : (t : Bool) → place set m < 2 ^ m → cond t (2 ^ m + place set m) (place set m) < 2 ^ suc m
    go true h = omega (arith, twice m)
    go false h = omega (arith, twice m)

pub place_none : (m : ℕ) → place none m ≡ 0
unfolding place
place_none zero = refl
place_none (suc m) = place_none m

pub place_one : (j m : ℕ) → j < m → place (one j) m ≡ 2 ^ j
unfolding place
place_one j zero h = absurd (omega arith)
place_one j (suc m) h = elim (ℕ_discrete m j) [
  | yes e ↦
      ap (λ t. cond t (2 ^ m + place (one j) m) (place (one j) m)) (eq-eqb m j e)
      ∙ ap (λ p. 2 ^ m + p) (place_set (one j) none m (λ i l. ne_eqb i j (λ d. omega arith)) ∙ place_none m)
      ∙ (let z : 2 ^ m + 0 ≡ 2 ^ m = omega arith in z) ∙ ap (λ n. 2 ^ n) e
  | no d ↦ ap (λ t. cond t (2 ^ m + place (one j) m) (place (one j) m)) (ne_eqb m j d) ∙ place_one j m (omega arith)
]

pub place_two : (j k m : ℕ) → j < k → k < m → place (two j k) m ≡ 2 ^ k + 2 ^ j
unfolding place
place_two j k zero l h = absurd (omega arith)
place_two j k (suc m) l h = elim (ℕ_discrete m k) [
  | yes e ↦
      ap (λ t. cond t (2 ^ m + place (two j k) m) (place (two j k) m))
      (ap (λ t. cond t true (eqb m k)) (ne_eqb m j (λ d. omega arith)) ∙ eq-eqb m k e)
      ∙ ap₂ (λ n p. 2 ^ n + p) e
      (place_set (two j k) (one j) m (λ i b. ap (cond (eqb i j) true) (ne_eqb i k (λ d. omega arith)) ∙ same (eqb i j)) ∙ place_one j m (omega arith))
  | no d ↦
      ap (λ t. cond t (2 ^ m + place (two j k) m) (place (two j k) m))
      (ap (λ t. cond t true (eqb m k)) (ne_eqb m j (λ e. omega arith)) ∙ ne_eqb m k d)
      ∙ place_two j k m l (omega arith)
]

-- how many bits the sets have
count_one_from : (j m : ℕ) → (count (one j) m ≤ 1) × (count (one j) m ≤ m - j)
unfolding count
count_one_from j zero = (omega arith, omega arith)
count_one_from j (suc m) = elim (ℕ_discrete m j) [
  | yes e ↦
      let t : cond {A = ℕ} (eqb m j) 1 0 ≡ 1 = ap (λ b. cond {A = ℕ} b 1 0) (eq-eqb m j e) in
      (omega (arith, (count_one_from j m).1), omega (arith, (count_one_from j m).1))
  | no d ↦
      let t : cond {A = ℕ} (eqb m j) 1 0 ≡ 0 = ap (λ b. cond {A = ℕ} b 1 0) (ne_eqb m j d) in
      (omega (arith, (count_one_from j m).0), omega (arith, (count_one_from j m).1))
]

pub count_one : (j m : ℕ) → count (one j) m ≤ 1
count_one j m = (count_one_from j m).0

count_both : (j k m : ℕ) → count (two j k) m ≤ count (one j) m + count (one k) m
unfolding count
count_both j k zero = omega arith
count_both j k (suc m) = go (eqb m j) (eqb m k) (count_both j k m)
  where
    go : (a b : Bool) → count (two j k) m ≤ count (one j) m + count (one k) m
        → cond (cond a true b) 1 0 + count (two j k) m ≤ (cond a 1 0 + count (one j) m) + (cond b 1 0 + count (one k) m)
    go true true h = omega arith
    go true false h = omega arith
    go false true h = omega arith
    go false false h = omega arith

pub count_two : (j k m : ℕ) → count (two j k) m ≤ 2
count_two j k m = omega (arith, count_both j k m, count_one j m, count_one k m)

-- one word is its own sum
pub gathered_word : (most : ℕ) (words : List ℕ) → Gathered 0 most words words
unfolding place run_by
gathered_word most words set h = refl

-- Twice as many words: `lower` has the halves added, `low` has its sums, and `high` those of the upper half by itself.
module _ (m most : ℕ) (words lower low high : List ℕ) where
  pub gathered_more : length low ≡ 2 ^ m
      → ((i : ℕ) → i < 2 ^ m → get_or lower i 0 ≡ bit_xor (get_or words i 0) (get_or words (2 ^ m + i) 0))
      → ((set : ℕ → Bool) → count set m < most → get_or high (place set m) 0 ≡ run_by bit_xor set m (λ i. get_or words (2 ^ m + i) 0))
      → Gathered m most lower low
      → Gathered (suc m) most words (low ++ high)
  unfolding place run_by count
  gathered_more long sums highs lows set few = go (set m) few
    where
      -- the sums of the halves added
      both : run_by bit_xor set m (λ i. get_or lower i 0)
          ≡ bit_xor (run_by bit_xor set m (λ i. get_or words i 0)) (run_by bit_xor set m (λ i. get_or words (2 ^ m + i) 0))
      both =
          run_by_ext bit_xor set m (λ i. get_or lower i 0) (λ i. bit_xor (get_or words i 0) (get_or words (2 ^ m + i) 0)) sums
          ∙ run_sum set m (λ i. get_or words i 0) (λ i. get_or words (2 ^ m + i) 0)

      go : (t : Bool) → cond t 1 0 + count set m ≤ most → get_or (low ++ high) (cond t (2 ^ m + place set m) (place set m)) 0
          ≡ cond t (run_by bit_xor set m (λ i. get_or words (2 ^ m + i) 0))
          (bit_xor (run_by bit_xor set m (λ i. get_or words i 0)) (run_by bit_xor set m (λ i. get_or words (2 ^ m + i) 0)))
      go true h =
          ap (λ n. get_or (low ++ high) (n + place set m) 0) (sym long) ∙ get_or-append-add low high (place set m) 0 ∙ highs set (omega arith)
      go false h = get_or_append_left low high 0 (place set m) (omega (arith, place_lt set m)) ∙ lows set (omega arith) ∙ both
