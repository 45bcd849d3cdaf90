-- One step of the gathering: lists of small words, and the halves of a run added. Assumes nothing.
use Rattle.std.proofs.Common.{◌≡◌, ℕ, zero, suc, ◌+◌, ◌-◌, ◌^◌, ◌<◌, ◌≤◌, List, [], ◌∷◌, ◌++◌, get_or, take, drop, sym, ap, ◌∙◌, subst, arith, get_or-drop, pow_pos}
use native.Mathlib.Decide.{dec_lt}
use lib.Bits.{bit_xor, xor_lt}
use Rattle.halves.proofs.Halving.{twice}
use Rattle.line_code.specs.Padded.{Below}

-- a run of which one half has 2^(n - 1) words
pub doubled : (n : ℕ) → (n ≡ 0 → ⊥) → 2 ^ n ≡ 2 ^ (n - 1) + 2 ^ (n - 1)
doubled n h = let e : n ≡ suc (n - 1) = omega arith in ap (λ k. 2 ^ k) e ∙ twice (n - 1)

-- parts of lists of small words
pub below_append : (b : ℕ) (xs ys : List ℕ) → Below b xs → Below b ys → Below b (xs ++ ys)
below_append b [] ys h k i = k i
below_append b (x ∷ xs) ys h k zero = h 0
below_append b (x ∷ xs) ys h k (suc i) = below_append b xs ys (λ j. h (suc j)) k i

pub below_take : (b n : ℕ) (xs : List ℕ) → Below b xs → Below b (take n xs)
below_take b zero xs h i = pow_pos b
below_take b (suc n) [] h i = pow_pos b
below_take b (suc n) (x ∷ xs) h zero = h 0
below_take b (suc n) (x ∷ xs) h (suc i) = below_take b n xs (λ j. h (suc j)) i

pub below_drop : (b n : ℕ) (xs : List ℕ) → Below b xs → Below b (drop n xs)
below_drop b n xs h i = subst (λ w. w < 2 ^ b) (sym (get_or-drop n xs i 0)) (h (n + i))

-- the upper half added to the lower
pub below_added : (b half : ℕ) (words added : List ℕ)
    → ((i : ℕ) → i < half → get_or added i 0 ≡ bit_xor (get_or words i 0) (get_or words (half + i) 0))
    → ((i : ℕ) → half ≤ i → get_or added i 0 ≡ get_or words i 0) → Below b words → Below b added
below_added b half words added lower upper h i = elim (dec_lt i half) [
  | yes l ↦ subst (λ w. w < 2 ^ b) (sym (lower i l)) (xor_lt b (get_or words i 0) (get_or words (half + i) 0) (h i) (h (half + i)))
  | no l ↦ subst (λ w. w < 2 ^ b) (sym (upper i (omega arith))) (h i)
]
