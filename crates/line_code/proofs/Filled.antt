-- Lists that are filled place by place, and the padded line. Assumes nothing.
use Rattle.std.proofs.Common.{◌≡◌, ℕ, ◌-◌, ◌^◌, ◌<◌, List, ◌++◌, length, get_or, take, drop, set, replicate, sym, refl, ap, ◌∙◌, subst, ap₂, arith, get_or-take}
use native.Mathlib.Decide.{dec_lt}
use lib.Bits.{bit_xor}
use lib.ListN.{get_or-replicate, length-replicate}
use Rattle.std.proofs.lemmas.List.{drop-replicate, get_or_append_left, get_or-append_right, get_or_past}
use Rattle.halves.specs.Gathered.{Gathered}
use Rattle.halves.proofs.Halving.{run_by_ext}
use Rattle.line_code.specs.Padded.{Below, padded}

pub padded_is : (words copied : List ℕ) → copied ≡ words → copied ++ drop (length words) (replicate 256 0) ≡ padded words
padded_is words copied e = ap₂ ◌++◌ e (drop-replicate (length words) 256 0)

zero_word : (n k : ℕ) → get_or {A = ℕ} (replicate n 0) k 0 ≡ 0
zero_word n k = elim (dec_lt k n) [
  | yes h ↦ get_or-replicate n k 0 0 h
  | no h ↦ get_or_past (replicate n 0) k 0 (omega (arith, length-replicate {A = ℕ} n 0))
]

padded_word : (words : List ℕ) (i : ℕ) → get_or (padded words) i 0 ≡ get_or words i 0
padded_word words i = elim (dec_lt i (length words)) [
  | yes h ↦ get_or_append_left words (replicate (256 - length words) 0) 0 i h
  | no h ↦
      get_or-append_right words (replicate (256 - length words) 0) (length words) i 0 refl (omega arith)
      ∙ zero_word (256 - length words) (i - length words) ∙ sym (get_or_past words i 0 (omega arith))
]

-- a padded line has words as small as the line's, and its first 2^n words have the line's sums
module _ (words run-words : List ℕ) (e : run-words ≡ padded words) where
  pub gathered_padded : (n most long : ℕ) (sums : List ℕ) → long ≡ 2 ^ n → Gathered n most (take long run-words) sums → Gathered n most words sums
  gathered_padded n most long sums is gathered set few =
      gathered set few
      ∙ run_by_ext bit_xor set n (λ i. get_or (take long run-words) i 0) (λ i. get_or words i 0)
      (λ i h. get_or-take long run-words i 0 (omega arith) ∙ ap (λ l. get_or l i 0) e ∙ padded_word words i)

  pub below_padded : (b : ℕ) → Below b words → Below b run-words
  below_padded b small i = subst (λ w. w < 2 ^ b) (sym (ap (λ l. get_or l i 0) e ∙ padded_word words i)) (small i)
