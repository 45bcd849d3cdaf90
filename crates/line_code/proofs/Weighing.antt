-- The word at the place of a set is the number of the set's sum R(S). Assumes nothing.
use Rattle.std.proofs.Common.{◌≡◌, ℕ, ◌^◌, ◌<◌, ◌≤◌, List, ◌++◌, length, get_or, sym, ap, ◌∙◌, subst, arith, pow_pos}
use native.Mathlib.Decide.{dec_lt}
use lib.Bits.{bit_xor}
use Rattle.std.proofs.lemmas.List.{get_or_past, get_or_append_left}
use Rattle.field.specs.Structure.{Structure, size}
use Rattle.extension.specs.Extend.{extend}
use Rattle.codeword.specs.Sums.{count}
use Rattle.codeword.specs.Codeword.{element}
use Rattle.codeword.proofs.Counts.{count_never}
use Rattle.halves.specs.Runs.{run}
use Rattle.halves.specs.Gathered.{run_by, place, Gathered}
use Rattle.halves.specs.Moments.{items_of}
use Rattle.halves.proofs.Halving.{run_is}
use Rattle.halves.proofs.Gathering.{run_image, place_lt, place_none, place_one, place_two, count_one, count_two}
use Rattle.line_code.specs.declared.bits.BitSet.{BitSet}
use Rattle.line_code.specs.declared.bits.BitSet.TheVariants.{Empty, One, Two}
use Rattle.line_code.specs.Sums.{Small}
use Rattle.line_code.specs.Sets.{holds, Within}
use Rattle.line_code.specs.Padded.{Below}

pub within_more : (set : BitSet) (m n : ℕ) → Within m set → m ≤ n → Within n set
within_more Empty m n w h = tt
within_more (One j) m n w h = omega arith
within_more (Two j k) m n w h = (w.0, omega arith)

-- the place does not depend on how long the run is
pub same_place : (set : BitSet) (m n : ℕ) → Within m set → Within n set → place (holds set) m ≡ place (holds set) n
same_place Empty m n v w = place_none m ∙ sym (place_none n)
same_place (One j) m n v w = place_one j m v ∙ sym (place_one j n w)
same_place (Two j k) m n v w = place_two j k m v.0 v.1 ∙ sym (place_two j k n w.0 w.1)

few_bits : (set : BitSet) (n : ℕ) → count (holds set) n ≤ 2
few_bits Empty n = omega (arith, count_never n)
few_bits (One j) n = omega (arith, count_one j n)
few_bits (Two j k) n = count_two j k n

module _ {K : Type 0} (s : Structure K) where
  -- the words of a line are small, those past its end too
  pub small_below : (items : List ℕ) → Small s items → Below (extend s).bits items
  small_below items small i = elim (dec_lt i (length items)) [
    | yes h ↦ small i h
    | no h ↦ subst (λ w. w < size (extend s)) (sym (get_or_past items i 0 (omega arith))) (pow_pos (extend s).bits)
  ]

  sum_at : (items sums : List ℕ) (n : ℕ) → Below (extend s).bits items → Gathered n 2 items sums → (set : BitSet)
      → element s (get_or sums (place (holds set) n) 0) ≡ run (extend s) (holds set) n (items_of s items)
  sum_at items sums n small gathered set =
      ap (element s)
      (gathered (holds set) (few_bits set n)
      ∙ sym (run_image (extend s).plus bit_xor (extend s).value (extend s).value_plus (holds set) n (items_of s items) (λ i. get_or items i 0) (λ i h. (extend s).value_of (get_or items i 0) (small i))))
      ∙ (extend s).of_value (run_by (extend s).plus (holds set) n (items_of s items))
      ∙ sym (run_is (extend s) (holds set) n (items_of s items))

  -- the same of the whole run, at the place that does not depend on n
  pub sum_in_run : (items sums rest : List ℕ) (n : ℕ) → n ≤ 8 → length sums ≡ 2 ^ n → Below (extend s).bits items → Gathered n 2 items sums
      → (set : BitSet) → Within n set
      → element s (get_or (sums ++ rest) (place (holds set) 8) 0) ≡ run (extend s) (holds set) n (items_of s items)
  sum_in_run items sums rest n short long small gathered set w =
      ap (λ p. element s (get_or (sums ++ rest) p 0)) (same_place set 8 n (within_more set n 8 w short) w)
      ∙ ap (element s) (get_or_append_left sums rest 0 (place (holds set) n) (omega (arith, place_lt (holds set) n)))
      ∙ sum_at items sums n small gathered set
