-- Any n of the n + 4 words of a line fix it. Assumes nothing.
use Rattle.std.proofs.Common.{◌≡◌, ℕ, ◌+◌, ◌<◌, ◌≤◌, Bool, false, cond, List, map, length, get_or, drop, sym, ap, ◌∙◌, subst, ap₂, arith, length-drop, get_or-drop, ext_get_or}
use borrow.Author.Tests.{clash}
use Rattle.std.specs.List.{range_with_len}
use Rattle.std.proofs.lemmas.List.FromFn.{length-map-range_with_len, get_or-map-range_with_len}
use Rattle.ring2.proofs.Laws.{equal}
use Rattle.field.specs.Structure.{Structure, size}
use Rattle.extension.specs.declared.ext.Ext.{Ext}
use Rattle.extension.specs.Extend.{extend}
use Rattle.codeword.proofs.Sums.{total_ext}
use Rattle.codeword.specs.Codeword.{words, element, codeword, Line, Agrees, OneAtMost, OneExists, Distance}
use Rattle.distance.specs.Column.{column, weighed}
use Rattle.distance.proofs.Cramer.{solution, solution_is}
use Rattle.distance.proofs.Chosen.{Listed, listed, spread, spread_off}
use Rattle.distance.proofs.Syndromes.{codeword_item, codeword_syndromes, zero_syndromes, weighed_plus, weighed_filled}
use Rattle.distance.proofs.Independent.{listed_det, chosen_zero}

module _ {K : Type 0} (s : Structure K) where
  -- two lines that agree with n words: the difference of their codewords is zero
  pub one_at_most : OneAtMost s
  one_at_most n fits absent few bays a b A B fa fb =
      ext_get_or 0 a b (A.long ∙ sym B.long) (λ i h. word i (omega (arith, A.long)))
    where
      word : (i : ℕ) → i < n → get_or a i 0 ≡ get_or b i 0
      word i h =
          let E : Structure (Ext K) = extend s in
          let first : ℕ → Ext K = λ c. element s (get_or (codeword s a) c 0) in
          let second : ℕ → Ext K = λ c. element s (get_or (codeword s b) c 0) in
          let none : E.plus (first (i + 4)) (second (i + 4)) ≡ E.zero
          = chosen_zero s n fits absent few (λ c. E.plus (first c) (second c))
          (λ c k e. ap (λ w. E.plus (element s w) (second c)) (fa c k e ∙ sym (fb c k e)) ∙ E.ring.plus_self (second c))
          (λ r k. weighed_plus s first second n r ∙ ap₂ E.plus (codeword_syndromes s a n A.long r k) (codeword_syndromes s b n B.long r k) ∙ E.ring.plus_zero E.zero)
          (i + 4) (omega arith) in
          let same : element s (get_or a i 0) ≡ element s (get_or b i 0)
          = ap (element s) (sym (codeword_item s a i)) ∙ equal E.ring (first (i + 4)) (second (i + 4)) none ∙ ap (element s) (codeword_item s b i) in
          sym (E.value_of (get_or a i 0) (A.small i h)) ∙ ap E.value same ∙ E.value_of (get_or b i 0) (B.small i h)

  -- n words, and four bays to fill
  module _ (n : ℕ) (fits : n ≤ size s) (absent : ℕ → Bool) (l : Listed (extend s) absent (n + 4) 4) (bays : List ℕ) where
    -- the present words as elements, and zero in the absent bays
    present : ℕ → Ext K
    present b = cond (absent b) (extend s).zero (element s (get_or bays b 0))

    missing : ℕ → Ext K
    missing j = solution (extend s) (λ i. column s (l.nth i)) (listed_det s n fits l) (weighed s present n) j

    filled : ℕ → Ext K
    filled b = (extend s).plus (present b) (spread (extend s) l.nth missing 4 b)

    filled_rows : (r : ℕ) → r < 4 → weighed s filled n r ≡ (extend s).zero
    unfolding filled missing
    filled_rows r h =
        let E : Structure (Ext K) = extend s in
        weighed_filled s present l.nth missing n 4 r l.below
        ∙ ap (E.plus (weighed s present n r))
        (solution_is E (λ i. column s (l.nth i)) (listed_det s n fits l) (weighed s present n) r h)
        ∙ E.ring.plus_self (weighed s present n r)

    filled_present : (b : ℕ) → absent b ≡ false → filled b ≡ element s (get_or bays b 0)
    unfolding filled present
    filled_present b e =
        let E : Structure (Ext K) = extend s in
        ap₂ E.plus (ap (λ t. cond t E.zero (element s (get_or bays b 0))) e)
        (spread_off E l.nth missing 4 b (λ j h m. clash (sym e ∙ ap absent m ∙ l.chosen j h)))
        ∙ E.ring.plus_zero (element s (get_or bays b 0))

    words_filled : List ℕ
    words_filled = map (λ b. (extend s).value (filled b)) (range_with_len 0 (n + 4))

    filled_length : length words_filled ≡ n + 4
    unfolding words_filled
    filled_length = length-map-range_with_len (λ b. (extend s).value (filled b)) 0 (n + 4)

    filled_word : (b : ℕ) → b < n + 4 → get_or words_filled b 0 ≡ (extend s).value (filled b)
    unfolding words_filled
    filled_word b h = get_or-map-range_with_len (λ c. (extend s).value (filled c)) 0 (n + 4) b b 0 h (omega arith)

    filled_small : (b : ℕ) → b < n + 4 → get_or words_filled b 0 < words s
    filled_small b h = rw (filled_word b h) ((extend s).value_lt (filled b))

    filled_codeword : words_filled ≡ codeword s (drop 4 words_filled)
    filled_codeword =
        zero_syndromes s words_filled n filled_length filled_small
        (λ r h.
        total_ext (extend s) (λ b. (extend s).times (column s b r) (element s (get_or words_filled b 0))) (λ b. (extend s).times (column s b r) (filled b)) (n + 4)
        (λ b k. ap ((extend s).times (column s b r)) (ap (element s) (filled_word b k) ∙ (extend s).of_value (filled b)))
        ∙ filled_rows r h)

    line_exists : ((b : ℕ) → b < n + 4 → get_or bays b 0 < words s) → (a : List ℕ) × Line s n a × Agrees s n absent bays a
    line_exists small = (
      drop 4 words_filled,
      record {
        long = length-drop 4 words_filled ∙ omega (arith, filled_length);
        small = λ i h. rw (get_or-drop 4 words_filled i 0) (filled_small (4 + i) (omega arith));
      },
      λ b h e.
          ap (λ w. get_or w b 0) (sym filled_codeword) ∙ filled_word b h ∙ ap (extend s).value (filled_present b e)
          ∙ (extend s).value_of (get_or bays b 0) (small b h),
    )

  pub one_exists : OneExists s
  one_exists n fits absent four bays small =
      line_exists n fits absent (subst (Listed (extend s) absent (n + 4)) four (listed (extend s) absent (n + 4))) bays small

  pub distance : Distance s
  distance = record { at_most = one_at_most; exists = one_exists }
