-- An item of a line that is set on the worksheet, and the check words with it. Assumes nothing.
use Rattle.std.proofs.Common.{◌≡◌, ℕ, suc, ◌+◌, ◌-◌, ◌<◌, ◌≤◌, cond, List, [], ◌∷◌, ◌++◌, length, get_or, take, drop, set, is_ok, Ok, sym, refl, ap, ◌∙◌, subst, inl, inr, arith, length-set, get_or-set_other, get_or-set_same, lt-ltb, le-leb}
use lib.Seq.{take-set-lt}
use Rattle.std.proofs.lemmas.List.{drop-take, drop-set-add}
use Rattle.std.proofs.lemmas.Bool.{cases_eq}
use Rattle.field.specs.Structure.{Structure, size}
use Rattle.codeword.specs.Codeword.{words, check_word, codeword, Line}
use Rattle.line_code.specs.Answers.{words_answer, encode_answer, encode_after}
use Rattle.book.specs.Sending.{Revised}

-- The four places that the check words are made in.
abbrev blank : List ℕ
blank = 0 ∷ 0 ∷ 0 ∷ 0 ∷ []

-- The worksheet with the item's word.
abbrev written : List ℕ → ℕ → ℕ → List ℕ
written sheet item word = set sheet (item + 4) word

module _ {K : Type 0} (s : Structure K) where
  -- a line is small still where one of its items is set to a small word
  set_line : (n item word : ℕ) (items : List ℕ) → item < n → word < words s → Line s n items → Line s n (set items item word)
  set_line n item word items inside less line = record {
    long = length-set items item word ∙ line.long;
    small = λ i h. elim (cases_eq i item) [
      | inl e ↦ subst (λ k. get_or (set items item word) k 0 < words s) (sym e) (subst (λ w. w < words s) (sym (get_or-set_same items item word 0 (omega (arith, line.long)))) less)
      | inr d ↦ subst (λ w. w < words s) (sym (get_or-set_other items item i word 0 d)) (line.small i h)
    ];
  }

  -- small words refuse no line
  none_refused : (ws : List ℕ) → ((i : ℕ) → i < length ws → get_or ws i 0 < words s) → words_answer s ws ≡ Ok tt
  unfolding words_answer
  none_refused [] small = refl
  none_refused (w ∷ ws) small = rw (lt-ltb w (words s) (small 0 (omega arith))) (none_refused ws (λ i h. small (suc i) (omega arith)))

  encoded : (n : ℕ) (items : List ℕ) → 1 ≤ n → n ≤ size s → Line s n items → encode_answer s items 4 ≡ Ok tt
  encoded n items some few line =
      let long : 0 < length items = omega (arith, line.long) in
      let short : length items ≤ size s = omega (arith, line.long) in
      rw (lt-ltb 0 (length items) long, le-leb (length items) (size s) short) (none_refused items (λ i h. line.small i (omega (arith, line.long))))

  module _ (n item word : ℕ) (sheet : List ℕ) where
    items_on : item < n → (items : List ℕ) → take (n + 4) sheet ≡ codeword s items → take n (drop 4 (written sheet item word)) ≡ set items item word
    items_on inside items front =
        let before : take n (drop 4 sheet) ≡ items = sym (drop-take 4 n sheet) ∙ ap (λ k. drop 4 (take k sheet)) (omega arith) ∙ ap (drop 4) front in
        ap (λ k. take n (drop 4 (set sheet k word))) (omega arith)
        ∙ ap (take n) (drop-set-add 4 sheet item word)
        ∙ take-set-lt n (drop 4 sheet) item word inside
        ∙ ap (λ l. set l item word) before

    -- the check words of the line on the sheet, put before it
    pub revised : item < n → n ≤ size s → word < words s → (copied checks : List ℕ) → copied ≡ checks → checks ≡ encode_after s (take (n + 4 - 4) (drop 4 (written sheet item word))) blank
        → Revised s n item word sheet (copied ++ drop 4 (written sheet item word))
    revised inside few less copied checks copy made items line front =
        let ws : List ℕ = set items item word in
        let part : take n (drop 4 (written sheet item word)) ≡ ws = items_on inside items front in
        let same : take (n + 4 - 4) (drop 4 (written sheet item word)) ≡ ws = ap (λ k. take k (drop 4 (written sheet item word))) (omega arith) ∙ part in
        let four : List ℕ = check_word s ws 0 ∷ check_word s ws 1 ∷ check_word s ws 2 ∷ check_word s ws 3 ∷ [] in
        let taken : encode_after s ws blank ≡ four = ap (λ r. cond (is_ok r) four blank) (encoded n ws (omega arith) few (set_line n item word items inside less line)) in
        let wide : n + 4 ≡ suc (suc (suc (suc n))) = omega arith in
        ap (λ l. take (n + 4) (l ++ drop 4 (written sheet item word))) (copy ∙ made ∙ ap (λ l. encode_after s l blank) same ∙ taken)
        ∙ ap (λ k. take k (four ++ drop 4 (written sheet item word))) wide
        ∙ ap (λ l. four ++ l) part
