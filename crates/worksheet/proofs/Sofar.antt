-- What a look from the top bay down has found so far. Assumes nothing.
use Rattle.std.proofs.Common.{◌≡◌, ℕ, suc, ◌+◌, ◌-◌, ◌<◌, ◌≤◌, Bool, true, false, cond, List, length, get_or, set, replicate, Some, None, Option, sym, ap, ◌∙◌, inl, inr, arith, length-set, get_or-set_other, get_or-set_same}
use lib.ListN.{length-replicate, get_or-replicate}
use Rattle.std.proofs.lemmas.Bool.Decides.{nat_tests}
use Rattle.std.proofs.lemmas.Bool.{cases_eq}
use Rattle.codeword.specs.Sums.{count}
use Rattle.codeword.proofs.Counts.{count_none, count_suc}
use Rattle.rack.specs.Meaning.{most_bays}
use Rattle.worksheet.specs.Present.{above, highest}
use Rattle.worksheet.specs.Looking.{Surveyed}
use Rattle.worksheet.proofs.Highest.{bit}

-- How many of the bays from `top` on pass the test.
abbrev pub seen : (ℕ → Bool) → ℕ → ℕ → ℕ
seen test bays top = count (λ j. test (bays - 1 - j)) (bays - top)

-- The word of a bay, if it is to be kept.
abbrev pub word_if : Bool → ℕ → Option ℕ
word_if kept word = cond kept (Some word) None

-- The bays from `top` on have been looked at; so many words are wanted still.
pub record Sofar (n : ℕ) (here : ℕ → Bool) (word : ℕ → ℕ) (top : ℕ) (found : List (Option ℕ)) (wanted : ℕ) : Type 0 where
  pub long : length found ≡ most_bays
  pub left : wanted ≡ n - seen here (n + 4) top
  pub waiting : (bay : ℕ) → bay < top → get_or found bay None ≡ None
  pub chosen : (bay : ℕ) → top ≤ bay → bay < n + 4 → get_or found bay None ≡ word_if (highest n here bay) (word bay)

module _ (n : ℕ) (here : ℕ → Bool) (word : ℕ → ℕ) where
  pub sofar_none : n + 4 ≤ 260 → Sofar n here word (n + 4) (replicate 260 None) n
  sofar_none few = record {
    long = length-replicate {A = Option ℕ} 260 None;
    left =
        let all : n + 4 - (n + 4) ≡ 0 = omega arith in
        omega (arith, ap (count (λ j. here (n + 4 - 1 - j))) all, count_none (λ j. here (n + 4 - 1 - j)));
    waiting = λ bay h. get_or-replicate {A = Option ℕ} 260 bay None None (omega arith);
    chosen = λ bay h l. absurd (omega arith);
  }

  module _ (top : ℕ) (found : List (Option ℕ)) (wanted : ℕ) (so : Sofar n here word top found wanted) (some : 0 < top) (most : top ≤ n + 4) where
    -- one bay more is seen
    seen_next : seen here (n + 4) (top - 1) ≡ bit (here (top - 1)) + seen here (n + 4) top
    seen_next =
        let test = λ (j : ℕ). here (n + 4 - 1 - j) in
        let more : n + 4 - (top - 1) ≡ suc (n + 4 - top) = omega arith in
        let at : n + 4 - 1 - (n + 4 - top) ≡ top - 1 = omega arith in
        ap (count test) more ∙ count_suc test (n + 4 - top) ∙ ap (λ bay. bit (here bay) + count test (n + 4 - top)) at

    -- the next bay is kept where it is present and a word is wanted
    above_seen : above here (n + 4) (top - 1) ≡ seen here (n + 4) top
    above_seen = let e : n + 4 - 1 - (top - 1) ≡ n + 4 - top = omega arith in ap (count (λ j. here (n + 4 - 1 - j))) e

    skip : highest n here (top - 1) ≡ false → wanted ≡ n - seen here (n + 4) (top - 1) → Sofar n here word (top - 1) found wanted
    skip off left = record {
      long = so.long;
      left = left;
      waiting = λ bay h. so.waiting bay (omega arith);
      chosen = λ bay h l. elim (cases_eq bay (top - 1)) [
        | inl e ↦ so.waiting bay (omega arith) ∙ sym (ap (λ b. word_if (highest n here b) (word b)) e ∙ ap (λ b. word_if b (word (top - 1))) off)
        | inr d ↦ so.chosen bay (omega (arith, d)) l
      ];
    }

    -- enough words are found
    pub look_full : wanted ≤ 0 → Sofar n here word (top - 1) found wanted
    look_full full =
        let many : n ≤ above here (n + 4) (top - 1) = omega (arith, so.left, above_seen) in
        skip (grind (arith, nat_tests)) (omega (arith, so.left, seen_next))

    -- the bay is absent
    pub look_absent : None ≡ word_if (here (top - 1)) (word (top - 1)) → Sofar n here word (top - 1) found wanted
    look_absent gave =
        let off : here (top - 1) ≡ false = grind arith in
        skip (grind (arith, nat_tests)) (omega (arith, so.left, seen_next, ap bit off))

    -- the bay is present, and its word is wanted
    pub look_present : n + 4 ≤ 260 → 0 < wanted → (w : ℕ) → Some w ≡ word_if (here (top - 1)) (word (top - 1))
        → Sofar n here word (top - 1) (set found (top - 1) (Some w)) (wanted - 1)
    look_present few less w gave =
        let on : here (top - 1) ≡ true = grind arith in
        let fits : above here (n + 4) (top - 1) < n = omega (arith, so.left, above_seen) in
        let high : highest n here (top - 1) ≡ true = grind (arith, nat_tests) in
        record {
          long = length-set found (top - 1) (Some w) ∙ so.long;
          left = omega (arith, so.left, seen_next, ap bit on);
          waiting = λ bay h. get_or-set_other found (top - 1) bay (Some w) None (omega arith) ∙ so.waiting bay (omega arith);
          chosen = λ bay h l. elim (cases_eq bay (top - 1)) [
            | inl e ↦
                ap (λ b. get_or (set found (top - 1) (Some w)) b None) e
                ∙ get_or-set_same found (top - 1) (Some w) None (omega (arith, so.long))
                ∙ gave ∙ ap (λ b. word_if b (word (top - 1))) (on ∙ sym high)
                ∙ sym (ap (λ b. word_if (highest n here b) (word b)) e)
            | inr d ↦ get_or-set_other found (top - 1) bay (Some w) None d ∙ so.chosen bay (omega (arith, d)) l
          ];
        }

  pub sofar_all : (top : ℕ) (found : List (Option ℕ)) (wanted : ℕ) → Sofar n here word top found wanted → top ≤ 0 → Surveyed n here word found
  sofar_all top found wanted so none = record { long = so.long; kept = λ bay h. so.chosen bay (omega arith) h }
