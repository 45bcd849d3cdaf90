-- The line that fits the kept words: it exists, so restoring them is not refused. Assumes nothing.
use Rattle.std.proofs.Common.{◌≡◌, ℕ, suc, ◌+◌, ◌-◌, ◌<◌, ◌≤◌, Bool, true, false, not, eqb, List, [], ◌∷◌, map, length, get_or, take, None, Ok, Err, Result, sym, refl, ap, ◌∙◌, subst, arith, length-take-le, get_or-take}
use borrow.Author.Tests.{not-false}
use Rattle.std.specs.List.{range_with_len}
use Rattle.std.proofs.lemmas.List.FromFn.{get_or-map-range_with_len}
use Rattle.std.proofs.lemmas.Bool.Decides.{nat_tests}
use Rattle.fault.specs.declared.fault.BookFault.{BookFault}
use Rattle.field.specs.Structure.{Structure, size}
use Rattle.codeword.specs.Sums.{count}
use Rattle.codeword.specs.Codeword.{words as count_words, codeword, Line, Agrees}
use Rattle.distance.proofs.Theorem.{one_exists}
use Rattle.restore.specs.Restored.{absent, first_large, refusal, Admitted, Whole, NoLine, Restored}
use Rattle.worksheet.specs.Present.{highest}
use Rattle.worksheet.specs.Lines.{RestoredLine}
use Rattle.worksheet.proofs.Highest.{count_others, count_highest}

none_large : (bound : ℕ) (ws ms : List ℕ) → ((i : ℕ) → i < length ws → absent ms i ≡ false → get_or ws i 0 < bound) → first_large bound ws ms ≡ None
none_large bound [] ms small = refl
none_large bound (w ∷ ws) [] small = refl
none_large bound (w ∷ ws) (m ∷ ms) small =
    let rest : first_large bound ws ms ≡ None = none_large bound ws ms (λ i h here. small (suc i) (omega arith) here) in
    let first : not (eqb m 0) ≡ false → w < bound = small 0 (omega arith) in
    grind (arith, nat_tests)

-- lists that are not refused
admitted_none : {K : Type 0} (s : Structure K) (bays marks : List ℕ) → Admitted s bays marks → refusal s bays marks ≡ None
admitted_none s bays marks ok =
    let small : first_large (count_words s) bays marks ≡ None = none_large (count_words s) bays marks ok.small in
    grind (arith, nat_tests)

-- Words that are made whole, since a line fits them.
made_whole : {K : Type 0} (s : Structure K) (bays marks : List ℕ) (r : Result (Unit {0}) BookFault) (after : List ℕ)
    → Restored s None bays marks r after → (NoLine s bays marks → ⊥) → (r ≡ Ok tt) × Whole s bays marks after
made_whole s bays marks (Ok u) after restored some = (refl, restored)
made_whole s bays marks (Err f) after restored some = absurd (some restored.2)

-- The words of the n present bays with the highest numbers, as `restore` takes them; the other bays are marked.
pub record Laid (n : ℕ) (here : ℕ → Bool) (word : ℕ → ℕ) (words marks : List ℕ) : Type 0 where
  pub long_words : n + 4 ≤ length words
  pub long_marks : n + 4 ≤ length marks
  pub chosen : (bay : ℕ) → bay < n + 4 → absent marks bay ≡ not (highest n here bay)
  pub read : (bay : ℕ) → bay < n + 4 → highest n here bay ≡ true → get_or words bay 0 ≡ word bay

module _ {K : Type 0} (s : Structure K) (n : ℕ) (here : ℕ → Bool) (word : ℕ → ℕ) (words marks : List ℕ) (found : Laid n here word words marks)
    (some : 1 ≤ n) (fits : n ≤ size s) (room : n + 4 ≤ 260) (enough : n ≤ count (highest n here) (n + 4)) (small : (bay : ℕ) → word bay < count_words s) where
  bays : List ℕ
  bays = take (n + 4) words

  gone : List ℕ
  gone = take (n + 4) marks

  long_bays : length bays ≡ n + 4
  unfolding bays
  long_bays = length-take-le (n + 4) words (omega (arith, found.long_words))

  long_gone : length gone ≡ n + 4
  unfolding gone
  long_gone = length-take-le (n + 4) marks (omega (arith, found.long_marks))

  chosen : (bay : ℕ) → bay < n + 4 → absent gone bay ≡ not (highest n here bay)
  unfolding gone
  chosen bay h = ap (λ mark. not (eqb mark 0)) (get_or-take (n + 4) marks bay 0 h) ∙ found.chosen bay h

  -- a bay that is not absent is one of the highest
  taken : (bay : ℕ) → bay < n + 4 → absent gone bay ≡ false → highest n here bay ≡ true
  taken bay h here-is = not-false (highest n here bay) (sym (chosen bay h) ∙ here-is)

  given : (bay : ℕ) → bay < n + 4 → highest n here bay ≡ true → get_or bays bay 0 ≡ word bay
  unfolding bays
  given bay h on = get_or-take (n + 4) words bay 0 h ∙ found.read bay h on

  four : count (absent gone) (n + 4) ≡ 4
  four = omega (arith, count_others (absent gone) (highest n here) (n + 4) chosen, count_highest n here (n + 4) (omega arith))

  not_refused : refusal s bays gone ≡ None
  not_refused = admitted_none s bays gone record {
    some = omega (arith, long_bays);
    fits = omega (arith, long_bays);
    marked = long_gone ∙ sym long_bays;
    small = λ bay h on.
        let l : bay < n + 4 = omega (arith, long_bays) in
        rw (given bay l (taken bay l on)) (small bay);
    few = omega (arith, four, ap (count (absent gone)) long_bays);
  }

  all : List ℕ
  all = map word (range_with_len 0 (n + 4))

  all_at : (bay : ℕ) → bay < n + 4 → get_or all bay 0 ≡ word bay
  unfolding all
  all_at bay h = get_or-map-range_with_len word 0 (n + 4) bay bay 0 h (omega arith)

  items_many : length bays - 4 ≡ n
  items_many = omega (arith, long_bays)

  -- some line fits the kept words
  some_line : NoLine s bays gone → ⊥
  some_line none =
      let (items, line, agrees) = one_exists s n fits (absent gone) four all (λ bay h. rw (all_at bay h) (small bay)) in
      subst (λ k. (items : List ℕ) → Line s k items → Agrees s k (absent gone) bays items → ⊥) items_many none items line
      (λ bay h on. agrees bay h on ∙ all_at bay h ∙ sym (given bay h (taken bay h on)))

  pub restored_line : (r : Result (Unit {0}) BookFault) (after : List ℕ) → Restored s (refusal s (take (n + 4) words) (take (n + 4) marks)) (take (n + 4) words) (take (n + 4) marks) r after
      → (r ≡ Ok tt) × ((items : List ℕ) × RestoredLine s n here word items × (after ≡ codeword s items))
  unfolding bays gone
  restored_line r after restored =
      let (ok, whole) = made_whole s bays gone r after (subst (λ o. Restored s o bays gone r after) not_refused restored) some_line in (
        ok,
        (
          whole.items,
          record {
            line = subst (λ k. Line s k whole.items) items_many whole.line;
            fits = λ bay h on.
                let p : absent gone bay ≡ false = chosen bay h ∙ ap not on in
                whole.present bay (omega (arith, items_many)) p ∙ given bay h on;
          },
          whole.restored,
        ),
      )
