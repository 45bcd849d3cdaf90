-- The answers of restoring a line of a rack, from what the look at its bays found. Assumes nothing.
use Rattle.std.proofs.Common.{◌≡◌, ℕ, ◌+◌, ◌-◌, ◌<◌, ◌≤◌, Bool, true, false, cond, not, eqb, List, ◌++◌, length, get_or, take, drop, Some, None, Ok, Option, Result, OnOk, OnErr, is_some, unwrap_or, sym, refl, ap, ◌∙◌, subst, mod-lt, arith, length-append, length-drop, length-take-le, get_or-take}
use Rattle.std.proofs.lemmas.List.{take_at}
use Rattle.std.proofs.lemmas.Bool.Decides.{nat_tests}
use Rattle.fault.specs.Refusing.{refusal_of}
use Rattle.fault.specs.declared.fault.BookFault.{BookFault}
use Rattle.fault.specs.declared.fault.BookFault.TheVariants.{TooManyAbsent}
use Rattle.field.specs.Structure.{Structure, size}
use Rattle.extension.specs.Extend.{extend}
use Rattle.codeword.specs.Sums.{count}
use Rattle.codeword.specs.Codeword.{words as count_words, codeword}
use Rattle.codeword.proofs.Counts.{count_ext}
use Rattle.restore.specs.Restored.{refusal, Restored}
use Rattle.rack.specs.Meaning.{Meaning}
use Rattle.worksheet.specs.Present.{present, absent, absences, highest}
use Rattle.worksheet.specs.Lines.{word_at, why_unrestored, RestoredLine, Holds, OnSheet}
use Rattle.worksheet.specs.Looking.{Surveyed}
use Rattle.worksheet.proofs.Highest.{count_others, count_highest}
use Rattle.worksheet.proofs.Kept.{Laid, restored_line}

module _ {K : Type 0} (s : Structure K) (m : Meaning) (behind : ℕ → Bool) (sheet : List ℕ) (line bays : ℕ) (wide : bays ≡ m.bays) (some : 5 ≤ bays) (fits : bays ≤ size s + 4)
    (long : bays ≤ length sheet) (inside : line < m.lines) (asked : Meaning) (same : asked ≡ m) (seen : List (Option ℕ))
    (surveyed : Surveyed (bays - 4) (present asked.switch behind) (word_at s asked line) seen)
    (room : m.bays ≤ 260) (gone : ℕ) (counted : gone ≡ count (λ bay. not (is_some (get_or (take bays seen) bay None))) (length (take bays seen))) where
  here : ℕ → Bool
  here = present m.switch behind

  kept : ℕ → Bool
  kept = highest (bays - 4) here

  -- the rack meant the same when it was asked
  found : Surveyed (bays - 4) here (word_at s m line) seen
  unfolding here
  found = subst (λ (x : Meaning). Surveyed (bays - 4) (present x.switch behind) (word_at s x line) seen) same surveyed

  items : bays - 4 + 4 ≡ bays
  items = omega arith

  -- a bay has a word where it is kept
  has_word : (b : Bool) (w : ℕ) → is_some (cond b (Some w) None) ≡ b
  has_word true w = refl
  has_word false w = refl

  word_kept : (bay : ℕ) → bay < bays → is_some (get_or seen bay None) ≡ kept bay
  unfolding kept
  word_kept bay h = ap is_some (found.kept bay (omega arith)) ∙ has_word (highest (bays - 4) here bay) (word_at s m line bay)

  -- how many bays are kept, and how many are absent
  all_gone : gone ≡ count (λ bay. not (is_some (get_or seen bay None))) bays
  all_gone =
      let test = λ (bay : ℕ). not (is_some (get_or (take bays seen) bay None)) in
      counted ∙ ap (count test) (length-take-le bays seen (omega (arith, found.long)))
      ∙ count_ext test (λ bay. not (is_some (get_or seen bay None))) bays (λ bay h. ap (λ o. not (is_some o)) (get_or-take bays seen bay None h))

  all_kept : gone + count kept bays ≡ bays
  all_kept = omega (arith, all_gone, count_others (λ bay. not (is_some (get_or seen bay None))) kept bays (λ bay h. ap not (word_kept bay h)))

  most_kept : count kept bays ≡ count here bays - (count here bays - (bays - 4))
  unfolding kept
  most_kept = count_highest (bays - 4) here bays (omega arith) ∙ ap (λ k. count here bays - (count here k - (bays - 4))) items

  all_present : absences m.switch behind m.bays + count here bays ≡ bays
  unfolding here
  all_present =
      let e : absences m.switch behind bays + count (present m.switch behind) bays ≡ bays = count_others (absent m.switch behind) (present m.switch behind) bays (λ bay h. refl) in
      subst (λ k. absences m.switch behind k + count (present m.switch behind) bays ≡ bays) wide e

  -- more than four bays are absent
  pub refused_absent : 4 < gone → Some (TooManyAbsent gone) ≡ why_unrestored s m behind (length sheet) line
  refused_absent more =
      let many : gone ≡ absences m.switch behind m.bays = omega (arith, all_kept, most_kept, all_present) in
      grind (arith, nat_tests)

  few_absent : gone ≤ 4 → absences m.switch behind m.bays ≤ 4
  few_absent few = omega (arith, all_kept, most_kept, all_present)

  not_refused : gone ≤ 4 → why_unrestored s m behind (length sheet) line ≡ None
  not_refused few = let less = few_absent few in grind (arith, nat_tests)

  small : (bay : ℕ) → word_at s m line bay < count_words s
  small bay = mod-lt (m.word bay line) {m = count_words s} (omega (arith, (extend s).value_lt (extend s).zero))

  -- the words were laid out on the sheet as `restore` takes them, and restored there
  module _ (words marks : List ℕ) (long_words : length words ≡ length sheet) (long_marks : bays ≤ length marks)
      (words_at : (bay : ℕ) → bay < bays → get_or words bay 0 ≡ unwrap_or (get_or seen bay None) 0)
      (marks_at : (bay : ℕ) → bay < bays → not (eqb (get_or marks bay 0) 0) ≡ not (is_some (get_or seen bay None))) (few : gone ≤ 4) where
    laid : Laid (bays - 4) here (word_at s m line) words marks
    unfolding kept
    laid = record {
      long_words = omega (arith, long_words);
      long_marks = omega arith;
      chosen = λ bay h. marks_at bay (omega arith) ∙ ap not (word_kept bay (omega arith));
      read = λ bay h on. words_at bay (omega arith) ∙ ap (λ o. unwrap_or o 0) (found.kept bay h) ∙ ap (λ b. unwrap_or (cond b (Some (word_at s m line bay)) None) 0) on;
    }

    enough : bays - 4 ≤ count (highest (bays - 4) here) (bays - 4 + 4)
    unfolding kept
    enough = subst (λ k. bays - 4 ≤ count kept k) (sym items) (omega (arith, all_kept, few))

    restored : (r : Result (Unit {0}) BookFault) (after : List ℕ) → Restored s (refusal s (take bays words) (take bays marks)) (take bays words) (take bays marks) r after
        → (r ≡ Ok tt) × ((items : List ℕ) × RestoredLine s (bays - 4) here (word_at s m line) items × (after ≡ codeword s items))
    restored r after so =
        restored_line s (bays - 4) here (word_at s m line) words marks laid (omega arith) (omega arith) (omega arith) enough small r after
        (subst (λ k. Restored s (refusal s (take k words) (take k marks)) (take k words) (take k marks) r after) (sym items) so)

    -- the answer, and what then stands on the sheet
    pub accepted : (r : Result (Unit {0}) BookFault) (after : List ℕ) → Restored s (refusal s (take bays words) (take bays marks)) (take bays words) (take bays marks) r after
        → (refusal_of r ≡ why_unrestored s m behind (length sheet) line) × OnOk r (OnSheet s m behind line sheet (after ++ drop bays words))
        × OnErr r (after ++ drop bays words ≡ sheet)
    unfolding here
    accepted r after so =
        let (ok, (items, line_is, code)) = restored r after so in
        let wide-after : length after ≡ bays = ap length code ∙ omega (arith, line_is.line.long) in
        let holds : Holds s (bays - 4) (present m.switch behind) (word_at s m line) sheet (after ++ drop bays words) = record {
          items = items;
          restored = line_is;
          long = length-append after (drop bays words) ∙ omega (arith, wide-after, length-drop bays words, long_words);
          front = take_at after (drop bays words) (bays - 4 + 4) (omega (arith, wide-after)) ∙ code;
        } in (
          ap refusal_of ok ∙ sym (not_refused few),
          subst (λ x. OnOk x (OnSheet s m behind line sheet (after ++ drop bays words))) (sym ok)
              (subst (λ k. Holds s (k - 4) (present m.switch behind) (word_at s m line) sheet (after ++ drop bays words)) wide holds),
          subst (λ x. OnErr x (after ++ drop bays words ≡ sheet)) (sym ok) tt,
        )
