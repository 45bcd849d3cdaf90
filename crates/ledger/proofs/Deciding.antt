-- A get with good numbers is refused exactly when two lines fit every present bay and differ at the item. Assumes nothing.
use Rattle.std.proofs.Common.{◌≡◌, ℕ, ◌+◌, ◌<◌, ◌≤◌, Bool, true, false, cond, not, ◌&&◌, eqb, ltb, get_or, Some, None, Option, sym, refl, ap, ◌∙◌, inl, inr, mod-lt, arith, pow_pos}
use Rattle.std.proofs.lemmas.Bool.{both_ways, cases_Bool, cond_both, and_parts, and_cases, and_right, not-true, not-false, not_from_true, eq-eqb, ltb-true, ltb-false}
use Rattle.std.proofs.lemmas.Bool.Decides.{nat_tests}
use Rattle.fault.specs.Refusing.{when, or_else}
use Rattle.fault.specs.declared.fault.BookFault.{BookFault}
use Rattle.fault.specs.declared.fault.BookFault.TheVariants.{TooManyAbsent}
use Rattle.fault.specs.declared.fault.Fault.{Fault}
use Rattle.fault.specs.declared.fault.Fault.TheVariants.{Book}
use Rattle.field.specs.Structure.{Structure, size}
use Rattle.extension.specs.Extend.{extend}
use Rattle.codeword.specs.Sums.{count}
use Rattle.codeword.specs.Codeword.{words, codeword}
use Rattle.distance.proofs.Syndromes.{codeword_item}
use Rattle.distance.proofs.Theorem.{one_at_most, one_exists}
use Rattle.rack.specs.Meaning.{Meaning}
use Rattle.worksheet.specs.Present.{present, absent}
use Rattle.worksheet.specs.Lines.{word_at}
use Rattle.call.specs.declared.Call.TheVariants.{Get}
use Rattle.rules.specs.Known.{Known, put}
use Rattle.rules.specs.Rules.{gone, how_many_gone, why_cell, why_get}
use Rattle.ledger.specs.declared.Answer.TheVariants.{Word, Refused, NotAllowed}
use Rattle.ledger.specs.Ledger.{Ledger, known, front, ruled, closed, by_book, on_verdict, answer}
use Rattle.ledger.specs.Stands.{row, posted, Sound, Stands}
use Rattle.ledger.specs.Runs.{Undecided}
use Rattle.rules.proofs.Knowing.{put_same, put_other}
use Rattle.ledger.proofs.Counts.{count_fewer, others, count_but_one, some_of}
use Rattle.rules.proofs.Refusals.{good}
use Rattle.ledger.proofs.Lines.{get_or_row, posted_item, posted_line}
use Rattle.ledger.proofs.Kept.{same_present, present_word}

-- a get that no rule refuses is not refused
get_said : (drawer : Option ℕ) (why : Option BookFault) (x : ℕ) (f : Fault) → on_verdict (closed drawer (by_book why)) (Word x) Refused NotAllowed ≡ Refused f → why ≡ None → ⊥
get_said None None x f e z = cc
get_said None (Some g) x f e z = cc
get_said (Some bay) why x f e z = cc

-- more than four bays are absent, and the item's own is one of them
abbrev lost : Ledger → ℕ → Bool
lost l item = ltb 4 (how_many_gone (known l) (front l)) && gone (known l) (front l) (item + 4)

-- a count that is another one
abbrev another : ℕ → ℕ
another c = cond (eqb c 0) 1 0

another_differs : (c : ℕ) → c ≡ another c → ⊥
another_differs c e = grind (arith, nat_tests)

module _ {K : Type 0} (s : Structure K) (l : Ledger) (m : Meaning) (sound : Sound s l) (room item line : ℕ) (sized : why_cell (known l) (front l) room item line ≡ None) where
  in_items : item < l.items
  in_items = (good (known l) (front l) room item line sized).item_below

  in_lines : line < l.lines
  in_lines = (good (known l) (front l) room item line sized).line_below

  in_field : l.items ≤ size s
  in_field = omega (arith, sound.fits, sound.field)

  by_lost : why_get (known l) (front l) room item line ≡ when (lost l item) (TooManyAbsent (how_many_gone (known l) (front l)))
  by_lost = ap (λ o. or_else o (when (lost l item) (TooManyAbsent (how_many_gone (known l) (front l))))) sized

  some_absent : count (absent l.switch l.behind) l.bays ≡ count (absent l.switch l.behind) (l.items + 4)
  some_absent = ap (count (absent l.switch l.behind)) sound.bays

  -- what is to stand in the bays of the other line
  abbrev changed : ℕ → ℕ
  changed = put (word_at s m line) (item + 4) (another (l.count item line))

  changed_small : (bay : ℕ) → changed bay < words s
  changed_small bay =
      cond_both (eqb bay (item + 4)) (another (l.count item line)) (word_at s m line bay) (λ w. w < words s)
      (λ _. cond_both (eqb (l.count item line) 0) 1 0 (λ w. w < words s) (λ _. one_small) (λ _. pow_pos (extend s).bits))
      (λ _. mod-lt (m.word bay line) (pow_pos (extend s).bits))
    where
      one_small : 1 < words s
      one_small = omega (arith, (extend s).value_lt (extend s).one, (extend s).value_one)

  module _ (k : Known) (drawer : Option ℕ) (st : Stands s l k drawer m) where
    undecided : lost l item ≡ true → Undecided s l m item line
    undecided is_lost =
        let (many, own) = and_parts (ltb 4 (how_many_gone (known l) (front l))) (gone (known l) (front l) (item + 4)) is_lost in
        let five : 4 < count (absent l.switch l.behind) (l.items + 4) = omega (arith, ltb-true 4 (how_many_gone (known l) (front l)) many, some_absent) in
        let more : count (absent l.switch l.behind) (l.items + 4) ≤ count (put (absent l.switch l.behind) (item + 4) true) (l.items + 4)
        = count_fewer _ _ (l.items + 4) (λ b _ e. cond_both (eqb b (item + 4)) true (absent l.switch l.behind b) (λ x. x ≡ true) (λ _. refl) (λ _. e)) in
        let (few, four, from) = some_of (others (absent l.switch l.behind) (item + 4)) (l.items + 4) 4 (omega (arith, count_but_one (absent l.switch l.behind) (item + 4) (l.items + 4))) in
        let kept : (bay : ℕ) → bay < l.items + 4 → others (absent l.switch l.behind) (item + 4) bay ≡ false → few bay ≡ false
        = λ bay h e. elim (cases_Bool (few bay)) [
          | inl on ↦ absurd (both_ways _ e (from bay h on))
          | inr off ↦ off
        ] in
        let (other, other_line, agrees) = one_exists s l.items in_field few four (row changed (l.items + 4)) (λ bay h. rw (get_or_row changed (l.items + 4) bay h) (changed_small bay)) in
        let holds : (bay : ℕ) → bay < l.items + 4 → others (absent l.switch l.behind) (item + 4) bay ≡ false → get_or (codeword s other) bay 0 ≡ changed bay
        = λ bay h e. agrees bay h (kept bay h e) ∙ get_or_row changed (l.items + 4) bay h in
        let there : (bay : ℕ) → present l.switch l.behind bay ≡ true → bay ≡ item + 4 → ⊥
        = λ bay here e. both_ways (present l.switch l.behind (item + 4)) (not-true _ own) (ap (present l.switch l.behind) (sym e) ∙ here) in
        record {
          one = posted l line;
          other = other;
          one_line = posted_line s l sound line;
          other_line = other_line;
          one_fits = λ bay h here. sym (present_word s l k drawer m sound st line bay h in_lines (same_present s l k drawer m sound st bay h ∙ here));
          other_fits = λ bay h here.
              holds bay h (ap (λ x. not x && not (eqb bay (item + 4))) here)
              ∙ put_other (word_at s m line) (item + 4) (another (l.count item line)) bay (there bay here);
          differ = λ same.
              let away : others (absent l.switch l.behind) (item + 4) (item + 4) ≡ false = and_right (absent l.switch l.behind (item + 4)) (not (eqb (item + 4) (item + 4))) (not_from_true _ (eq-eqb (item + 4) (item + 4) refl)) in
              another_differs (l.count item line)
              (sym (posted_item l item line in_items) ∙ same ∙ sym (codeword_item s other item)
              ∙ holds (item + 4) (omega (arith, in_items)) away ∙ put_same (word_at s m line) (item + 4) (another (l.count item line)));
        }

    pub refused_undecided : (why : Fault) → answer l room (Get item line) ≡ Refused why → Undecided s l m item line
    refused_undecided why e = elim (cases_Bool (lost l item)) [
      | inl gone-too ↦ undecided gone-too
      | inr found ↦ absurd (get_said l.drawer (why_get (known l) (front l) room item line) (l.count item line) why e (by_lost ∙ ap (λ t. when t (TooManyAbsent (how_many_gone (known l) (front l)))) found))
    ]

  decided : lost l item ≡ false → Undecided s l m item line → ⊥
  decided found u = elim (and_cases (ltb 4 (how_many_gone (known l) (front l))) (gone (known l) (front l) (item + 4)) found) [
    | inl few ↦ u.differ (ap (λ xs. get_or xs item 0)
        (one_at_most s l.items in_field (absent l.switch l.behind) (omega (arith, ltb-false 4 (how_many_gone (known l) (front l)) few, some_absent)) (codeword s u.other) u.one u.other u.one_line u.other_line
        (λ bay h e. u.one_fits bay h (not-false _ e) ∙ sym (u.other_fits bay h (not-false _ e)))
        (λ bay h e. refl)))
    | inr here ↦
        let own : present l.switch l.behind (item + 4) ≡ true = not-false _ here in
        let inside : item + 4 < l.items + 4 = omega (arith, in_items) in
        u.differ (sym (codeword_item s u.one item) ∙ u.one_fits (item + 4) inside own ∙ sym (u.other_fits (item + 4) inside own) ∙ codeword_item s u.other item)
  ]

  pub undecided_refused : l.drawer ≡ None → Undecided s l m item line → answer l room (Get item line) ≡ Refused (Book (TooManyAbsent (how_many_gone (known l) (front l))))
  undecided_refused shut u = elim (cases_Bool (lost l item)) [
    | inl gone-too ↦
        ap (λ o. on_verdict (closed o (by_book (why_get (known l) (front l) room item line))) (Word (l.count item line)) Refused NotAllowed) shut
        ∙ ap (λ w. on_verdict (ruled (by_book w)) (Word (l.count item line)) Refused NotAllowed) (by_lost ∙ ap (λ t. when t (TooManyAbsent (how_many_gone (known l) (front l)))) gone-too)
    | inr found ↦ absurd (decided found u)
  ]
