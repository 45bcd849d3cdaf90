-- The words of a line: which are refused. Assumes nothing.
use Rattle.std.proofs.Common.{◌≡◌, ℕ, zero, suc, ◌<◌, ◌≤◌, T, List, [], ◌∷◌, leb, is_err, Option, Some, None, Ok, Err, Result, sym, refl, ◌∙◌, subst, arith, le-ltb, lt-ltb}
use native.Mathlib.Decide.{dec_lt}
use borrow.Author.Tests.{lt-leb, le-leb}
use Rattle.std.specs.List.{find}
use Rattle.fault.specs.declared.fault.BookFault.{BookFault}
use Rattle.fault.specs.declared.fault.BookFault.TheVariants.{WordTooLarge}
use Rattle.field.specs.Structure.{Structure, size}
use Rattle.extension.specs.Extend.{extend}
use Rattle.line_code.specs.Answers.{words_answer}
use Rattle.line_code.specs.Sums.{Small}

-- a refusal is no acceptance
never : (r : Result (Unit {0}) BookFault) → r ≡ Ok tt → T (is_err r) → ⊥
never r e t = subst (λ x. T (is_err x)) e t

-- what the first word that is too large answers
abbrev pub answer_to : Option ℕ → Result (Unit {0}) BookFault
answer_to None = Ok tt
answer_to (Some w) = Err (WordTooLarge w)

module _ {K : Type 0} (s : Structure K) where
  words_none : words_answer s [] ≡ Ok tt
  unfolding words_answer
  words_none = refl

  small_first : (w : ℕ) (ws : List ℕ) → w < size (extend s) → words_answer s (w ∷ ws) ≡ words_answer s ws
  unfolding words_answer
  small_first w ws h = rw (lt-ltb w (size (extend s)) h)

  large_first : (w : ℕ) (ws : List ℕ) → size (extend s) ≤ w → words_answer s (w ∷ ws) ≡ Err (WordTooLarge w)
  unfolding words_answer
  large_first w ws h = rw (le-ltb w (size (extend s)) h)

  -- the first word that is too large is the answer
  pub words_found : (items : List ℕ) → answer_to (find (λ w. leb (size (extend s)) w) items) ≡ words_answer s items
  words_found [] = sym words_none
  words_found (w ∷ ws) = elim (dec_lt w (size (extend s))) [
    | yes l ↦ rw (lt-leb (size (extend s)) w l) (words_found ws ∙ sym (small_first w ws l))
    | no l ↦ rw (le-leb (size (extend s)) w (omega arith)) (sym (large_first w ws (omega arith)))
  ]

  -- where no word refuses the line, each is small
  pub small_words : (items : List ℕ) → words_answer s items ≡ Ok tt → Small s items
  small_words [] e i h = absurd (omega arith)
  small_words (w ∷ ws) e zero h = elim (dec_lt w (size (extend s))) [
    | yes l ↦ l
    | no l ↦ absurd (never (Err (WordTooLarge w)) (sym (sym e ∙ large_first w ws (omega arith))) tt)
  ]
  small_words (w ∷ ws) e (suc i) h = elim (dec_lt w (size (extend s))) [
    | yes l ↦ small_words ws (sym (small_first w ws l) ∙ e) i (omega arith)
    | no l ↦ absurd (never (Err (WordTooLarge w)) (sym (sym e ∙ large_first w ws (omega arith))) tt)
  ]
