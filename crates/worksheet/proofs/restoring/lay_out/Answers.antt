-- Each turn lays out one bay more.
use Rattle.std.proofs.Common.{◌≡◌, not, get_or, None, is_some, eqb, set, refl, ap, ◌∙◌, inl, inr, arith, length-set, get_or-set_other, get_or-set_same}
use Rattle.std.proofs.lemmas.Bool.{cases_eq}
use Rattle.std.proofs.lemmas.Bool.Decides.{nat_tests}
use Rattle.restore.specs.Restored.{absent}
use Rattle.worksheet.proofs.restoring.lay_out.Goals as goal

pub loop-bay-init : goal.loop-bay-init
loop-bay-init c = record { long_words = refl; long_marks = refl; words_at = λ bay h. absurd (omega arith); marks_at = λ bay h. absurd (omega arith) }

pub loop-bay-preserved : goal.loop-bay-preserved
loop-bay-preserved c =
    let so = c.loop-bay.invariant in
    let n = c.loop-bay.bay in
    let word = c.unwrap_or.result in
    let mark = c.from.result in
    let word_here : get_or (set c.loop-bay.words n word) n 0 ≡ word = get_or-set_same c.loop-bay.words n word 0 (omega (arith, so.long_words, c.requires.words)) in
    let mark_here : get_or (set c.loop-bay.marks n mark) n 0 ≡ mark = get_or-set_same c.loop-bay.marks n mark 0 (omega (arith, so.long_marks, c.requires.marks)) in
    let gone : absent (set c.loop-bay.marks n mark) n ≡ not (is_some (get_or c.args.found.now n None)) = grind (arith, nat_tests) in
    record {
      long_words = length-set c.loop-bay.words n word ∙ so.long_words;
      long_marks = length-set c.loop-bay.marks n mark ∙ so.long_marks;
      words_at = λ bay h. elim (cases_eq bay n) [
        | inl e ↦ rw e (word_here ∙ c.unwrap_or.ensures)
        | inr d ↦ get_or-set_other c.loop-bay.words n bay word 0 d ∙ so.words_at bay (omega (arith, d))
      ];
      marks_at = λ bay h. elim (cases_eq bay n) [
        | inl e ↦ rw e gone
        | inr d ↦ ap (λ m. not (eqb m 0)) (get_or-set_other c.loop-bay.marks n bay mark 0 d) ∙ so.marks_at bay (omega (arith, d))
      ];
    }
