-- Each turn passes a bay, and adds its multiple where it is present.
use Rattle.std.proofs.Common.{◌≡◌, ◌+◌, true, false, drop, get_or, length, refl, sym, ap, subst, ◌∙◌, inl, inr, arith, length-drop}
use Rattle.std.proofs.lemmas.Bool.Decides.{nat_tests}
use Rattle.extension.specs.Extend.{extend}
use Rattle.elimination.specs.Places.{made}
use Rattle.elimination.proofs.Places.{place_made}
use Rattle.distance.specs.Column.{column}
use Rattle.restore.specs.Restored.{absent}
use Rattle.restore.proofs.PresentSums.{Sums, sums_none, sums_take, sums_skip, drop_head}
use Rattle.restore.proofs.restoring.present_sums.Goals as goal

pub loop-bay-init : goal.loop-bay-init
loop-bay-init g c =
    let none : c.into_iter-bay-iterator.result.count ≡ 0 = cc in
    record {
      sums = subst (λ n. Sums g.F.Field.structure c.args.words.now c.args.marks.now n (made (λ k. c.zero-zero.result))) (sym none)
          (sums_none g.F.Field.structure c.args.words.now c.args.marks.now (made (λ k. c.zero-zero.result)) (λ k h. place_made (λ k. c.zero-zero.result) k h ∙ c.zero-zero.ensures));
      within = omega arith;
      words_left = rw none (cc);
      marks_left = rw none (cc);
    }

pub loop-bay-preserved : goal.loop-bay-preserved
loop-bay-preserved g c =
    let s = g.F.Field.structure in
    let words = c.args.words.now in
    let marks = c.args.marks.now in
    let n = c.loop-bay.bay-iterator.count in
    let steps = c.in-Some.ensures.steps in
    let word = drop_head n words c.next.new.self.iter.a.rest.now c.in-Some.word.now (sym c.loop-bay.invariant.words_left ∙ steps.0.0) in
    let mark = drop_head n marks c.next.new.self.iter.b.rest.now c.in-Some.mark.now (sym c.loop-bay.invariant.marks_left ∙ steps.0.1) in
    let next : c.next.new.self.count ≡ n + 1 = steps.2 in
    let gone : absent marks n ≡ true = grind (arith, nat_tests) in
    record {
      sums = subst (λ n. Sums s words marks n c.loop-bay.sums) (sym next) (sums_skip s words marks n _ _ c.loop-bay.invariant.sums gone refl);
      within = omega (arith, next, word.0);
      words_left = word.2 ∙ ap (λ k. drop k words) (sym next);
      marks_left = mark.2 ∙ ap (λ k. drop k marks) (sym next);
    }

pub loop-bay-preserved-then-mark-eq0 : goal.loop-bay-preserved-then-mark-eq0
loop-bay-preserved-then-mark-eq0 g c =
    let s = g.F.Field.structure in
    let words = c.args.words.now in
    let marks = c.args.marks.now in
    let n = c.loop-bay.bay-iterator.count in
    let steps = c.in-Some.ensures.steps in
    let word = drop_head n words c.next.new.self.iter.a.rest.now c.in-Some.word.now (sym c.loop-bay.invariant.words_left ∙ steps.0.0) in
    let mark = drop_head n marks c.next.new.self.iter.b.rest.now c.in-Some.mark.now (sym c.loop-bay.invariant.marks_left ∙ steps.0.1) in
    let next : c.next.new.self.count ≡ n + 1 = steps.2 in
    let here : absent marks n ≡ false = grind (arith, nat_tests) in
    let number : c.from.result ≡ get_or words n 0 = cc in
    let element = c.element-word.ensures ∙ ap (extend s).of number in
    record {
      sums = subst (λ n. Sums s words marks n c.add_multiple-sums.result) (sym next)
          (sums_take s words marks n _ _ c.loop-bay.invariant.sums here c.column.result (λ k h. c.column.ensures k h ∙ ap (λ b. column s b k) steps.1)
          c.element-word.result element c.add_multiple-sums.ensures);
      within = omega (arith, next, word.0);
      words_left = word.2 ∙ ap (λ k. drop k words) (sym next);
      marks_left = mark.2 ∙ ap (λ k. drop k marks) (sym next);
    }

pub returns : goal.returns
returns g c =
    let s = g.F.Field.structure in
    let words = c.args.words.now in
    let marks = c.args.marks.now in
    let n = c.loop-bay.bay-iterator.count in
    let so = c.loop-bay.invariant in
    let all : n ≡ length words = elim c.in-None.ensures.steps.0 [
      | inl none ↦ omega (arith, so.within, none.1.0, ap length so.words_left, length-drop n words)
      | inr none ↦ omega (arith, so.within, none.1.0, ap length so.marks_left, length-drop n marks, c.requires.marked)
    ] in
    subst (λ k. Sums s words marks k c.loop-bay.sums) all so.sums
