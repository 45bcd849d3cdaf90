use Rattle.std.proofs.Common.{◌≡◌, ℕ, ◌+◌, ◌≤◌, Bool, true, false, not, List, is_err, sym, refl, ◌∙◌, subst, arith}
use Rattle.rack.specs.Meaning.{Meaning}
use Rattle.worksheet.specs.Lines.{marked}
use Rattle.book.specs.Sending.{silent_below}
use Rattle.book.proofs.Hearing.{asked, heard_none, heard_skip, heard_more}
use Rattle.book.proofs.opening.listen.Goals as goal
use Rattle.book.proofs.opening.listen.Goals.{then-is_err, else-is_err}

pub loop-bay-init : goal.loop-bay-init
loop-bay-init g c = record { heard = heard_none _ c.from-silent.result c.from-silent.ensures; same = refl }

pub loop-bay-preserved : goal.loop-bay-preserved
loop-bay-preserved g c =
    let m = g.R.Reading.meaning c.args.rack.now in
    let bay = c.loop-bay.bay in
    let so = c.loop-bay.invariant in
    let some : 1 ≤ m.lines = subst (λ (x : Meaning). 1 ≤ x.lines) so.same c.read.ensures.ranges.some_lines in
    let refuses : (b : Bool) → is_err c.read.result ≡ b → m.switch bay ≡ not b =
    λ b e. asked m _ so.same bay 0 (omega arith) some c.read.result c.read.ensures.answer b e in
    let Heard : List Bool → Type 0 = λ marks. (b : ℕ) → marked marks b ≡ silent_below m.switch (bay + 1) b in
    record {
      heard = elim c.if-is_err.branch [
        | then-is_err w ↦ subst Heard (sym w.silent-is) (heard_more m.switch bay _ so.heard (refuses true (sym w.if-is_err.ensures.value)) _ w.insert.ensures)
        | else-is_err w ↦ subst Heard (sym w.silent-is) (heard_skip m.switch bay _ so.heard (refuses false (sym w.if-is_err.ensures.value)))
      ];
      same = c.read.ensures.after ∙ so.same;
    }
