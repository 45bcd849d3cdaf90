use Rattle.std.proofs.Common.{◌+◌, sym, ap, ◌∙◌, arith}
use Rattle.worksheet.specs.Lines.{marked}
use Rattle.rules.specs.Rules.{others_behind}
use Rattle.book.specs.Kept.{Kept}
use Rattle.book.specs.Known.{knows}
use Rattle.book.proofs.Others.{count_but_on, count_but_off, count_but_out}
use Rattle.book.proofs.book.Book.others_behind.Goals as goal
use Rattle.book.proofs.book.Book.others_behind.Goals.{else-bay-bays-via-then-bay-bays+else-contains, else-bay-bays-via-else-bay-bays}

pub overflow_sub-result : goal.overflow_sub-result
overflow_sub-result g c =
    let on = sym c.contains.ensures.value ∙ c.if-contains.true in
    omega (arith, c.count_below-all.ensures, count_but_on (marked c.self.inside.behind) c.args.bay (c.self.inside.items + 4) (omega (arith, c.if-bay-bays.true)) on)

pub returns-then-contains : goal.returns-then-contains
returns-then-contains g c =
    let on = sym c.contains.ensures.value ∙ c.if-contains.true in
    let others = count_but_on (marked c.self.inside.behind) c.args.bay (c.self.inside.items + 4) (omega (arith, c.if-bay-bays.true)) on in
    omega (arith, c.count_below-all.ensures, others) ∙ ap (λ (k : Kept). others_behind (knows k) c.args.bay) c.self.view_is

pub returns-else-bay-bays : goal.returns-else-bay-bays
returns-else-bay-bays g c =
    elim c.else-bay-bays.branch [
      | else-bay-bays-via-then-bay-bays+else-contains w ↦
          c.count_below-all.ensures ∙ sym (count_but_off (marked c.self.inside.behind) c.args.bay (c.self.inside.items + 4) (sym w.contains.ensures.value ∙ w.if-contains.false))
          ∙ ap (λ (k : Kept). others_behind (knows k) c.args.bay) c.self.view_is
      | else-bay-bays-via-else-bay-bays w ↦
          c.count_below-all.ensures ∙ sym (count_but_out (marked c.self.inside.behind) c.args.bay (c.self.inside.items + 4) (omega (arith, w.if-bay-bays.false)))
          ∙ ap (λ (k : Kept). others_behind (knows k) c.args.bay) c.self.view_is
    ]
