use Rattle.std.proofs.Common.{◌≤◌, sym, ◌∙◌, arith}
use Rattle.rules.specs.Known.{front_of}
use Rattle.rules.specs.Rules.{silences}
use Rattle.field.specs.Structure.{size}
use Rattle.book.proofs.Starting.{may_start, silences_marked, too_many_silent}
use Rattle.book.proofs.book.Book.start.Goals as goal

pub returns-then-count-gt4-clause-refused : goal.returns-then-count-gt4-clause-refused
returns-then-count-gt4-clause-refused g c =
    let m = g.R.Reading.meaning c.args.rack.now in
    let asked = c.lines-lines.ensures.after ∙ c.bays-bays.ensures.after in
    let many = silences_marked m c.args.items _ asked _ c.bays-bays.ensures.answer _ c.listen-silent.ensures.bays _ c.count_below-count.ensures in
    too_many_silent m c.args.items (size g.F.Field.structure) (omega arith) (omega (arith, c.order.ensures)) (omega (arith, c.bays-bays.ensures.answer)) _ many c.if-count-gt4.true

pub returns-clause-refused : goal.returns-clause-refused
returns-clause-refused g c =
    let m = g.R.Reading.meaning c.args.rack.now in
    let asked = c.lines-lines.ensures.after ∙ c.bays-bays.ensures.after in
    let many = silences_marked m c.args.items _ asked _ c.bays-bays.ensures.answer _ c.listen-silent.ensures.bays _ c.count_below-count.ensures in
    let few : silences (front_of m) ≤ 4 = omega (arith, many) in
    sym (may_start m c.args.items (size g.F.Field.structure) (omega arith) (omega (arith, c.order.ensures)) (omega (arith, c.bays-bays.ensures.answer)) few)
