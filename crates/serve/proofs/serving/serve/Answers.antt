use Rattle.std.proofs.Common.{◌≡◌, ◌≤◌, Some, None, Option, refl, ◌∙◌, arith}
use Rattle.fault.specs.declared.fault.BookFault.{BookFault}
use Rattle.field.specs.Structure.{size}
use Rattle.book.specs.Known.{knows}
use Rattle.round.specs.Replies.{first_ledger}
use Rattle.serve.specs.Halls.{hall_meaning}
use Rattle.serve.proofs.Openings.{starts, opening_sound, opening_stands, hall_none}
use Rattle.serve.proofs.serving.serve.Goals as goal

pub returns-in_err-start : goal.returns-in_err-start
returns-in_err-start g c =
    let q = size g.F.Field.structure in
    let items = c.args.size.items in
    let some : 1 ≤ items = omega (arith, c.if-items-eq0.false) in
    let few : items ≤ q = omega (arith, c.if-items-order.false, c.order.ensures) in
    let never : ◌≡◌ {A = Option BookFault} (Some _) None = c.in_err-start.ensures.refused ∙ starts q items c.args.size.lines some few _ c.in_ok-hall.ensures.new in
    absurd (grind arith)

pub returns-clause-accepted : goal.returns-clause-accepted
returns-clause-accepted g c =
    hall_none (size g.F.Field.structure) c.args.size.items c.args.size.lines (omega (arith, c.if-items-eq0.false))
    (omega (arith, c.if-items-order.false, c.order.ensures)) c.in_ok-hall.ensures.accepted

pub returns-clause-served : goal.returns-clause-served
returns-clause-served g c =
    let s = g.F.Field.structure in
    let items = c.args.size.items in
    let lines = c.args.size.lines in
    let some : 1 ≤ items = omega (arith, c.if-items-eq0.false) in
    let few : items ≤ size s = omega (arith, c.if-items-order.false, c.order.ensures) in
    let new = c.in_ok-hall.ensures.new in
    let book = c.in_ok-start.ensures.book in
    let rack = c.in_ok-start.ensures.rack in
    let m = hall_meaning c.in_ok-hall.hall in
    let m' = hall_meaning c.start.new.rack in
    let k = knows c.in_ok-start.field-0 in
    let l = first_ledger (size s) items lines in
    let sound = opening_sound s items lines some few m m' k new book rack in
    let stands = opening_stands s items lines some few m m' k new book rack in
    rw c.in_ok-add_line.ensures at (c.in_ok-serve_rest.ensures l c.args.watch.now sound (λ i j. refl) stands c.look.ensures)
