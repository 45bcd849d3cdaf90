use Rattle.frame.specs.Reading.{told}
use Rattle.bank.specs.Drawers.{known_of, open_bay}
use Rattle.serve.proofs.Frames.{answered_make, answered_say}
use Rattle.serve.proofs.serving.answer_frame.Goals as goal

pub returns-in-Call : goal.returns-in-Call
returns-in-Call g c =
    let s = g.F.Field.structure in
    let p = c.args.placed in
    let is = rw (c.in-Call.is, c.phase.ensures) at c.task_of.ensures in
    let turned = rw c.requires at c.turn-drawer.ensures.turned in
    answered_make s known_of open_bay g.R.Reading.meaning p.offset c.args.drawer c.args.rack.now (told p.answer) c.in-Call.call is
    _ c.turn-drawer.result.0 c.turn-drawer.new.rack c.turn-drawer.result.1 turned c.reply_of.ensures

pub returns-in-Reply : goal.returns-in-Reply
returns-in-Reply g c =
    let s = g.F.Field.structure in
    let p = c.args.placed in
    let is = rw (c.in-Reply.is, c.phase.ensures) at c.task_of.ensures in
    answered_say s known_of open_bay g.R.Reading.meaning p.offset c.args.drawer c.args.rack.now (told p.answer) _ is
