use Rattle.std.proofs.Common.{◌≡◌, length, ap, arith}
use Rattle.std.proofs.lemmas.Grind.{common_steps}
use Rattle.fault.specs.declared.fault.Fault.TheVariants.{Book}
use Rattle.ledger.specs.declared.Answer.TheVariants.{Word}
use Rattle.ledger.specs.Answering.{AnswerTo}
use Rattle.book.specs.Known.{knows}
use Rattle.ledger.proofs.Turns.{turn_get, turn_post, turn_mend, turn_off, turn_on, turn_released, turn_not_released, turn_seated}
use Rattle.bank.proofs.turns.turn.Goals as goal

pub returns-in_default-Off-clause-turned : goal.returns-in_default-Off-clause-turned
returns-in_default-Off-clause-turned g c =
    rw c.in_default-Off.is-1 (turn_off g.F.Field.structure (length c.args.sheet.now) _ _ _ c.in_default-Off.bay _ _ _ c.from.ensures c.off.ensures.answer c.off.ensures.after)

pub returns-in_default-On-clause-turned : goal.returns-in_default-On-clause-turned
returns-in_default-On-clause-turned g c =
    rw c.in_default-On.is-1 (turn_on g.F.Field.structure (length c.args.sheet.now) _ _ _ c.in_default-On.bay _ _ _ c.from-in_default-On.ensures c.on.ensures.answer c.on.ensures.after)

pub returns-in-Closed-Get-clause-turned : goal.returns-in-Closed-Get-clause-turned
returns-in-Closed-Get-clause-turned g c =
    let called = c.in-Closed-Get in
    let told = c.get.ensures in
    let answered : AnswerTo (λ w x. x ≡ Word w) (λ e f. f ≡ Book e) c.get.result c.from-answer.result = grind (arith, common_steps) in
    rw (called.is-0, called.is-1)
    (turn_get g.F.Field.structure (length c.args.sheet.now) _ _ called.item called.line _ _ _ answered told.refused told.gives told.after)

pub returns-in-Closed-Post-clause-turned : goal.returns-in-Closed-Post-clause-turned
returns-in-Closed-Post-clause-turned g c =
    let called = c.in-Closed-Post in
    let told = c.post.ensures in
    rw (called.is-0, called.is-1)
    (turn_post g.F.Field.structure (length c.args.sheet.now) _ _ called.item called.line called.word _ _ _ _ _ c.from-answer-in-Closed-Post.ensures told.refused told.posted told.book_kept (ap knows) told.rack_kept)

pub returns-in-Closed-Mend-clause-turned : goal.returns-in-Closed-Mend-clause-turned
returns-in-Closed-Mend-clause-turned g c =
    let called = c.in-Closed-Mend in
    let told = c.mend.ensures in
    rw (called.is-0, called.is-1)
    (turn_mend g.F.Field.structure (length c.args.sheet.now) _ _ called.bay _ _ _ _ _ c.from-answer-in-Closed-Mend.ensures told.refused told.mended told.book_kept (ap knows) told.rack_kept)

pub returns-in-Ok-clause-turned : goal.returns-in-Ok-clause-turned
returns-in-Ok-clause-turned g c =
    let called = c.in-Closed-Release in
    let told = c.in-Ok.ensures in
    rw (called.is-0, called.is-1) (turn_released g.F.Field.structure (length c.args.sheet.now) _ _ called.bay _ _ told.accepted told.bay told.book)

pub returns-in-Err-clause-turned : goal.returns-in-Err-clause-turned
returns-in-Err-clause-turned g c =
    let called = c.in-Closed-Release in
    let told = c.in-Err.ensures in
    rw (called.is-0, called.is-1, c.into.ensures) (turn_not_released g.F.Field.structure (length c.args.sheet.now) _ _ called.bay c.in-Err.field-0.fault _ told.refused (ap knows told.book_kept))

pub returns-in-Ok-seat-clause-turned : goal.returns-in-Ok-seat-clause-turned
returns-in-Ok-seat-clause-turned g c =
    let called = c.in-Open-Seat in
    let told = c.in-Ok-seat.ensures in
    rw (called.is-0, called.is-1) (turn_seated g.F.Field.structure (length c.args.sheet.now) _ _ called.book.bay _ _ told.accepted (ap knows told.book) told.rack)
