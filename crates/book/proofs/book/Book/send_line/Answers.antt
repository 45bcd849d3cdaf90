use Rattle.std.proofs.Common.{◌≡◌, ℕ, ◌<◌, length, nat_eq, get_or, take, subst, arith, get_or-take, length-take-le}
use Rattle.book.specs.Known.{knows}
use Rattle.book.specs.Sending.{Sent}
use Rattle.book.proofs.Sending.{sent_next, sent_all}
use Rattle.book.proofs.book.Book.send_line.Goals as goal

pub loop-bay-preserved : goal.loop-bay-preserved
loop-bay-preserved g c =
    let sheet = c.args.sheet.now in
    let bay = c.loop-bay.bay in
    let long : length (take 4 sheet) ≡ 4 = length-take-le 4 sheet (omega arith) in
    let first : bay < 4 = omega arith in
    let sent = subst (λ (w : ℕ). Sent (knows c.loop-bay.self) (g.R.Reading.meaning c.loop-bay.rack) (λ b. nat_eq b bay) c.args.line (λ _. w) (knows c.send.new.self) (g.R.Reading.meaning c.send.new.rack))
    (get_or-take 4 sheet bay 0 first) c.send.ensures in
    sent_next _ _ _ (λ b. get_or sheet b 0) bay _ _ c.loop-bay.invariant _ _ sent

pub returns : goal.returns
returns g c =
    let long : length (take 4 c.args.sheet.now) ≡ 4 = length-take-le 4 c.args.sheet.now (omega arith) in
    sent_all _ _ _ (λ b. get_or c.args.sheet.now b 0) c.args.item c.loop-bay.bay (omega arith) _ _ c.loop-bay.invariant _ _ c.send-2.ensures
