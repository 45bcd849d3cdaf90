use Rattle.std.proofs.Common.{ℕ, List, ◌++◌, string_bytes, ap, ◌∙◌}
use Rattle.replies.specs.Lines.{said, line}
use Rattle.play.proofs.Beginnings.{waits_more, waits_on, waits_end, whole}
use Rattle.play.proofs.play.Goals as goal

pub returns-in_default-2 : goal.returns-in_default-2
returns-in_default-2 c =
    let start = c.new-round.ensures in
    let begun = rw c.in_default-2.is at c.in_ok-reply.ensures in
    let on = waits_on c.loop-placed.invariant c.next.new.self c.in-Some.placed c.in-Some.ensures.steps (string_bytes c.begin.new.text) begun in
    whole _ _ _ _ on.0 start.file start.start start.number c.new-text.ensures.bytes on.1

pub loop-placed-preserved : goal.loop-placed-preserved
loop-placed-preserved c =
    let p = c.in-Some.placed in
    let x = said c.in-Some-2.reply in
    let begun = rw c.in-Some-2.is at c.in_ok-reply.ensures in
    let grown = c.in_ok-add_line.ensures ∙ ap (λ (t : List ℕ). t ++ line p.number x) begun.3 in
    rw begun.2 (waits_more c.loop-placed.invariant c.next.new.self p c.in-Some.ensures.steps (string_bytes c.add_line.new.text) x begun.0 begun.1 grown)

pub returns : goal.returns
returns c =
    let start = c.new-round.ensures in
    whole _ _ _ _ c.loop-placed.invariant.made start.file start.start start.number c.new-text.ensures.bytes (waits_end c.loop-placed.invariant c.in_default.ensures.steps)
