use Rattle.std.proofs.Common.{ltb, get_or}
use Rattle.book.specs.Known.{knows}
use Rattle.book.specs.Sending.{Sent}
use Rattle.book.proofs.book.Book.send_line.Given as goal

abbrev pub invariant-loop-bay : goal.invariant-loop-bay
invariant-loop-bay g l =
    Sent (knows l.initial.self) (g.R.Reading.meaning l.initial.rack) (λ b. ltb b l.bay) l.line (λ b. get_or l.fn.sheet b 0)
    (knows l.self) (g.R.Reading.meaning l.rack)
