use Rattle.std.proofs.Common.{◌≡◌, ◌&&◌, ltb}
use Rattle.book.specs.Sending.{wiped}
use Rattle.book.proofs.opening.clear.Given as goal

abbrev pub invariant-loop-bay : goal.invariant-loop-bay
invariant-loop-bay g l = g.R.Reading.meaning l.rack ≡ wiped (g.R.Reading.meaning l.initial.rack) (λ b k. ltb b l.bay && ltb k l.lines)
