use Rattle.std.proofs.Common.{◌≡◌, ◌&&◌, eqb, ltb}
use Rattle.book.specs.Sending.{wiped}
use Rattle.book.proofs.opening.clear_bay.Given as goal

abbrev pub invariant-loop-line : goal.invariant-loop-line
invariant-loop-line g l = g.R.Reading.meaning l.rack ≡ wiped (g.R.Reading.meaning l.initial.rack) (λ b k. eqb b l.bay && ltb k l.line)
