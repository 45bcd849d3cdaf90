use Rattle.std.proofs.Common.{◌≡◌, ℕ}
use Rattle.worksheet.specs.Lines.{marked}
use Rattle.book.specs.Sending.{silent_below}
use Rattle.book.proofs.opening.listen.Given as goal

abbrev pub invariant-loop-bay : goal.invariant-loop-bay
invariant-loop-bay g l = record {
  heard : (bay : ℕ) → marked l.silent bay ≡ silent_below (g.R.Reading.meaning l.initial.rack).switch l.bay bay;
  same : g.R.Reading.meaning l.rack ≡ g.R.Reading.meaning l.initial.rack;
}
