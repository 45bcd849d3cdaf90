use Rattle.worksheet.specs.Lines.{marked}
use Rattle.book.proofs.Mending.{Mending}
use Rattle.book.proofs.book.Book.mend.Given as goal

abbrev pub invariant-loop-line : goal.invariant-loop-line
invariant-loop-line g l =
    let book = l.self-inside in
    Mending g.F.Field.structure record { items = book.items; lines = book.lines; behind = marked book.behind } (g.R.Reading.meaning l.initial.rack) l.bay l.initial.sheet l.line (g.R.Reading.meaning l.rack) l.sheet
