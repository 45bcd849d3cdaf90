-- What a book knows. Assumes nothing.
use Rattle.worksheet.specs.Lines.{marked}
use Rattle.rules.specs.Known.{Known}
use Rattle.book.specs.Kept.{Kept}

abbrev pub knows : Kept → Known
knows b = record { items = b.items; lines = b.lines; behind = marked b.behind }
