-- The lines of the replies to a round file. Assumes nothing.
use Rattle.std.specs.Prelude.{ℕ, ◌+◌, List, [], ◌∷◌, ◌++◌, map, codes, decimal}
use Rattle.fault.specs.Table.{row, printed}
use Rattle.fault.specs.declared.fault.Fault.{Fault}
use Rattle.listing.specs.Text.{visible}
use Rattle.replies.specs.declared.Reply.{Reply}
use Rattle.replies.specs.declared.Reply.TheVariants.{Done, Word, Note, Skip, Refused}

-- What is replied to a frame, with the bytes themselves where the program borrows them.
pub data Said : Type 0 where
  done : Said
  word : ℕ → Said
  note : (text : List ℕ) → Said
  skip : (length : ℕ) → Said
  refused : Fault → Said

abbrev pub said : Reply → Said
said Done = done
said (Word w) = word w
said (Note text) = note text.now
said (Skip length) = skip length
said (Refused fault) = refused fault

abbrev pub said_text : Said → List ℕ
said_text done = codes "ok"
said_text (word w) = codes "word " ++ decimal w
said_text (note text) = codes "note " ++ map visible text
said_text (skip length) = codes "skip " ++ decimal length
said_text (refused fault) = codes "no " ++ printed (row fault)

-- A line: the number of the frame and the reply; byte 10 ends it.
abbrev pub line : ℕ → Said → List ℕ
line number x = decimal number ++ (codes " " ++ (said_text x ++ (10 ∷ [])))

-- The lines of the replies, numbered on from a number.
abbrev pub lines_from : ℕ → List Said → List ℕ
lines_from number [] = []
lines_from number (x ∷ xs) = line number x ++ lines_from (number + 1) xs
