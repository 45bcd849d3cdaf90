-- The lines of a round file. Assumes nothing.
use Rattle.std.specs.Prelude.{◌≡◌, ℕ, ◌+◌, List, [], ◌∷◌, ◌++◌, Ok, Err, codes, decimal}
use Rattle.fault.specs.Table.{row, printed}
use Rattle.fault.specs.declared.fault.Fault.TheVariants.{File}
use Rattle.frame.specs.Reading.{Answer}
use Rattle.frame.specs.Laid.{Answered}
use Rattle.listing.specs.Text.{says}

-- What the frame says, or `no` and the refusal.
abbrev pub answer_text : Answer → List ℕ
answer_text (Ok content) = says content
answer_text (Err fault) = codes "no " ++ printed (row (File fault))

abbrev pub line_text : ℕ → Answer → List ℕ
line_text number answer = decimal number ++ (codes " " ++ answer_text answer)

-- The lines of the answers, numbered on from a number; byte 10 ends a line.
abbrev pub lines_from : ℕ → List Answer → List ℕ
lines_from number [] = []
lines_from number (answer ∷ answers) = (line_text number answer ++ (10 ∷ [])) ++ lines_from (number + 1) answers

-- The text has one line for each frame of the file, in their order, the first numbered 0.
pub record Listed (file text : List ℕ) : Type 0 where
  pub answers : List Answer
  pub answered : Answered file answers
  pub lines : text ≡ lines_from 0 answers
