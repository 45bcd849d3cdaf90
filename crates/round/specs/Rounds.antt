-- What is left of a round file, and what reading a frame of it does. Assumes nothing.
use Rattle.std.specs.Prelude.{◌≡◌, ℕ, ◌+◌, ◌<◌, ◌⊎◌, List, [], ◌∷◌, ◌++◌, length, Some, None, Option}
use Rattle.call.specs.declared.Call.{Call}
use Rattle.frame.specs.Reading.{Answer as Heard, told, file_of, bytes_left}
use Rattle.frame.specs.Laid.{Laid}
use Rattle.round.specs.declared.rounds.Round.{Round}
use Rattle.round.specs.declared.rounds.Placed.{Placed}
use Rattle.replies.specs.Lines.{lines_from}
use Rattle.round.specs.Replies.{State, end_of, replies, calls}

abbrev pub file_in : Round → List ℕ
file_in r = file_of r.reader

-- The offset of the next frame.
abbrev pub here : Round → ℕ
here r = r.reader.offset

-- These are the answers to the frames that are left.
abbrev pub Left : Round → List Heard → Type 0
Left r answers = Laid (here r) (bytes_left r.reader) answers

-- One frame was read, and what is left comes after it.
pub record Taken (r : Round) (p : Placed) (r' : Round) : Type 0 where
  pub number : p.number ≡ r.number
  pub offset : p.offset ≡ here r
  pub counted : r'.number ≡ r.number + 1
  pub file : file_in r' ≡ file_in r
  pub then : (more : List Heard) → Left r' more → Left r (told p.answer ∷ more)
  -- the next frame begins where this one ends, unless this one is cut short
  pub place : (bytes_left r'.reader ≡ []) ⊎ (here r' ≡ end_of (file_in r) (here r))
  pub less : length (bytes_left r'.reader) < length (bytes_left r.reader)

abbrev pub Reads : Round → Option Placed → Round → Type 0
Reads r None r' = Left r []
Reads r (Some p) r' = Taken r p r'

-- All the frames that were left were replied to: the text grew by the lines of their replies, and these are their calls.
pub record Replied (r : Round) (st : State) (text text' : List ℕ) (made : List Call) : Type 0 where
  pub answers : List Heard
  pub left : Left r answers
  pub lines : text' ≡ text ++ lines_from r.number (replies (file_in r) st (here r) answers)
  pub made_of : made ≡ calls answers
