-- What playing a round file gives. Assumes nothing.
use Rattle.std.specs.Prelude.{◌≡◌, ℕ, List, ◌++◌, Some, None, Option}
use Rattle.call.specs.declared.Call.{Call}
use Rattle.frame.specs.Reading.{Answer as Heard}
use Rattle.frame.specs.Laid.{Answered}
use Rattle.replies.specs.declared.Reply.{Reply}
use Rattle.replies.specs.Lines.{Said, said, line, lines_from}
use Rattle.round.specs.declared.rounds.Round.{Round}
use Rattle.round.specs.Replies.{State, waiting, reply, next, replies}
use Rattle.round.specs.Rounds.{Replied}

-- The frames that are left were all replied to, from the state after this frame and behind its line.
abbrev pub PlayedOn : ℕ → Said → Round → State → List ℕ → List ℕ → Type 0
PlayedOn number x r st text text' = (made : List Call) × Replied r st (text ++ line number x) text' made

-- A frame before an accepted start: where it is one, the rest of the round is played, and otherwise the round waits on.
abbrev pub Begun : ℕ → ℕ → Heard → Round → List ℕ → Option Reply → Round → List ℕ → Type 0
Begun number offset a r text None r' text' = PlayedOn number (reply waiting offset a) r (next waiting offset a) text text'
Begun number offset a r text (Some x) r' text' = (said x ≡ reply waiting offset a) × (next waiting offset a ≡ waiting) × (r' ≡ r) × (text' ≡ text)

-- The text has one line for each frame of the file up to the first that is cut short, in their order, the first numbered 0:
-- the replies that the ledger tells.
pub record Played (file text : List ℕ) : Type 0 where
  pub answers : List Heard
  pub answered : Answered file answers
  pub lines : text ≡ lines_from 0 (replies file waiting 0 answers)
