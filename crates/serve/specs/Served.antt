-- What serving a frame does, and what serving the rest of a round comes to. Assumes nothing.
use Rattle.std.specs.Prelude.{◌≡◌, ℕ, List, Ok, Err, Option}
use Rattle.call.specs.declared.Call.{Call}
use Rattle.frame.specs.Format.{start, call, note, unknown}
use Rattle.frame.specs.Reading.{Answer as Heard}
use Rattle.field.specs.Structure.{Structure}
use Rattle.rack.specs.Meaning.{Meaning}
use Rattle.rules.specs.Known.{Known}
use Rattle.ledger.specs.declared.Answer.{Answer}
use Rattle.ledger.specs.Ledger.{Ledger}
use Rattle.ledger.specs.Stands.{Turn, Sound, Stands}
use Rattle.ledger.specs.Runs.{History}
use Rattle.replies.specs.Lines.{Said}
use Rattle.round.specs.declared.rounds.Round.{Round}
use Rattle.round.specs.Replies.{serving, room, answer_reply, reply}
use Rattle.round.specs.Rounds.{Replied}

module _ {K : Type 0} (s : Structure K) {D R : Type 0} (knows : D → Known) (open_bay : D → Option ℕ) (meaning : R → Meaning) where
  -- A frame that is no call: the bank stays.
  abbrev pub Quiet : ℕ → Heard → D → R → Said → D → R → Type 0
  Quiet offset a d r x d' r' = (d' ≡ d) × (r' ≡ r) × ((l : Ledger) → x ≡ reply (serving l) offset a)

  -- A frame at an offset: a call is a turn of the bank, whose answer is the reply.
  abbrev pub Answered : ℕ → Heard → D → R → Said → D → R → Type 0
  Answered offset (Ok (start items lines field)) = Quiet offset (Ok (start items lines field))
  Answered offset (Ok (call c)) = λ d r x d' r'.
      (a : Answer) × Turn s room c (knows d) (open_bay d) (meaning r) a (knows d') (open_bay d') (meaning r') × (x ≡ answer_reply offset a)
  Answered offset (Ok (note text)) = Quiet offset (Ok (note text))
  Answered offset (Ok (unknown kind body)) = Quiet offset (Ok (unknown kind body))
  Answered offset (Err fault) = Quiet offset (Err fault)

-- A watcher is shown what a call left, and nothing of another frame.
abbrev pub Shown : {D R W : Type 0} → (W → D → R → W → Type 0) → Heard → W → D → R → W → Type 0
Shown sees (Ok (start items lines field)) w d r w' = w' ≡ w
Shown sees (Ok (call c)) w d r w' = sees w d r w'
Shown sees (Ok (note text)) w d r w' = w' ≡ w
Shown sees (Ok (unknown kind body)) w d r w' = w' ≡ w
Shown sees (Err fault) w d r w' = w' ≡ w

module _ {K : Type 0} (s : Structure K) {D R W : Type 0} (knows : D → Known) (open_bay : D → Option ℕ) (meaning : R → Meaning) (sees : W → D → R → W → Type 0) where
  -- The rest of a round was served from a ledger on: its frames were replied to as that ledger has it, and its calls and their
  -- answers are a history of the bank.
  pub record Served (l : Ledger) (r : Round) (text text' : List ℕ) (w w' : W) : Type 0 where
    pub calls : List Call
    pub replied : Replied r (serving l) text text' calls
    pub answers : List Answer
    pub drawer : D
    pub rack : R
    pub history : History s knows open_bay meaning sees l room calls answers w drawer rack w'

  -- The same for every ledger that a drawer and a rack stand by, after one look.
  abbrev pub Serves : D → R → W → Round → List ℕ → List ℕ → W → Type 0
  Serves d rack w r text text' w' =
      (l : Ledger) (w₀ : W) → Sound s l → ((item line : ℕ) → l.count item line ≡ 0) → Stands s l (knows d) (open_bay d) (meaning rack) → sees w₀ d rack w → Served l r text text' w₀ w'
