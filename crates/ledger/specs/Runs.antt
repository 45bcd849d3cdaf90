-- Whole runs, in the words of the calls, the answers and the states between them. Assumes nothing.
use Rattle.std.specs.Prelude.{◌≡◌, ℕ, ◌+◌, ◌<◌, ◌≤◌, true, ◌⊎◌, List, length, take, None, Option, slice_index, slice_index_or}
use Rattle.fault.specs.declared.fault.Fault.{Fault}
use Rattle.field.specs.Structure.{Structure}
use Rattle.codeword.specs.Codeword.{codeword, Line}
use Rattle.worksheet.specs.Present.{present}
use Rattle.worksheet.specs.Lines.{word_at}
use Rattle.rack.specs.Meaning.{Meaning}
use Rattle.call.specs.declared.Call.{Call}
use Rattle.call.specs.declared.Call.TheVariants.{Post, Get, Seat}
use Rattle.rules.specs.Known.{Known}
use Rattle.rules.specs.Rules.{why_cell}
use Rattle.ledger.specs.declared.Answer.{Answer}
use Rattle.ledger.specs.declared.Answer.TheVariants.{Done, Word, Refused, NotAllowed}
use Rattle.ledger.specs.Ledger.{Ledger, known, front, answer, after_all}
use Rattle.ledger.specs.Stands.{Stands}

-- The call with number n of a list, and its answer.
abbrev pub call_at : List Call → ℕ → Call
call_at calls n = slice_index_or calls n Seat

abbrev pub answer_at : List Answer → ℕ → Answer
answer_at answers n = slice_index_or answers n NotAllowed

-- Call n posted the word to this item and line, and was done.
abbrev pub PostedAt : List Call → List Answer → ℕ → ℕ → ℕ → ℕ → Type 0
PostedAt calls answers n item line word = (n < length calls) × (call_at calls n ≡ Post item line word) × (answer_at answers n ≡ Done)

-- The word that the last accepted post before call n left for this item and line, or zero without one.
abbrev pub LastPosted : List Call → List Answer → ℕ → ℕ → ℕ → ℕ → Type 0
LastPosted calls answers n item line word =
    ((j : ℕ) × (j < n) × PostedAt calls answers j item line word × ((i w : ℕ) → j < i → i < n → PostedAt calls answers i item line w → ⊥))
    ⊎ ((word ≡ 0) × ((i w : ℕ) → i < n → PostedAt calls answers i item line w → ⊥))

module _ {K : Type 0} (s : Structure K) where
  -- A line of counts fits every bay that is then present, by the ledger.
  abbrev pub FitsPresent : Ledger → Meaning → ℕ → List ℕ → Type 0
  FitsPresent l m line items = (bay : ℕ) → bay < l.items + 4 → present l.switch l.behind bay ≡ true → slice_index (codeword s items) bay ≡ word_at s m line bay

  -- Two lines of counts fit every present bay and differ at the item.
  pub record Undecided (l : Ledger) (m : Meaning) (item line : ℕ) : Type 0 where
    pub one : List ℕ
    pub other : List ℕ
    pub one_line : Line s l.items one
    pub other_line : Line s l.items other
    pub one_fits : FitsPresent l m line one
    pub other_fits : FitsPresent l m line other
    pub differ : slice_index one item ≡ slice_index other item → ⊥

  -- The calls were made one by one, and after the start and after each of them the drawer and the rack were shown to a watcher:
  -- the drawers and racks that it was shown, what it was before each look, and at the end what is left. Four functions say what
  -- the ledger sees of drawers, racks and watchers; a record of them would stand above Type 0, since `sees` gives types.
  pub record History {D R W : Type 0} (knows : D → Known) (open_bay : D → Option ℕ) (meaning : R → Meaning) (sees : W → D → R → W → Type 0)
      (l : Ledger) (room : ℕ) (calls : List Call) (answers : List Answer) (w : W) (d' : D) (r' : R) (w' : W) : Type 0 where
    pub drawer : ℕ → D
    pub rack : ℕ → R
    pub watcher : ℕ → W
    pub first : watcher 0 ≡ w
    pub shown : (n : ℕ) → n ≤ length calls → sees (watcher n) (drawer n) (rack n) (watcher (n + 1))
    pub last_drawer : drawer (length calls) ≡ d'
    pub last_rack : rack (length calls) ≡ r'
    pub last_watcher : watcher (length calls + 1) ≡ w'
    pub many : length answers ≡ length calls
    -- after the start, and after each call: the book marks the bays that are behind, every other bay holds its word, each
    -- switch stands as the ledger has it
    pub stands : (n : ℕ) → n ≤ length calls → Stands s (after_all l room (take n calls)) (knows (drawer n)) (open_bay (drawer n)) (meaning (rack n))
    -- each call is accepted or refused, and answered, as the ledger then has it
    pub told : (n : ℕ) → n < length calls → answer_at answers n ≡ answer (after_all l room (take n calls)) room (call_at calls n)
    -- each word that a get gives is the last that an accepted post left, or zero
    pub words : (n item line word : ℕ) → n < length calls → call_at calls n ≡ Get item line → answer_at answers n ≡ Word word → LastPosted calls answers n item line word
    -- a get with good numbers is refused exactly when two lines fit every present bay and differ at the item
    pub refused : (n item line : ℕ) (why : Fault) → n < length calls → call_at calls n ≡ Get item line → answer_at answers n ≡ Refused why
        → why_cell (known (after_all l room (take n calls))) (front (after_all l room (take n calls))) room item line ≡ None
        → Undecided (after_all l room (take n calls)) (meaning (rack n)) item line
    pub answered : (n item line : ℕ) → n < length calls → call_at calls n ≡ Get item line → open_bay (drawer n) ≡ None
        → why_cell (known (after_all l room (take n calls))) (front (after_all l room (take n calls))) room item line ≡ None
        → Undecided (after_all l room (take n calls)) (meaning (rack n)) item line
        → (why : Fault) × (answer_at answers n ≡ Refused why)
