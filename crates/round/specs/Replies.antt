-- The replies to the frames of a round file: what a ledger tells from the frames alone. Assumes nothing.
use Rattle.std.specs.Prelude.{ℕ, ◌+◌, ◌*◌, not, ◌||◌, List, [], ◌∷◌, ◌++◌, length, Some, None, Ok, Err, Option, ◌==◌, nat_lt, slice_index}
use Rattle.fault.specs.Refusing.{when, or_else}
use Rattle.fault.specs.declared.fault.FileFault.TheVariants.{NotNow, NoField}
use Rattle.fault.specs.declared.fault.BookFault.TheVariants.{ItemCount}
use Rattle.fault.specs.declared.fault.RackFault.TheVariants.{BadShape}
use Rattle.fault.specs.declared.fault.Fault.{Fault}
use Rattle.fault.specs.declared.fault.Fault.TheVariants.{File, Book, Rack}
use Rattle.call.specs.declared.Call.{Call}
use Rattle.frame.specs.Format.{start, call, note, unknown, number}
use Rattle.frame.specs.Reading.{Answer as Heard}
use Rattle.rack.specs.Meaning.{most_bays, most_lines}
use Rattle.ledger.specs.declared.Answer.{Answer}
use Rattle.ledger.specs.declared.Answer.TheVariants.{Done, Word, Refused, NotAllowed}
use Rattle.ledger.specs.Ledger.{Ledger, opening, answer, after}
use Rattle.replies.specs.Lines.{Said, done, word, note as noted, skip, refused}

-- A round waits for a start; after an accepted one its bank stands by a ledger.
pub data State : Type 0 where
  waiting : State
  serving : Ledger → State

-- How many words a worksheet has room for.
abbrev pub room : ℕ
room = most_bays

-- Why racks with so many bays are refused for their number of lines. The place is the number of their words.
abbrev pub why_lines : ℕ → ℕ → Option Fault
why_lines bays lines = when (lines == 0 || nat_lt most_lines lines) (Rack (BadShape (bays * lines)))

-- Why a hall over a field of q elements is refused.
abbrev pub why_hall : ℕ → ℕ → ℕ → Option Fault
why_hall q items lines = or_else (when (items == 0 || nat_lt q items) (Book (ItemCount items))) (why_lines (items + 4) lines)

-- Why a start is refused: the fields have 4, 16 and 256 elements.
abbrev pub why_open : ℕ → ℕ → ℕ → ℕ → Option Fault
why_open offset items lines field =
    or_else (when (not (field == 4 || (field == 16 || field == 256))) (File (NoField offset))) (why_hall field items lines)

-- A hall opens with the switches of all its bays on.
abbrev pub first_ledger : ℕ → ℕ → ℕ → Ledger
first_ledger q items lines = opening q items (record { bays = items + 4; lines = lines; switch = λ bay. nat_lt bay (items + 4) })

abbrev pub not_now : ℕ → Said
not_now offset = refused (File (NotNow offset))

abbrev pub opened_reply : Option Fault → Said
opened_reply None = done
opened_reply (Some fault) = refused fault

abbrev pub opened_state : Option Fault → Ledger → State
opened_state None l = serving l
opened_state (Some fault) l = waiting

-- The reply to a start.
abbrev pub start_reply : State → ℕ → ℕ → ℕ → ℕ → Said
start_reply waiting offset items lines field = opened_reply (why_open offset items lines field)
start_reply (serving l) offset items lines field = not_now offset

abbrev pub start_next : State → ℕ → ℕ → ℕ → ℕ → State
start_next waiting offset items lines field = opened_state (why_open offset items lines field) (first_ledger field items lines)
start_next (serving l) offset items lines field = serving l

-- The reply to a call is the ledger's answer.
abbrev pub answer_reply : ℕ → Answer → Said
answer_reply offset Done = done
answer_reply offset (Word w) = word w
answer_reply offset (Refused fault) = refused fault
answer_reply offset NotAllowed = not_now offset

abbrev pub call_reply : State → ℕ → Call → Said
call_reply waiting offset c = not_now offset
call_reply (serving l) offset c = answer_reply offset (answer l room c)

abbrev pub call_next : State → Call → State
call_next waiting c = waiting
call_next (serving l) c = serving (after l room c)

-- The reply to a frame at an offset, and the state after it.
abbrev pub reply : State → ℕ → Heard → Said
reply st offset (Ok (start items lines field)) = start_reply st offset items lines field
reply st offset (Ok (call c)) = call_reply st offset c
reply st offset (Ok (note text)) = noted text
reply st offset (Ok (unknown kind body)) = skip (length body)
reply st offset (Err fault) = refused (File fault)

abbrev pub next : State → ℕ → Heard → State
next st offset (Ok (start items lines field)) = start_next st offset items lines field
next st offset (Ok (call c)) = call_next st c
next st offset (Ok (note text)) = st
next st offset (Ok (unknown kind body)) = st
next st offset (Err fault) = st

-- Where the frame at an offset of a file ends: its first two bytes are the length of its body, after four bytes of head.
abbrev pub end_of : List ℕ → ℕ → ℕ
end_of file offset = offset + (4 + number (slice_index file offset) (slice_index file (offset + 1)))

-- The replies to the frames from an offset of a file on, by what the frames say. Each begins where the one before it ends.
abbrev pub replies : List ℕ → State → ℕ → List Heard → List Said
replies file st offset [] = []
replies file st offset (a ∷ more) = reply st offset a ∷ replies file (next st offset a) (end_of file offset) more

-- The calls among the frames.
abbrev pub call_in : Heard → List Call
call_in (Ok (start items lines field)) = []
call_in (Ok (call c)) = c ∷ []
call_in (Ok (note text)) = []
call_in (Ok (unknown kind body)) = []
call_in (Err fault) = []

abbrev pub calls : List Heard → List Call
calls [] = []
calls (a ∷ more) = call_in a ++ calls more
