-- What a frame asks of the runner in a phase. Assumes nothing.
use Rattle.std.specs.Prelude.{ℕ, Bool, true, false, cond, length, Some, None, Ok, Err, Option}
use Rattle.fault.specs.declared.fault.Fault.TheVariants.{File}
use Rattle.call.specs.declared.Call.{Call}
use Rattle.call.specs.declared.Call.TheVariants.{Post, Get, Off, On, Release, Seat, Mend}
use Rattle.frame.specs.Format.{start, call, note, unknown}
use Rattle.frame.specs.Reading.{Answer as Heard}
use Rattle.replies.specs.Lines.{Said, said, note as noted, skip, refused}
use Rattle.round.specs.declared.tasks.Phase.{Phase}
use Rattle.round.specs.declared.tasks.Phase.TheVariants.{Waiting, Closed, Open}
use Rattle.round.specs.declared.tasks.Task.{Task}
use Rattle.round.specs.declared.tasks.Task.TheVariants.{Start, Call as CallTask, Reply}
use Rattle.round.specs.Replies.{not_now}

-- A task, with the bytes themselves where the program borrows them.
pub data Asked : Type 0 where
  open_hall : (items lines field : ℕ) → Asked
  make : Call → Asked
  say : Said → Asked

abbrev pub asked : Task → Asked
asked (Start size field) = open_hall size.items size.lines field
asked (CallTask c) = make c
asked (Reply r) = say (said r)

-- The calls that a phase allows: none before a start, seat with an open drawer, get, post, mend and release with a closed one.
abbrev pub allowed : Phase → Call → Bool
allowed Waiting c = false
allowed Closed (Post item line word) = true
allowed Closed (Get item line) = true
allowed Closed (Off bay) = true
allowed Closed (On bay) = true
allowed Closed (Release bay) = true
allowed Closed Seat = false
allowed Closed (Mend bay) = true
allowed Open (Post item line word) = false
allowed Open (Get item line) = false
allowed Open (Off bay) = true
allowed Open (On bay) = true
allowed Open (Release bay) = false
allowed Open Seat = true
allowed Open (Mend bay) = false

-- A start is allowed before an accepted one.
abbrev pub start_task : Phase → ℕ → ℕ → ℕ → ℕ → Asked
start_task Waiting offset items lines field = open_hall items lines field
start_task Closed offset items lines field = say (not_now offset)
start_task Open offset items lines field = say (not_now offset)

abbrev pub task : Phase → ℕ → Heard → Asked
task phase offset (Ok (start items lines field)) = start_task phase offset items lines field
task phase offset (Ok (call c)) = cond (allowed phase c) (make c) (say (not_now offset))
task phase offset (Ok (note text)) = say (noted text)
task phase offset (Ok (unknown kind body)) = say (skip (length body))
task phase offset (Err fault) = say (refused (File fault))

-- The phase of a bank whose drawer is open or closed.
abbrev pub phase_of : Option ℕ → Phase
phase_of None = Closed
phase_of (Some bay) = Open
