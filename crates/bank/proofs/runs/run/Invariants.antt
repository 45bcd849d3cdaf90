use Rattle.std.proofs.Common.{◌≡◌, ◌≤◌, length, take, vec_items, vec_len, vec_capacity}
use Rattle.field.specs.Structure.{size}
use Rattle.ledger.specs.Stands.{Sound}
use Rattle.ledger.specs.Runs.{History}
use Rattle.bank.specs.Drawers.{known_of, open_bay}
use Rattle.bank.proofs.Starts.{first_of}
use Rattle.bank.proofs.runs.run.Given as goal

-- the history so far, from whatever the watcher was before its first look
abbrev pub invariant-loop-call : goal.invariant-loop-call
invariant-loop-call g l =
    let s = g.F.Field.structure in
    let meaning = g.R.Reading.meaning in
    let sees = g.W.Watch.sees in
    record {
      many : vec_len l.answers ≡ l.call-index;
      room : length l.calls ≤ vec_capacity l.answers;
      long : length l.sheet ≡ length l.initial.sheet;
      sound : Sound s (first_of (size s) l.items (meaning l.initial.rack));
      history : (w : g.row.W.Denot) → sees w l.initial.drawer l.initial.rack l.initial.watch
          → History s known_of open_bay meaning sees (first_of (size s) l.items (meaning l.initial.rack)) (length l.initial.sheet) (take l.call-index l.calls) (vec_items l.answers) w l.drawer l.rack l.watch;
    }
