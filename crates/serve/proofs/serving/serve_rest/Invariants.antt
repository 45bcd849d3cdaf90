use Rattle.std.proofs.Common.{◌≡◌, ℕ, length, string_bytes}
use Rattle.bank.specs.Drawers.{known_of, open_bay}
use Rattle.ledger.specs.Ledger.{Ledger}
use Rattle.ledger.specs.Stands.{Sound, Stands}
use Rattle.round.specs.Replies.{room}
use Rattle.serve.proofs.Going.{Going}
use Rattle.serve.proofs.serving.serve_rest.Given as goal

-- for every ledger that the drawer and the rack stood by before the first frame
abbrev pub invariant-loop-placed : goal.invariant-loop-placed
invariant-loop-placed g l =
    let s = g.F.Field.structure in
    let meaning = g.R.Reading.meaning in
    let sees = g.W.Watch.sees in
    let old = l.initial in
    record {
      sheet : length l.sheet ≡ room;
      going : (k : Ledger) (w₀ : g.row.W.Denot) (sound : Sound s k) (new : (item line : ℕ) → k.count item line ≡ 0)
          → Stands s k (known_of old.drawer) (open_bay old.drawer) (meaning old.rack) → sees w₀ old.drawer old.rack old.watch
          → Going s known_of open_bay meaning sees k sound new old.placed-iterator (string_bytes old.text) w₀ l.drawer l.rack l.watch l.placed-iterator (string_bytes l.text);
    }
