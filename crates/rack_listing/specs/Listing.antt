-- What a listing of a line holds, and when a line has none. Assumes nothing.
use Rattle.std.specs.Prelude.{◌≡◌, ℕ, ◌<◌, ◌≤◌, List, map, Ok, Err, vec_items, Option, Result}
use Rattle.std.specs.List.{range_with_len}
use Rattle.std.specs.Global.{Vec}
use Rattle.fault.specs.declared.fault.RackFault.TheVariants.{NoLine}
use Rattle.rack.specs.declared.error.RackError.{RackError}
use Rattle.rack.specs.declared.error.RackError.TheVariants.{Refused, NoMemory}
use Rattle.rack.specs.Meaning.{Meaning}
use Rattle.rack.specs.Calls.{entry_of}

-- The entries of the first n bays.
abbrev pub entries : Meaning → ℕ → ℕ → List (Option ℕ)
entries m line n = map (entry_of m line) (range_with_len 0 n)

-- A listing has an entry for each bay. A line that the rack does not have is refused, and no other unless there is no memory.
abbrev pub Listed : Meaning → ℕ → Result (Vec (Option ℕ)) RackError → Type 0
Listed m line (Ok v) = (line < m.lines) × (vec_items v ≡ entries m line m.bays)
Listed m line (Err (Refused f)) = (m.lines ≤ line) × (f ≡ NoLine line)
Listed m line (Err (NoMemory error)) = line < m.lines
