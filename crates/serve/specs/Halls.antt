-- The racks of a hall as it opens, and why it does not. Assumes nothing.
use Rattle.std.specs.Prelude.{◌≡◌, ℕ, ◌+◌, Some, Option, nat_lt}
use Rattle.fault.specs.declared.fault.Fault.{Fault}
use Rattle.fault.specs.declared.fault.Fault.TheVariants.{Rack}
use Rattle.rack.specs.Meaning.{Meaning}
use Rattle.rack.specs.declared.error.RackError.{RackError}
use Rattle.rack.specs.declared.error.RackError.TheVariants.{Refused as RackRefused, NoMemory}
use Rattle.joined_rack.specs.Beside.{joined_meaning}
use Rattle.joined_rack.specs.declared.pair.JoinedRack.{JoinedRack}
use Rattle.plain_rack.specs.Plain.{plain_meaning}
use Rattle.plain_rack.specs.declared.parts.PlainRack.{PlainRack}
use Rattle.serve.specs.declared.serving.NotServed.{NotServed}
use Rattle.serve.specs.declared.serving.NotServed.TheVariants.{Memory, Refused}

abbrev pub hall_meaning : {first second : _} → JoinedRack PlainRack PlainRack first second → Meaning
hall_meaning = joined_meaning plain_meaning plain_meaning

-- Four bays and one for each item, with all switches on and all words zero.
abbrev pub new_hall : ℕ → ℕ → Meaning
new_hall items lines = record { bays = items + 4; lines = lines; switch = λ bay. nat_lt bay (items + 4); word = λ bay line. 0 }

-- Why there is no hall, where one of its racks was not made.
abbrev pub unmade : RackError → NotServed
unmade (RackRefused fault) = Refused (Rack fault)
unmade (NoMemory error) = Memory error

-- It was refused by this, or there was no memory.
abbrev pub Unserved : Option Fault → Type 0 → NotServed → Type 0
Unserved why same (Memory error) = Unit {0}
Unserved why same (Refused fault) = (why ≡ Some fault) × same
