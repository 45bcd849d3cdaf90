-- A rack's error as text. Assumes nothing.
use Rattle.std.specs.Prelude.{ℕ, List, codes}
use Rattle.fault.specs.Table.{row, printed}
use Rattle.fault.specs.declared.fault.Fault.TheVariants.{Rack}
use Rattle.rack.specs.declared.error.RackError.{RackError}
use Rattle.rack.specs.declared.error.RackError.TheVariants.{Refused, NoMemory}

abbrev pub printed_error : RackError → List ℕ
printed_error (Refused fault) = printed (row (Rack fault))
printed_error (NoMemory error) = codes "memory allocation failed"
