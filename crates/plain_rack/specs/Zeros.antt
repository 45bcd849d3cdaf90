-- What the making of a rack of zeros gives. Assumes nothing.
use Rattle.std.specs.Prelude.{◌≡◌, ℕ, ◌-◌, ◌*◌, ◌^◌, min, Ok, Err, Result, replicate}
use Rattle.rack.specs.declared.error.RackError.{RackError}
use Rattle.rack.specs.declared.error.RackError.TheVariants.{Refused, NoMemory}
use Rattle.plain_rack.specs.declared.parts.PlainRack.{PlainRack}
use Rattle.plain_rack.specs.Plain.{plain_meaning}
use Rattle.plain_rack.specs.Shape.{shape_answer, fresh}

-- A word for each bay and line; of a product that a machine word does not hold, the largest number that it does.
abbrev pub words_for : ℕ → ℕ → ℕ
words_for bays lines = min (bays * lines) (2 ^ 64 - 1)

-- A rack of zeros where a rack can have these sizes, unless there is no memory; otherwise the refusal of the check.
abbrev pub Zeros : ℕ → ℕ → Result PlainRack RackError → Type 0
Zeros bays lines (Ok rack) = (shape_answer bays lines (words_for bays lines) ≡ Ok record { bays = bays; lines = lines }) × (plain_meaning rack ≡ fresh bays lines (replicate (bays * lines) 0))
Zeros bays lines (Err (Refused f)) = shape_answer bays lines (words_for bays lines) ≡ Err f
Zeros bays lines (Err (NoMemory error)) = shape_answer bays lines (words_for bays lines) ≡ Ok record { bays = bays; lines = lines }
