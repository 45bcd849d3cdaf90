-- Which sizes a plain rack may have, and what it means when it is made. Assumes nothing.
use Rattle.std.specs.Prelude.{ℕ, ◌*◌, Bool, cond, ◌&&◌, List, Ok, Err, Result, ◌==◌, nat_le, nat_lt}
use Rattle.fault.specs.declared.fault.RackFault.{RackFault}
use Rattle.fault.specs.declared.fault.RackFault.TheVariants.{BadShape}
use Rattle.rack.specs.Meaning.{Meaning, most_bays, most_lines}
use Rattle.plain_rack.specs.Plain.{word_in}
use Rattle.plain_rack.specs.declared.parts.PlainShape.{PlainShape}

-- 1 to 260 bays, 1 to 64 lines, and a word for each bay and line.
abbrev pub well_shaped : ℕ → ℕ → ℕ → Bool
well_shaped bays lines words = nat_le 1 bays && (nat_le bays most_bays && (nat_le 1 lines && (nat_le lines most_lines && words == bays * lines)))

pub record Sizes : Type 0 where
  pub bays : ℕ
  pub lines : ℕ

abbrev pub shape_answer : ℕ → ℕ → ℕ → Result Sizes RackFault
shape_answer bays lines words = cond (well_shaped bays lines words) (Ok record { bays = bays; lines = lines }) (Err (BadShape words))

-- The sizes of the shape that a check accepted, or its refusal.
abbrev pub sizes : Result PlainShape RackFault → Result Sizes RackFault
sizes (Ok shape) = Ok record { bays = shape.bays; lines = shape.lines }
sizes (Err f) = Err f

-- All switches on, over these words.
abbrev pub fresh : ℕ → ℕ → List ℕ → Meaning
fresh bays lines ws = record {
  bays = bays;
  lines = lines;
  switch = λ bay. nat_lt bay bays;
  word = word_in bays lines ws;
}
