-- What two racks side by side mean, and where a bay of the whole lies in them. Assumes nothing.
use Rattle.std.specs.Prelude.{ℕ, ◌+◌, ◌-◌, cond, Ok, Err, Result, nat_le, nat_lt}
use Rattle.fault.specs.declared.fault.RackFault.{RackFault}
use Rattle.fault.specs.declared.fault.RackFault.TheVariants.{NoBay, NoLine, Silent, BadShape, NoJoin}
use Rattle.rack.specs.Meaning.{Meaning}
use Rattle.rack.specs.Calls.{answer, bay_refusal}
use Rattle.joined_rack.specs.declared.pair.JoinedRack.{JoinedRack}
use Rattle.joined_rack.specs.declared.pair.Part.{Part}
use Rattle.joined_rack.specs.declared.pair.Part.TheVariants.{First, Second}

-- Two racks side by side: the bays of m and then those of n, so that bay b of n is bay b plus the bays of m. A line past the lines holds 0.
abbrev pub beside : Meaning → Meaning → Meaning
beside m n = record {
  bays = m.bays + n.bays;
  lines = m.lines;
  switch = λ bay. cond (nat_lt bay m.bays) (m.switch bay) (n.switch (bay - m.bays));
  word = λ bay line. cond (nat_lt line m.lines) (cond (nat_lt bay m.bays) (m.word bay line) (n.word (bay - m.bays) line)) 0;
}

-- What a joined rack means, by what its parts mean.
abbrev pub joined_meaning : {F S : Type 0} {f : _} {s : _} → (F → Meaning) → (S → Meaning) → JoinedRack F S f s → Meaning
joined_meaning first second x = beside (first x.first) (second x.second)

-- The rack that a bay of the whole lies in, and its number there.
abbrev pub part_of : Meaning → ℕ → Part
part_of m bay = cond (nat_lt bay m.bays) (First bay) (Second (bay - m.bays))

abbrev pub bay_place : Meaning → Meaning → ℕ → Result Part RackFault
bay_place m n bay = answer (bay_refusal (beside m n) bay) (part_of m bay)

-- As bay_place, where the line is tested too, and not whether the bay answers.
abbrev pub cell_place : Meaning → Meaning → ℕ → ℕ → Result Part RackFault
cell_place m n bay line =
    cond (nat_le (beside m n).bays bay) (Err (NoBay bay))
    (cond (nat_le (beside m n).lines line) (Err (NoLine line)) (Ok (part_of m bay)))

-- The same fault, where it names a bay, of this bay.
abbrev pub at_bay : RackFault → ℕ → RackFault
at_bay (NoBay inner) bay = NoBay bay
at_bay (NoLine line) bay = NoLine line
at_bay (Silent inner) bay = Silent bay
at_bay (BadShape words) bay = BadShape words
at_bay (NoJoin bays) bay = NoJoin bays

abbrev pub naming_bay : {A : Type 0} → Result A RackFault → ℕ → Result A RackFault
naming_bay (Ok x) bay = Ok x
naming_bay (Err f) bay = Err (at_bay f bay)
