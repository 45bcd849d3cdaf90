-- What each call of a rack refuses by, what it answers, and what the rack means after it. Assumes nothing.
use Rattle.std.specs.Prelude.{ℕ, Bool, true, cond, ◌&&◌, Some, None, Ok, Err, Option, Result, ◌==◌, nat_le, nat_lt}
use Rattle.fault.specs.declared.fault.RackFault.{RackFault}
use Rattle.fault.specs.declared.fault.RackFault.TheVariants.{NoBay, NoLine, Silent}
use Rattle.rack.specs.Meaning.{Meaning, answers}

-- What a call with a bay refuses by.
abbrev pub bay_refusal : Meaning → ℕ → Option RackFault
bay_refusal m bay = cond (nat_le m.bays bay) (Some (NoBay bay)) None

-- What a call with a bay and a line refuses by: the first of these that holds.
abbrev pub cell_refusal : Meaning → ℕ → ℕ → Option RackFault
cell_refusal m bay line =
    cond (nat_le m.bays bay) (Some (NoBay bay))
    (cond (nat_le m.lines line) (Some (NoLine line))
    (cond (answers m bay) None (Some (Silent bay))))

-- The answer x, or the refusal.
abbrev pub answer : {A : Type 0} → Option RackFault → A → Result A RackFault
answer None x = Ok x
answer (Some f) x = Err f

-- What the rack means after a call: n where it is accepted, and m, as before it, where it is refused.
abbrev pub after : Option RackFault → Meaning → Meaning → Meaning
after None m n = n
after (Some f) m n = m

-- One word set.
abbrev pub with_word : Meaning → ℕ → ℕ → ℕ → Meaning
with_word m bay line w = record {
  bays = m.bays;
  lines = m.lines;
  switch = m.switch;
  word = λ b l. cond (b == bay && l == line) w (m.word b l);
}

-- One switch set.
abbrev pub with_switch : Meaning → ℕ → Bool → Meaning
with_switch m bay s = record {
  bays = m.bays;
  lines = m.lines;
  switch = λ b. cond (b == bay) s (m.switch b);
  word = m.word;
}

-- One bay on, with the words ws in its lines.
abbrev pub with_bay : Meaning → ℕ → (ℕ → ℕ) → Meaning
with_bay m bay ws = record {
  bays = m.bays;
  lines = m.lines;
  switch = λ b. cond (b == bay) true (m.switch b);
  word = λ b l. cond (b == bay && nat_lt l m.lines) (ws l) (m.word b l);
}

abbrev pub read_answer : Meaning → ℕ → ℕ → Result ℕ RackFault
read_answer m bay line = answer (cell_refusal m bay line) (m.word bay line)

-- What a bay holds in a line: its word if it answers.
abbrev pub entry_of : Meaning → ℕ → ℕ → Option ℕ
entry_of m line bay = cond (answers m bay) (Some (m.word bay line)) None

abbrev pub entry_answer : Meaning → ℕ → ℕ → Result (Option ℕ) RackFault
entry_answer m line bay = cond (nat_le m.bays bay) (Err (NoBay bay)) (cond (nat_le m.lines line) (Err (NoLine line)) (Ok (entry_of m line bay)))

abbrev pub write_answer : Meaning → ℕ → ℕ → Result (Unit {0}) RackFault
write_answer m bay line = answer (cell_refusal m bay line) tt

abbrev pub write_after : Meaning → ℕ → ℕ → ℕ → Meaning
write_after m bay line w = after (cell_refusal m bay line) m (with_word m bay line w)

-- Of switch, off, on and exchange.
abbrev pub switch_answer : Meaning → ℕ → Result (Unit {0}) RackFault
switch_answer m bay = answer (bay_refusal m bay) tt

abbrev pub switch_after : Meaning → ℕ → Bool → Meaning
switch_after m bay s = after (bay_refusal m bay) m (with_switch m bay s)

abbrev pub exchange_after : Meaning → ℕ → (ℕ → ℕ) → Meaning
exchange_after m bay ws = after (bay_refusal m bay) m (with_bay m bay ws)
