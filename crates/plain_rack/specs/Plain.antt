-- What a plain rack means, and where its words lie. Assumes nothing.
use Rattle.std.specs.Prelude.{ℕ, ◌+◌, ◌*◌, ◌%◌, ◌^◌, Bool, false, cond, ◌&&◌, List, vec_items, nat_lt, slice_index, slice_index_or}
use Rattle.rack.specs.Meaning.{Meaning}
use Rattle.plain_rack.specs.declared.parts.PlainRack.{PlainRack}

-- The place of the word of a bay and a line.
abbrev pub place_of : ℕ → ℕ → ℕ → ℕ
place_of lines bay line = bay * lines + line

-- The word of a bay and a line in a list of 16-bit words. A bay or a line that the rack does not have holds 0.
abbrev pub word_in : ℕ → ℕ → List ℕ → ℕ → ℕ → ℕ
word_in bays lines ws bay line = cond (nat_lt bay bays && nat_lt line lines) (slice_index ws (place_of lines bay line) % 2 ^ 16) 0

-- The words of a bay after an exchange.
abbrev pub blank : ℕ → ℕ
blank line = 65535

-- A rack of these sizes, with these switches and words.
abbrev pub rack_of : ℕ → ℕ → List Bool → List ℕ → Meaning
rack_of bays lines ss ws = record {
  bays = bays;
  lines = lines;
  switch = λ bay. nat_lt bay bays && slice_index_or ss bay false;
  word = word_in bays lines ws;
}

abbrev pub plain_meaning : PlainRack → Meaning
plain_meaning p = rack_of p.shape.bays p.shape.lines p.switches (vec_items p.words)
