-- The words that the program begins with, and what the rack of three plain ones means. Assumes nothing.
use Rattle.std.specs.Prelude.{ℕ, ◌+◌, ◌%◌, ◌^◌, List, map}
use Rattle.std.specs.List.{range_with_len}
use Rattle.rack.specs.Meaning.{Meaning}
use Rattle.plain_rack.specs.declared.parts.PlainRack.{PlainRack}
use Rattle.plain_rack.specs.Plain.{plain_meaning}
use Rattle.plain_rack.specs.Shape.{fresh}
use Rattle.joined_rack.specs.declared.pair.JoinedRack.{JoinedRack}
use Rattle.joined_rack.specs.Beside.{beside, joined_meaning}

-- n words from base up, past 65535 again from 0.
abbrev pub counted : ℕ → ℕ → List ℕ
counted base n = map (λ i. (base + i) % 2 ^ 16) (range_with_len 0 n)

abbrev pub hall_meaning : {p q r s : _} → JoinedRack PlainRack (JoinedRack PlainRack PlainRack p q) r s → Meaning
hall_meaning = joined_meaning plain_meaning (joined_meaning plain_meaning plain_meaning)

-- Two bays of three lines over each list, side by side.
abbrev pub three : List ℕ → List ℕ → List ℕ → Meaning
three a b c = beside (fresh 2 3 a) (beside (fresh 2 3 b) (fresh 2 3 c))
