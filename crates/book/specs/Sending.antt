-- The steps of a start and of a post. Assumes nothing.
use Rattle.std.specs.Prelude.{◌≡◌, ℕ, ◌+◌, Bool, cond, not, ◌&&◌, ◌||◌, List, take, nat_lt, slice_set}
use Rattle.field.specs.Structure.{Structure}
use Rattle.codeword.specs.Codeword.{codeword, Line}
use Rattle.rack.specs.Meaning.{Meaning}
use Rattle.worksheet.specs.Present.{present}
use Rattle.rules.specs.Known.{Known, with_behind}
use Rattle.rules.specs.Effects.{with_line}

-- Of the bays that are concerned each present one holds its word in the line, and each silent one is behind.
pub record Sent (k : Known) (m : Meaning) (concerned : ℕ → Bool) (line : ℕ) (word : ℕ → ℕ) (k' : Known) (m' : Meaning) : Type 0 where
  pub rack : m' ≡ with_line m (λ bay. concerned bay && present m.switch k.behind bay) line word
  pub book : k' ≡ with_behind k (λ bay. k.behind bay || (concerned bay && not (m.switch bay)))

-- A rack with zero in the cells that are chosen and answer.
abbrev pub wiped : Meaning → (ℕ → ℕ → Bool) → Meaning
wiped m chosen = record {
  bays = m.bays;
  lines = m.lines;
  switch = m.switch;
  word = λ bay line. cond (chosen bay line && m.switch bay) 0 (m.word bay line);
}

-- The silent ones of the first bays.
abbrev pub silent_below : (ℕ → Bool) → ℕ → ℕ → Bool
silent_below switch bays bay = nat_lt bay bays && not (switch bay)

-- Whatever line's codeword stood on the worksheet, the one with another item stands there.
abbrev pub Revised : {K : Type 0} → Structure K → ℕ → ℕ → ℕ → List ℕ → List ℕ → Type 0
Revised s n item word before after =
    (items : List ℕ) → Line s n items → take (n + 4) before ≡ codeword s items → take (n + 4) after ≡ codeword s (slice_set items item word)
