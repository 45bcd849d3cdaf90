-- What a rack means, and the ranges within which that lies. Assumes nothing.
use Rattle.std.specs.Prelude.{ℕ, ◌^◌, ◌<◌, ◌≤◌, Bool}

-- A rack has bays and, in each bay, lines. A bay has a switch, and for each line a word.
pub record Meaning : Type 0 where
  pub bays : ℕ
  pub lines : ℕ
  pub switch : ℕ → Bool
  pub word : ℕ → ℕ → ℕ

abbrev pub most_bays : ℕ
most_bays = 260

abbrev pub most_lines : ℕ
most_lines = 64

-- 1 to 260 bays, 1 to 64 lines, and words of 16 bits.
pub record InRange (m : Meaning) : Type 0 where
  pub some_bays : 1 ≤ m.bays
  pub few_bays : m.bays ≤ most_bays
  pub some_lines : 1 ≤ m.lines
  pub few_lines : m.lines ≤ most_lines
  pub words : (bay line : ℕ) → bay < m.bays → line < m.lines → m.word bay line < 2 ^ 16

-- A bay answers exactly while its switch is on.
abbrev pub answers : Meaning → ℕ → Bool
answers m bay = m.switch bay
