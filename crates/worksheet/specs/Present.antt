-- Which bays are present, and which of these have the highest numbers. Assumes nothing.
use Rattle.std.specs.Prelude.{ℕ, ◌+◌, ◌-◌, Bool, not, ◌&&◌, nat_lt}
use Rattle.codeword.specs.Sums.{count}

-- A bay is present if it answers, which it does while its switch is on, and is not behind; otherwise it is absent.
abbrev pub present : (ℕ → Bool) → (ℕ → Bool) → ℕ → Bool
present switch behind bay = switch bay && not (behind bay)

abbrev pub absent : (ℕ → Bool) → (ℕ → Bool) → ℕ → Bool
absent switch behind bay = not (present switch behind bay)

-- How many of so many bays are absent.
abbrev pub absences : (ℕ → Bool) → (ℕ → Bool) → ℕ → ℕ
absences switch behind bays = count (absent switch behind) bays

-- How many bays above this one pass the test, counted down from the top one.
abbrev pub above : (ℕ → Bool) → ℕ → ℕ → ℕ
above test bays bay = count (λ j. test (bays - 1 - j)) (bays - 1 - bay)

-- Of the bays of a line of n counts that pass the test, one of the n with the highest numbers.
abbrev pub highest : ℕ → (ℕ → Bool) → ℕ → Bool
highest n test bay = test bay && nat_lt (above test (n + 4) bay) n
