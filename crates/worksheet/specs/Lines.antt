-- The restored line of a rack, and when a line is not restored. Assumes nothing.
use Rattle.std.specs.Prelude.{◌≡◌, ℕ, ◌+◌, ◌-◌, ◌%◌, ◌<◌, Bool, true, false, ◌||◌, List, length, take, Option, nat_le, nat_lt, slice_index, slice_index_or}
use Rattle.fault.specs.Refusing.{when, or_else}
use Rattle.fault.specs.declared.fault.BookFault.{BookFault}
use Rattle.fault.specs.declared.fault.BookFault.TheVariants.{ItemCount, ListLength, NoLine, TooManyAbsent}
use Rattle.field.specs.Structure.{Structure, size}
use Rattle.codeword.specs.Codeword.{words, codeword, Line}
use Rattle.rack.specs.Meaning.{Meaning}
use Rattle.worksheet.specs.Present.{present, absences, highest}

-- The bays that a list marks as behind.
abbrev pub marked : List Bool → ℕ → Bool
marked marks bay = slice_index_or marks bay false

module _ {K : Type 0} (s : Structure K) where
  -- The word of a bay as a count word: one of q·q or above counts as its remainder.
  abbrev pub word_at : Meaning → ℕ → ℕ → ℕ
  word_at m line bay = m.word bay line % words s

  -- The restored line: the line of n counts that fits the n present bays with the highest numbers.
  pub record RestoredLine (n : ℕ) (here : ℕ → Bool) (word : ℕ → ℕ) (items : List ℕ) : Type 0 where
    pub line : Line s n items
    pub fits : (bay : ℕ) → bay < n + 4 → highest n here bay ≡ true → slice_index (codeword s items) bay ≡ word bay

  -- The first places of a worksheet hold the codeword of the restored line.
  pub record Holds (n : ℕ) (here : ℕ → Bool) (word : ℕ → ℕ) (before after : List ℕ) : Type 0 where
    pub items : List ℕ
    pub restored : RestoredLine n here word items
    pub long : length after ≡ length before
    pub front : take (n + 4) after ≡ codeword s items

  -- Why the line of a rack is not restored: the rack's bays are too few or too many for a line, the worksheet is shorter
  -- than they are, the rack has no such line, or more than four bays are absent.
  abbrev pub why_unrestored : Meaning → (ℕ → Bool) → ℕ → ℕ → Option BookFault
  why_unrestored m behind room line =
      or_else (when (nat_lt m.bays 5 || nat_lt (size s + 4) m.bays) (ItemCount m.bays))
      (or_else (when (nat_lt room m.bays) (ListLength room))
      (or_else (when (nat_le m.lines line) (NoLine line))
      (when (nat_lt 4 (absences m.switch behind m.bays)) (TooManyAbsent (absences m.switch behind m.bays)))))

  -- The restored line of a rack stands on the worksheet.
  abbrev pub OnSheet : Meaning → (ℕ → Bool) → ℕ → List ℕ → List ℕ → Type 0
  OnSheet m behind line before after = Holds (m.bays - 4) (present m.switch behind) (word_at m line) before after
