-- What a line says. Assumes nothing.
use Rattle.std.specs.Prelude.{◌≡◌, ℕ, ◌<◌, ◌≤◌, true, List, length, Some, Option}
use Rattle.call.specs.declared.Call.TheVariants.{Post, Get, Off, On, Release, Seat, Mend}
use Rattle.frame.specs.Format.{Content, start, call, note, unknown}
use Rattle.listing.specs.Text.{says}
use Rattle.parsing.specs.Splits.{within}

-- The text of a note: 1 to 60 characters from 32 to 126.
pub record NoteText (text : List ℕ) : Type 0 where
  pub some : 1 ≤ length text
  pub short : length text ≤ 60
  pub printable : within 32 126 text ≡ true

-- What a line can say: a call with numbers of two bytes, or a note. A frame of an unknown kind has no line.
abbrev pub Sayable : Content → Type 0
Sayable (start items lines field) = (items < 65536) × (lines < 65536) × (field < 65536)
Sayable (call (Post item line word)) = (item < 65536) × (line < 65536) × (word < 65536)
Sayable (call (Get item line)) = (item < 65536) × (line < 65536)
Sayable (call (Off bay)) = bay < 65536
Sayable (call (On bay)) = bay < 65536
Sayable (call (Release bay)) = bay < 65536
Sayable (call Seat) = Unit {0}
Sayable (call (Mend bay)) = bay < 65536
Sayable (note text) = NoteText text
Sayable (unknown kind body) = ⊥

-- The line is the frame, printed.
pub record Says (line : List ℕ) (c : Content) : Type 0 where
  pub sayable : Sayable c
  pub text : line ≡ says c

-- What stands behind the name of a note.
abbrev pub Noted : Option (List ℕ) → List ℕ → Type 0
Noted rest text = NoteText text × (rest ≡ Some text)
