-- Frames as text. Assumes nothing.
use Rattle.std.specs.Prelude.{ℕ, cond, ◌&&◌, List, ◌++◌, map, length, codes, decimal, nat_le}
use Rattle.call.specs.declared.Call.TheVariants.{Post, Get, Off, On, Release, Seat, Mend}
use Rattle.frame.specs.Format.{Content, start, call, note, unknown}

-- A byte of a note as it is printed: itself from 32 to 126, else a full stop.
abbrev pub visible : ℕ → ℕ
visible byte = cond (nat_le 32 byte && nat_le byte 126) byte 46

-- The numbers, a space between them.
abbrev pub pair_text : ℕ → ℕ → List ℕ
pair_text x y = decimal x ++ (codes " " ++ decimal y)

abbrev pub three_text : ℕ → ℕ → ℕ → List ℕ
three_text x y z = decimal x ++ (codes " " ++ pair_text y z)

abbrev pub says : Content → List ℕ
says (start items lines field) = codes "start " ++ three_text items lines field
says (call (Post item line word)) = codes "post " ++ three_text item line word
says (call (Get item line)) = codes "get " ++ pair_text item line
says (call (Off bay)) = codes "off " ++ decimal bay
says (call (On bay)) = codes "on " ++ decimal bay
says (call (Release bay)) = codes "release " ++ decimal bay
says (call Seat) = codes "seat"
says (call (Mend bay)) = codes "mend " ++ decimal bay
says (note text) = codes "note " ++ map visible text
says (unknown kind body) = codes "skip " ++ decimal (length body)
