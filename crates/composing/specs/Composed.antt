-- A round that is written as text, and the round file of its calls. Assumes nothing.
use Rattle.std.specs.Prelude.{◌≡◌, ℕ, ◌+◌, ◌<◌, ◌≤◌, Bool, true, false, not, List, [], ◌∷◌, ◌++◌, map, length, Ok, Err, vec_items, filter, Result, Vec, ◌==◌}
use Rattle.std.specs.List.{flat_map, slice_split, AllByRecursion}
use Rattle.std.specs.declared.alloc.Global.{Global}
use Rattle.frame.specs.Format.{Content, bytes_of}
use Rattle.listing.specs.Text.{says}
use Rattle.frame.specs.Laid.{Answered}
use Rattle.parsing.specs.Line.{Sayable, Says}
use Rattle.composing.specs.declared.ComposeError.{ComposeError}
use Rattle.composing.specs.declared.ComposeError.TheVariants.{Line, TooLong, Memory}

-- The lines of a text: byte 10 stands between them.
abbrev pub lines_of : List ℕ → List (List ℕ)
lines_of text = slice_split (λ byte. byte == 10) text

-- An empty line says nothing, and neither does a comment, which begins with `#`.
abbrev pub silent : List ℕ → Bool
silent [] = true
silent (byte ∷ bytes) = byte == 35

abbrev pub kept : List (List ℕ) → List (List ℕ)
kept lines = filter (λ line. not (silent line)) lines

-- The lines that say something are the texts of these frames, one for each, in their order.
pub record Told (lines : List (List ℕ)) (contents : List Content) : Type 0 where
  pub texts : kept lines ≡ map says contents
  pub sayable : AllByRecursion Sayable contents

-- Reading the file gives back the frames of the text, and no refusal. The text has these frames, and no others.
pub record Composed (text file : List ℕ) : Type 0 where
  pub contents : List Content
  pub told : Told (lines_of text) contents
  pub only : (others : List Content) → Told (lines_of text) others → others ≡ contents
  pub answered : Answered file (map (λ c. Ok c) contents)
  pub short : length file ≤ 32768

-- The line with this number, counted from 1, says something. The lines before it are texts of frames, for which a file has room.
pub record Reached (text : List ℕ) (number : ℕ) : Type 0 where
  pub before : List (List ℕ)
  pub line : List ℕ
  pub after : List (List ℕ)
  pub whole : lines_of text ≡ before ++ (line ∷ after)
  pub count : number ≡ length before + 1
  pub loud : silent line ≡ false
  pub contents : List Content
  pub told : Told before contents
  pub room : length (flat_map bytes_of contents) ≤ 32768

-- The line is the first that is the text of no frame.
pub record Bad (text : List ℕ) (number : ℕ) : Type 0 where
  pub reached : Reached text number
  pub bad : (c : Content) → Says reached.line c → ⊥

-- The line is the text of a frame, for which a file has no room any more.
pub record Overlong (text : List ℕ) (number : ℕ) : Type 0 where
  pub reached : Reached text number
  pub content : Content
  pub says : Says reached.line content
  pub long : 32768 < length (flat_map bytes_of reached.contents) + length (bytes_of content)

-- The bytes of the frame whose text the line is, or the line is the text of no frame, or there is no memory.
abbrev pub Made : List ℕ → ℕ → Result (Vec ℕ Global) ComposeError → Type 0
Made line number (Ok bytes) = (c : Content) × Says line c × (vec_items bytes ≡ bytes_of c)
Made line number (Err (Line at reason)) = (at ≡ number) × ((c : Content) → Says line c → ⊥)
Made line number (Err (TooLong at)) = ⊥
Made line number (Err Memory) = Unit {0}

abbrev pub Answers : List ℕ → Result (Vec ℕ Global) ComposeError → Type 0
Answers text (Ok file) = Composed text (vec_items file)
Answers text (Err (Line number reason)) = Bad text number
Answers text (Err (TooLong number)) = Overlong text number
Answers text (Err Memory) = Unit {0}
