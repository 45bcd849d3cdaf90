-- What a reader answers to each frame, and which bytes it leaves. Assumes nothing.
use Rattle.std.specs.Prelude.{◌≡◌, ℕ, List, [], ◌∷◌, drop, Some, None, Ok, Err, Option, Result}
use Rattle.std.specs.Option.{option_map, ok_or}
use Rattle.fault.specs.declared.fault.FileFault.{FileFault}
use Rattle.fault.specs.declared.fault.FileFault.TheVariants.{CutShort, BodyLength}
use Rattle.frame.specs.Format.{Content, content, Whole, front, size, meant}
use Rattle.frame.specs.declared.frame.Frame.{Frame}
use Rattle.frame.specs.declared.reader.Reader.{Reader}
use Rattle.frame.specs.declared.reader.next.RawFrame.{RawFrame}

-- The answer to a frame: what it says, or why it is refused.
abbrev pub Answer : Type 0
Answer = Result Content FileFault

-- One step of reading: the answer to the frame at the front, if there is a byte left, and the bytes that are then left.
pub record Step : Type 0 where
  pub answer : Option Answer
  pub rest : List ℕ

-- A whole frame is answered by what it says, or by a refusal where its body's length is wrong for its kind.
-- Where the frame is cut short, the run ends: no byte is left.
abbrev pub taken : ℕ → List ℕ → Option Whole → Step
taken offset bytes None = record { answer = Some (Err (CutShort offset)); rest = [] }
taken offset bytes (Some w) = record { answer = Some (ok_or (meant w.kind w.body) (BodyLength offset)); rest = drop (size w) bytes }

abbrev pub step : ℕ → List ℕ → Step
step offset [] = record { answer = None; rest = [] }
step offset (byte ∷ bytes) = taken offset (byte ∷ bytes) (front (byte ∷ bytes))

-- The program's values, with the bytes themselves where it borrows them.
abbrev pub raw : RawFrame → Whole
raw f = record { kind = f.kind; body = f.body.now }

abbrev pub told : Result Frame FileFault → Answer
told (Ok frame) = Ok (content frame)
told (Err fault) = Err fault

-- A reader by its file, and by the bytes from where its next frame begins.
abbrev pub file_of : Reader → List ℕ
file_of s = s.file.now

abbrev pub bytes_left : Reader → List ℕ
bytes_left s = drop s.offset (file_of s)

-- What one call of a reader's `next` does.
abbrev pub Steps : Reader → Option (Result Frame FileFault) → Reader → Type 0
Steps s r t = (file_of t ≡ file_of s) × (record { answer = option_map told r; rest = bytes_left t } ≡ step s.offset (bytes_left s))
