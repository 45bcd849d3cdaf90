-- What writing a frame gives, and that it can be read back. Assumes nothing.
use Rattle.std.specs.Prelude.{◌≡◌, ℕ, true, false, List, ◌++◌, Some, Ok, Err, vec_items, Result, Vec}
use Rattle.std.specs.declared.alloc.Global.{Global}
use Rattle.frame.specs.declared.encode.WriteFault.{WriteFault}
use Rattle.frame.specs.declared.encode.WriteFault.TheVariants.{Improper, Memory}
use Rattle.frame.specs.Format.{Content, bytes_of, proper}
use Rattle.frame.specs.Reading.{step}

-- The bytes are the frame's, or the refusal says why there are none.
abbrev pub Written : Content → Result (Vec ℕ Global) WriteFault → Type 0
Written c (Ok v) = (proper c ≡ true) × (vec_items v ≡ bytes_of c)
Written c (Err Improper) = proper c ≡ false
Written c (Err Memory) = proper c ≡ true

-- Wherever the bytes stand in a file, they are read as this frame, and what stands behind them is left.
abbrev pub ReadsBack : Content → List ℕ → Type 0
ReadsBack c bytes = (offset : ℕ) (rest : List ℕ) → step offset (bytes ++ rest) ≡ record { answer = Some (Ok c); rest = rest }
