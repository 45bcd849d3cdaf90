-- A round file is frames laid end to end, up to the first that is cut short. Assumes nothing.
use Rattle.std.specs.Prelude.{◌≡◌, ℕ, ◌+◌, List, [], ◌∷◌, ◌++◌, length, Err, ◌≢◌}
use Rattle.std.specs.Option.{ok_or}
use Rattle.fault.specs.declared.fault.FileFault.TheVariants.{CutShort, BodyLength}
use Rattle.frame.specs.Format.{framed, meant}
use Rattle.frame.specs.Reading.{Answer}

-- Some bytes are left, and no whole frame stands at their front.
pub record Cut (bytes : List ℕ) : Type 0 where
  pub some : bytes ≡ [] → ⊥
  pub short : (kind : ℕ) (body rest : List ℕ) → bytes ≢ framed kind body ++ rest

-- `Laid offset bytes answers`: the bytes stand at the offset of a file, and these are the answers to their frames, one for
-- each. Every frame begins where the one before it ends, so that no byte is passed over and none is read twice.
pub data Laid : ℕ → List ℕ → List Answer → Type 0 where
  ended : {offset : ℕ} {bytes : List ℕ} → bytes ≡ [] → Laid offset bytes []
  cut : {offset : ℕ} {bytes : List ℕ} → Cut bytes → Laid offset bytes (Err (CutShort offset) ∷ [])
  frame : {offset : ℕ} {bytes : List ℕ} {answers : List Answer} (kind : ℕ) (body rest : List ℕ) → bytes ≡ framed kind body ++ rest
      → Laid (offset + length (framed kind body)) rest answers → Laid offset bytes (ok_or (meant kind body) (BodyLength offset) ∷ answers)

-- The answers to the frames of a whole file: there is one such list, and no other.
pub record Answered (file : List ℕ) (answers : List Answer) : Type 0 where
  pub laid : Laid 0 file answers
  pub only : (others : List Answer) → Laid 0 file others → others ≡ answers
