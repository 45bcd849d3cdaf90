-- Marks of bays: lists of them, read as tests. Assumes nothing.
use Rattle.std.proofs.Common.{◌≡◌, ℕ, zero, suc, false, replicate, refl}
use Rattle.worksheet.specs.Lines.{marked}

-- No mark at all.
pub mark_none : (n b : ℕ) → marked (replicate n false) b ≡ false
mark_none zero b = refl
mark_none (suc n) zero = refl
mark_none (suc n) (suc b) = mark_none n b
