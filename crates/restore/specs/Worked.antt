-- Worked lines over the field of four elements: items 1 and 2, whose codeword is 3, 14, 15, 8, 1, 2. Assumes nothing.
use Rattle.std.specs.Prelude.{◌≡◌, ℕ, List, [], ◌∷◌}
use Rattle.field.specs.Four.{four}
use Rattle.codeword.specs.Codeword.{codeword, Fits}
use Rattle.restore.specs.Restored.{Whole}

-- the words with bays 1 and 2 alone present, and the marks that say so
abbrev pub two_present : List ℕ
two_present = 0 ∷ 14 ∷ 15 ∷ 0 ∷ 0 ∷ 0 ∷ []

abbrev pub two_marks : List ℕ
two_marks = 1 ∷ 0 ∷ 0 ∷ 1 ∷ 1 ∷ 1 ∷ []

pub record Worked : Type 0 where
  -- the codeword
  pub line : codeword four (1 ∷ 2 ∷ []) ≡ 3 ∷ 14 ∷ 15 ∷ 8 ∷ 1 ∷ 2 ∷ []
  -- with bays 1 and 2 alone it is restored whole
  pub from_two : Whole four two_present two_marks (3 ∷ 14 ∷ 15 ∷ 8 ∷ 1 ∷ 2 ∷ [])
  -- with bay 1 alone two lines fit
  pub one_line : Fits four (1 ∷ 2 ∷ []) two_present 1
  pub another_line : Fits four (6 ∷ 0 ∷ []) two_present 1
