-- What a book keeps, and how much of it there can be. Assumes nothing.
use Rattle.std.specs.Prelude.{ℕ, ◌≤◌, Bool, List}

-- The number of items and of lines, and a mark for each bay that is behind.
pub record Kept : Type 0 where
  pub items : ℕ
  pub lines : ℕ
  pub behind : List Bool

-- There is one item at least, and at most one for each of the q elements of the base field.
pub record Fits (q items : ℕ) : Type 0 where
  pub some : 1 ≤ items
  pub fits : items ≤ q
