-- What a book knows, and what a rack shows of itself besides its words. Assumes nothing.
use Rattle.std.specs.Prelude.{ℕ, Bool, cond, ◌==◌}
use Rattle.rack.specs.Meaning.{Meaning}

-- The number of items and of lines, and which bays are behind: a bay is behind when its words may not be those of the
-- posted lines.
pub record Known : Type 0 where
  pub items : ℕ
  pub lines : ℕ
  pub behind : ℕ → Bool

-- The numbers of bays and lines, and which bays answer.
pub record Front : Type 0 where
  pub bays : ℕ
  pub lines : ℕ
  pub switch : ℕ → Bool

abbrev pub front_of : Meaning → Front
front_of m = record { bays = m.bays; lines = m.lines; switch = m.switch }

-- f with another value at one place
abbrev pub put : {A : Type 0} → (ℕ → A) → ℕ → A → ℕ → A
put f i x k = cond (k == i) x (f k)

abbrev pub with_behind : Known → (ℕ → Bool) → Known
with_behind k behind = record { items = k.items; lines = k.lines; behind = behind }
