-- A bay that may be mended. Assumes nothing.
use Rattle.std.specs.Prelude.{◌≡◌, ℕ, ◌+◌, ◌<◌, ◌≤◌, true}
use Rattle.rack.specs.Meaning.{Meaning}
use Rattle.rules.specs.Known.{Known}

-- A bay that is behind and answers, of a rack that is the book's, and a worksheet that is long enough.
pub record Ready (k : Known) (m : Meaning) (bay room : ℕ) : Type 0 where
  pub bays : m.bays ≡ k.items + 4
  pub lines : m.lines ≡ k.lines
  pub within : bay < m.bays
  pub wide : k.items + 4 ≤ room
  pub filled : 1 ≤ m.lines
  pub behind : k.behind bay ≡ true
  pub on : m.switch bay ≡ true
