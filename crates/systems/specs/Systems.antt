-- Four linear equations in m unknowns over a field: their solutions, and columns that are independent. Assumes nothing.
use Rattle.std.specs.Prelude.{◌≡◌, ℕ, ◌<◌, ◌≤◌}
use Rattle.field.specs.Structure.{Structure}
use Rattle.codeword.specs.Sums.{total}

-- a r j is the coefficient of the unknown j in equation r, and b r the right hand side of equation r.
module _ {K : Type 0} (s : Structure K) where
  -- x satisfies each of the four equations
  abbrev pub Solves : (ℕ → ℕ → K) → (ℕ → K) → ℕ → (ℕ → K) → Type 0
  Solves a b m x = (r : ℕ) → r < 4 → total s (λ j. s.times (a r j) (x j)) m ≡ b r

  -- the columns are independent: only zeros solve the system with zeros on the right
  abbrev pub Independent : (ℕ → ℕ → K) → ℕ → Type 0
  Independent a m = (x : ℕ → K) → Solves a (λ r. s.zero) m x → (j : ℕ) → j < m → x j ≡ s.zero

  -- no x satisfies the four equations
  abbrev pub Unsolvable : (ℕ → ℕ → K) → (ℕ → K) → ℕ → Type 0
  Unsolvable a b m = (x : ℕ → K) → Solves a b m x → ⊥

  -- x is the solution: it solves the system, no other does, and the places after the unknowns are zero
  pub record Solution (a : ℕ → ℕ → K) (b : ℕ → K) (m : ℕ) (x : ℕ → K) : Type 0 where
    pub solves : Solves a b m x
    pub only : (y : ℕ → K) → Solves a b m y → (j : ℕ) → j < m → y j ≡ x j
    pub after : (j : ℕ) → m ≤ j → x j ≡ s.zero
