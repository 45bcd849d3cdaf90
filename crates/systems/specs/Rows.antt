-- Tables of four rows, and what the steps of an elimination do to them. Assumes nothing.
use Rattle.std.specs.Prelude.{◌≡◌, ℕ, ◌<◌}
use Rattle.field.specs.Structure.{Structure}
use Rattle.codeword.specs.Sums.{total}

-- A table a has four rows of five places: a r j is the coefficient of the unknown j in equation r, and a r 4 the right hand side.
module _ {K : Type 0} (s : Structure K) where
  -- the table is that of the coefficients a and the right hand sides b
  pub record Augmented (a : ℕ → ℕ → K) (b : ℕ → K) (t : ℕ → ℕ → K) : Type 0 where
    pub coefficients : (r j : ℕ) → r < 4 → j < 4 → t r j ≡ a r j
    pub right : (r : ℕ) → r < 4 → t r 4 ≡ b r

  -- rows p and q changed places
  pub record Exchanged (a : ℕ → ℕ → K) (p q : ℕ) (b : ℕ → ℕ → K) : Type 0 where
    pub first : (j : ℕ) → j < 5 → b p j ≡ a q j
    pub second : (j : ℕ) → j < 5 → b q j ≡ a p j
    pub others : (r j : ℕ) → r < 4 → j < 5 → (r ≡ p → ⊥) → (r ≡ q → ⊥) → b r j ≡ a r j

  -- row p was multiplied by c
  pub record Scaled (a : ℕ → ℕ → K) (p : ℕ) (c : K) (b : ℕ → ℕ → K) : Type 0 where
    pub row : (j : ℕ) → j < 5 → b p j ≡ s.times c (a p j)
    pub others : (r j : ℕ) → r < 4 → j < 5 → (r ≡ p → ⊥) → b r j ≡ a r j

  -- c r times row p was added to each other row r
  pub record Added (a : ℕ → ℕ → K) (p : ℕ) (c : ℕ → K) (b : ℕ → ℕ → K) : Type 0 where
    pub row : (j : ℕ) → j < 5 → b p j ≡ a p j
    pub others : (r j : ℕ) → r < 4 → j < 5 → (r ≡ p → ⊥) → b r j ≡ s.plus (a r j) (s.times (c r) (a p j))

  -- column j is one in row j and zero in the others, for each j below n
  pub record Units (a : ℕ → ℕ → K) (n : ℕ) : Type 0 where
    pub diagonal : (j : ℕ) → j < n → a j j ≡ s.one
    pub off : (r j : ℕ) → r < 4 → j < n → (r ≡ j → ⊥) → a r j ≡ s.zero

  -- a row at the unknowns x and at t: its coefficients times the unknowns, and its right hand side times t
  abbrev pub value : ℕ → (ℕ → K) → K → (ℕ → K) → K
  value m x t row = s.plus (total s (λ j. s.times (row j) (x j)) m) (s.times (row 4) t)

  -- each row is zero: at t = one x solves the table's system, and at t = zero the system with zeros on the right
  abbrev pub Vanish : (ℕ → ℕ → K) → ℕ → (ℕ → K) → K → Type 0
  Vanish a m x t = (r : ℕ) → r < 4 → value m x t (a r) ≡ s.zero

  -- the two tables have the same solutions, as they stand and with zeros on the right
  pub record Same (m : ℕ) (a b : ℕ → ℕ → K) : Type 0 where
    pub there : (x : ℕ → K) (t : K) → Vanish a m x t → Vanish b m x t
    pub back : (x : ℕ → K) (t : K) → Vanish b m x t → Vanish a m x t
