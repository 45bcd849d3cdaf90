-- What solving a system answers. Assumes nothing.
use Rattle.std.specs.Prelude.{◌≡◌, ℕ, ◌<◌, ◌≤◌, Some, None, Ok, Err, Option, Result, ◌≢◌}
use Rattle.field.specs.Structure.{Structure}
use Rattle.systems.specs.Systems.{Independent, Unsolvable, Solution}
use Rattle.systems.specs.Rows.{Same, Units}
use Rattle.elimination.specs.declared.four.Four.{Four}
use Rattle.elimination.specs.declared.system.Equation.{Equation}
use Rattle.elimination.specs.declared.system.Unsolved.{Unsolved}
use Rattle.elimination.specs.declared.system.Unsolved.TheVariants.{Dependent, Inconsistent}
use Rattle.elimination.specs.Equations.{at, coefficient, right, table}

module _ {K : Type 0} (s : Structure K) where
  -- Of a system and the number of unknowns: with independent columns the answer is the one solution, or that there is none;
  -- otherwise it is that the columns are dependent.
  abbrev pub Answer : Four (Equation K) → ℕ → Result (Four K) Unsolved → Type 0
  Answer t m (Ok x) = Independent s (coefficient s t) m × Solution s (coefficient s t) (right s t) m (at s x)
  Answer t m (Err Inconsistent) = Independent s (coefficient s t) m × Unsolvable s (coefficient s t) (right s t) m
  Answer t m (Err Dependent) = Independent s (coefficient s t) m → ⊥

  -- What eliminating m unknowns makes of a system: the same solutions and unit columns, or nothing where the columns are dependent.
  abbrev pub Eliminated : Four (Equation K) → ℕ → Option (Four (Equation K)) → Type 0
  Eliminated t m (Some u) = Same s m (table s t) (table s u) × Units s (table s u) m
  Eliminated t m None = Independent s (table s t) m → ⊥

  -- What looking for a row at or after row n answers, whose element in column j is not zero.
  abbrev pub Nonzero : Four (Equation K) → ℕ → ℕ → Option ℕ → Type 0
  Nonzero t n j (Some r) = (n ≤ r) × (r < 4) × (table s t r j ≢ s.zero)
  Nonzero t n j None = (r : ℕ) → n ≤ r → r < 4 → table s t r j ≡ s.zero
