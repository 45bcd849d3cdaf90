-- Equations over a field: their coefficients, their multiples and their sums. Assumes nothing.
use Rattle.std.specs.Prelude.{ℕ, zero, suc}
use Rattle.field.specs.Structure.{Structure}
use Rattle.elimination.specs.declared.four.Four.{Four}
use Rattle.elimination.specs.declared.system.Equation.{Equation}
use Rattle.elimination.specs.Places.{place, made}

module _ {K : Type 0} where
  -- the equation across place r of four columns and of the right hand sides, and the four equations
  abbrev pub across : Four (Four K) → Four K → ℕ → Equation K
  across columns right r = record {
    coefficients = made (λ j. place (place columns j) r);
    right = place right r;
  }

  abbrev pub by_columns : Four (Four K) → Four K → Four (Equation K)
  by_columns columns right = made (across columns right)

module _ {K : Type 0} (s : Structure K) where
  -- the element at a place of four; zero after them
  abbrev pub at : Four K → ℕ → K
  at f zero = f.a
  at f (suc zero) = f.b
  at f (suc (suc zero)) = f.c
  at f (suc (suc (suc zero))) = f.d
  at f (suc (suc (suc (suc n)))) = s.zero

  -- the coefficient of unknown j in equation r, and the right hand side of equation r
  abbrev pub coefficient : Four (Equation K) → ℕ → ℕ → K
  coefficient t r = at (place t r).coefficients

  abbrev pub right : Four (Equation K) → ℕ → K
  right t r = (place t r).right

  -- an equation as a row of five: the coefficients, and the right hand side at place 4
  abbrev pub cell : Equation K → ℕ → K
  cell e zero = e.coefficients.a
  cell e (suc zero) = e.coefficients.b
  cell e (suc (suc zero)) = e.coefficients.c
  cell e (suc (suc (suc zero))) = e.coefficients.d
  cell e (suc (suc (suc (suc n)))) = e.right

  abbrev pub table : Four (Equation K) → ℕ → ℕ → K
  table t r = cell (place t r)

  abbrev pub multiplied : K → Equation K → Equation K
  multiplied c e = record {
    coefficients = made (λ j. s.times c (place e.coefficients j));
    right = s.times c e.right;
  }

  abbrev pub summed : Equation K → Equation K → Equation K
  summed e f = record {
    coefficients = made (λ j. s.plus (place e.coefficients j) (place f.coefficients j));
    right = s.plus e.right f.right;
  }
