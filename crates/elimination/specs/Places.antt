-- Four values by their places. Assumes nothing.
use Rattle.std.specs.Prelude.{ℕ, zero, suc}
use Rattle.elimination.specs.declared.four.Four.{Four}

module _ {T : Type 0} where
  -- the value at a place; from 3 on it is the last
  abbrev pub place : Four T → ℕ → T
  place f zero = f.a
  place f (suc zero) = f.b
  place f (suc (suc zero)) = f.c
  place f (suc (suc (suc n))) = f.d

  -- the four values that a function has at the places
  abbrev pub made : (ℕ → T) → Four T
  made f = record { a = f 0; b = f 1; c = f 2; d = f 3 }

  -- the four values with another at a place
  abbrev pub put : Four T → ℕ → T → Four T
  put f zero x = record { a = x; b = f.b; c = f.c; d = f.d }
  put f (suc zero) x = record { a = f.a; b = x; c = f.c; d = f.d }
  put f (suc (suc zero)) x = record { a = f.a; b = f.b; c = x; d = f.d }
  put f (suc (suc (suc n))) x = record { a = f.a; b = f.b; c = f.c; d = x }
