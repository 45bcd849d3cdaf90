-- The formulas of the extension by u with u u = u + v: pairs a + b u, their products, inverses and numbers. Assumes nothing.
use Rattle.std.specs.Prelude.{ℕ, ◌+◌, ◌*◌, ◌/◌, ◌%◌}
use Rattle.ring2.specs.Ring.{Ops}
use Rattle.field.specs.Structure.{Structure, ops, size}
use Rattle.extension.specs.declared.ext.Ext.{Ext}

-- a + b u
abbrev pub pair : {K : Type 0} → K → K → Ext K
pair a b = record { lo = a; hi = b }

module _ {K : Type 0} (o : Ops K) (v : K) where
  -- (a + b u) (c + d u) = (a c + b d v) + (a d + b c + b d) u
  abbrev pub over : Ops (Ext K)
  over = record {
    zero = pair o.zero o.zero;
    one = pair o.one o.zero;
    plus = λ x y. pair (o.plus x.lo y.lo) (o.plus x.hi y.hi);
    times = λ x y. pair
        (o.plus (o.times x.lo y.lo) (o.times (o.times x.hi y.hi) v))
        (o.plus (o.plus (o.times x.lo y.hi) (o.times x.hi y.lo)) (o.times x.hi y.hi));
  }

  -- the norm of a + b u, its product with the conjugate (a + b) + b u: a a + a b + b b v
  abbrev pub norm : Ext K → K
  norm x = o.plus (o.plus (o.times x.lo x.lo) (o.times x.lo x.hi)) (o.times (o.times x.hi x.hi) v)

-- the conjugate of x times i, which is the inverse of x where i is the inverse of its norm
abbrev pub conjugate_times : {K : Type 0} → Ops K → K → Ext K → Ext K
conjugate_times o i x = pair (o.times (o.plus x.lo x.hi) i) (o.times x.hi i)

module _ {K : Type 0} (s : Structure K) where
  abbrev pub multiplied : Ext K → Ext K → Ext K
  multiplied x y = (over (ops s) s.v).times x y

  abbrev pub divided : Ext K → Ext K
  divided x = conjugate_times (ops s) (s.inverse (norm (ops s) s.v x)) x

  -- numbered a + q b
  abbrev pub numbered : Ext K → ℕ
  numbered x = s.value x.hi * size s + s.value x.lo

  abbrev pub element : ℕ → Ext K
  element n = pair (s.of (n % size s)) (s.of (n / size s))

  -- an element of the base field as an element of the extension, and the new element u
  abbrev pub embed : K → Ext K
  embed a = pair a s.zero

  abbrev pub root_u : Ext K
  root_u = pair s.zero s.one
