-- The columns of the bays, and the syndromes of the words of a line: words are a codeword where these are zero. Assumes nothing.
use Rattle.std.specs.Prelude.{ℕ, zero, suc, ◌+◌, List, slice_index}
use Rattle.ring2.specs.Ring.{Ops}
use Rattle.field.specs.Structure.{Structure, ops}
use Rattle.extension.specs.declared.ext.Ext.{Ext}
use Rattle.extension.specs.Extend.{extend}
use Rattle.codeword.specs.Sums.{total}
use Rattle.codeword.specs.Codeword.{element, point}

module _ {K : Type 0} (o : Ops K) where
  -- the vector with one in row b, and zero in the other rows
  abbrev pub basis : ℕ → ℕ → K
  basis zero zero = o.one
  basis zero (suc r) = o.zero
  basis (suc b) zero = o.zero
  basis (suc b) (suc r) = basis b r

  -- the vector of the powers of x
  abbrev pub powers : K → ℕ → K
  powers x zero = o.one
  powers x (suc r) = o.times (powers x r) x

module _ {K : Type 0} (s : Structure K) where
  -- The column of a bay by its rows: of the check bays 0 to 3 a basis vector, of item i, in bay i + 4, the powers of its point.
  abbrev pub column : ℕ → ℕ → Ext K
  column zero r = basis (ops (extend s)) 0 r
  column (suc zero) r = basis (ops (extend s)) 1 r
  column (suc (suc zero)) r = basis (ops (extend s)) 2 r
  column (suc (suc (suc zero))) r = basis (ops (extend s)) 3 r
  column (suc (suc (suc (suc i)))) r = powers (ops (extend s)) (point s i) r

  -- Row r of the sum over the n + 4 bays of element times column.
  abbrev pub weighed : (ℕ → Ext K) → ℕ → ℕ → Ext K
  weighed f n r = total (extend s) (λ b. (extend s).times (column b r) (f b)) (n + 4)

  -- Syndrome r of the words in n + 4 bays.
  abbrev pub syndrome : List ℕ → ℕ → ℕ → Ext K
  syndrome bays n r = weighed (λ b. element s (slice_index bays b)) n r
