-- Sums over a run of 2^m items, by halves, of the items whose number has every bit of a set. Assumes nothing.
use Rattle.std.specs.Prelude.{ℕ, zero, suc, ◌+◌, ◌^◌, Bool, true, false, cond, ◌==◌}
use Rattle.field.specs.Structure.{Structure}

-- A set of bit positions, as a test: no bit, one bit, two bits.
abbrev pub none : ℕ → Bool
none b = false

abbrev pub one : ℕ → ℕ → Bool
one j b = b == j

abbrev pub two : ℕ → ℕ → ℕ → Bool
two j k b = cond (b == j) true (b == k)

-- the upper half of a run of 2^(m + 1) items
abbrev pub upper : {K : Type 0} → ℕ → (ℕ → K) → ℕ → K
upper m f i = f (2 ^ m + i)

-- R(set): the run is halved until one item remains; where the set holds the top bit the upper half alone counts, otherwise both.
unfoldable pub run : {K : Type 0} → Structure K → (ℕ → Bool) → ℕ → (ℕ → K) → K
run s set zero f = f 0
run s set (suc m) f = cond (set m) (run s set m (upper m f)) (s.plus (run s set m f) (run s set m (upper m f)))
