-- Sets of bit positions, and closures that give their sums R(S). Assumes nothing.
use Rattle.std.specs.Prelude.{◌≡◌, ℕ, ◌<◌, Bool, List}
use Rattle.field.specs.Structure.{Structure}
use Rattle.extension.specs.declared.ext.Ext.{Ext}
use Rattle.extension.specs.Extend.{extend}
use Rattle.halves.specs.Runs.{none, one, two, run}
use Rattle.halves.specs.Moments.{items_of}
use Rattle.line_code.specs.declared.bits.BitSet.{BitSet}
use Rattle.line_code.specs.declared.bits.BitSet.TheVariants.{Empty, One, Two}

-- which bit positions a set holds
abbrev pub holds : BitSet → ℕ → Bool
holds Empty = none
holds (One j) = one j
holds (Two j k) = two j k

-- the set's bits are below n, and of two the lower one stands first
abbrev pub Within : ℕ → BitSet → Type 0
Within n Empty = Unit {0}
Within n (One j) = j < n
Within n (Two j k) = (j < k) × (k < n)

-- a closure may be called at every set of bits below n
abbrev pub Callable : ℕ → (BitSet → Type 0) → Type 0
Callable n pre = (set : BitSet) → Within n set → pre set

-- and what it gives there is R(S) of a line padded to 2^n words
abbrev pub GivesSums : {K : Type 0} → Structure K → List ℕ → ℕ → (BitSet → Ext K → Type 0) → Type 0
GivesSums {K} s items n post =
    (set : BitSet) (r : Ext K) → Within n set → post set r → r ≡ run (extend s) (holds set) n (items_of s items)
