-- The places so far are added, the others as they were.
use Rattle.std.proofs.Common.{◌≡◌, ℕ, ◌+◌, ◌<◌, ◌≤◌, get_or}
use lib.Bits.{bit_xor}
use Rattle.line_code.proofs.gathering.add_upper.Given as goal

abbrev pub invariant-loop-i : goal.invariant-loop-i
invariant-loop-i l =
    ((k : ℕ) → k < l.i → get_or l.words k 0 ≡ bit_xor (get_or l.initial.words k 0) (get_or l.initial.words (l.half + k) 0))
    × ((k : ℕ) → l.i ≤ k → get_or l.words k 0 ≡ get_or l.initial.words k 0)
