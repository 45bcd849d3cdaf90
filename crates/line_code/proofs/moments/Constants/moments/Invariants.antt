-- The sums over the bits so far, and over the pairs of bits so far.
use Rattle.std.proofs.Common.{List, ℕ, length}
use Rattle.line_code.specs.Sets.{GivesSums}
use Rattle.line_code.proofs.BitByBit.{SoFar}
use Rattle.line_code.proofs.moments.Constants.moments.Given as goal

abbrev pub invariant-loop-k : goal.invariant-loop-k
invariant-loop-k g l =
    (line : List ℕ) → GivesSums g.F.Field.structure line (length l.self.factors.now) (goal.S-post g l.sum)
    → SoFar g.F.Field.structure line (length l.self.factors.now) l.k l.first l.second l.cubes l.pairs
