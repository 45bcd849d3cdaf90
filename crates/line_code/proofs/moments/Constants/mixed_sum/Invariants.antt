-- The terms of the pairs so far.
use Rattle.std.proofs.Common.{◌≡◌, List, ℕ, length}
use Rattle.extension.specs.Extend.{extend}
use Rattle.codeword.specs.Sums.{total}
use Rattle.line_code.specs.ByHalves.{pair_term}
use Rattle.line_code.specs.Sets.{GivesSums}
use Rattle.line_code.proofs.moments.Constants.mixed_sum.Given as goal

abbrev pub invariant-loop-j : goal.invariant-loop-j
invariant-loop-j g l =
    (line : List ℕ) → GivesSums g.F.Field.structure line (length l.self.factors.now) (goal.S-post g l.sum)
    → l.total ≡ total (extend g.F.Field.structure) (pair_term g.F.Field.structure line (length l.self.factors.now) l.k) l.j
