-- The sums over the items so far.
use Rattle.std.proofs.Common.{◌≡◌}
use Rattle.line_code.specs.Sums.{sums_of}
use Rattle.line_code.proofs.sums.plain_sums.Given as goal

abbrev pub invariant-loop-item : goal.invariant-loop-item
invariant-loop-item g l = l.sums ≡ sums_of g.F.Field.structure l.line.words.now l.item
