use Rattle.restore.specs.System.{Placed}
use Rattle.restore.proofs.restoring.fill.Given as goal

abbrev pub invariant-loop-j : goal.invariant-loop-j
invariant-loop-j g l = Placed g.F.Field.structure l.initial.words l.absent l.j l.found l.words
