use Rattle.std.proofs.Common.{vec_items}
use Rattle.composing.proofs.Turns.{Turn, seen_in}
use Rattle.composing.proofs.compose.Given as goal

abbrev pub invariant-loop-before : goal.invariant-loop-before
invariant-loop-before l = Turn (seen_in l.yielded) (vec_items l.file)
