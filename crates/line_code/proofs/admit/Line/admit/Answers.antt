-- A line that no rule refuses is short and has small words.
use Rattle.std.proofs.Common.{sym}
use Rattle.line_code.proofs.Words.{small_words}
use Rattle.line_code.proofs.admit.Line.admit.Goals as goal

pub invariant_of-result-clause-small : goal.invariant_of-result-clause-small
invariant_of-result-clause-small g c = small_words g.F.Field.structure c.args.words.now (sym c.in_ok-admit_words.ensures)
