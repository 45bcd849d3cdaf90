-- The number of an element has at most sixteen bits.
use Rattle.std.proofs.Common.{arith}
use Rattle.codeword.proofs.Words.{word_fits}
use Rattle.line_code.proofs.sums.word.Goals as goal

pub overflow_cast-result : goal.overflow_cast-result
overflow_cast-result g c = omega (arith, c.number.ensures, word_fits g.F.Field.structure g.met.F.BaseField.small c.args.x)
