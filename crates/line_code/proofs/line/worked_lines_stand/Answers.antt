-- Each row computes.
use Rattle.std.proofs.Common.{refl}
use Rattle.extension.specs.Extend.{extend}
use Rattle.codeword.specs.Sums.{total}
use Rattle.halves.specs.Runs.{run}
use Rattle.line_code.proofs.line.worked_lines_stand.Goals as goal

pub returns : goal.returns
unfolding extend total run
returns c = ((refl, refl), ((refl, refl), ((refl, refl), ((refl, refl), tt))))
