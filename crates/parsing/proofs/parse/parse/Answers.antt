use Rattle.std.proofs.Common.{ℕ, List, ◌∙◌, subst}
use Rattle.frame.specs.Format.{content}
use Rattle.parsing.specs.Line.{Says}
use Rattle.parsing.specs.Numbers.{Settles, seen}
use Rattle.parsing.proofs.Figures.{handed_on}
use Rattle.parsing.proofs.Telling.{word_said, line_again}
use Rattle.parsing.proofs.parse.parse.Goals as goal

pub returns-in_err-try_from : goal.returns-in_err-try_from
returns-in_err-try_from c = handed_on content _ _ c.from_residual.ensures.0 (λ said s. c.in_err-try_from.ensures _ (c.split.ensures.front ∙ word_said _ said s))

pub returns : goal.returns
returns c =
    subst (λ (l : List ℕ). Settles (seen content c.frame_of.result) (Says l))
    (line_again c.args.line.now _ _ _ c.split.ensures.front c.split.ensures.back c.in_ok-try_from.ensures) c.frame_of.ensures
