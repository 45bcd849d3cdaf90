use Rattle.std.proofs.Common.{◌≡◌, min, length, take, ap, ◌∙◌, rules}
use Rattle.std.specs.List.{count_by}
use Rattle.codeword.specs.Sums.{count}
use Rattle.worksheet.specs.Lines.{marked}
use Rattle.worksheet.proofs.Tally.{marks_counted}
use Rattle.worksheet.proofs.bays.BaySet.count_below.Goals as goal

pub returns : goal.returns
returns c =
    let marks = c.self.inside.marks in
    let counted : c.count.result ≡ count_by (λ b. b) (take (min c.args.bays (length marks)) marks) = search rules in
    counted ∙ marks_counted marks c.args.bays ∙ ap (λ m. count (marked m) c.args.bays) c.self.view_is
