-- The marks that are counted are those of the absent bays.
use Rattle.std.proofs.Common.{◌≡◌, not, eqb, ◌∙◌, rules}
use Rattle.std.specs.List.{count_by}
use Rattle.restore.proofs.Counting.{count_marks}
use Rattle.restore.proofs.refusals.count_absent.Goals as goal

pub returns : goal.returns
returns c =
    let counted : c.count.result ≡ count_by (λ m. not (eqb m 0)) c.args.marks.now = search rules in
    counted ∙ count_marks c.args.marks.now
