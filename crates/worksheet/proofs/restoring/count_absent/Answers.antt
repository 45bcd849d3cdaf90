use Rattle.std.proofs.Common.{◌≡◌, ℕ, Bool, Option, not, length, None, is_some, rules, sym, ap, ◌∙◌, arith}
use Rattle.std.specs.List.{count_by}
use Rattle.std.proofs.Math.Seq.{take-length}
use Rattle.worksheet.proofs.Tally.{count_of_items}
use Rattle.worksheet.proofs.restoring.count_absent.Goals as goal

pub returns : goal.returns
returns c =
    let xs = c.args.found.now in
    let test : Option ℕ → Bool = λ o. not (is_some o) in
    let counted : c.count.result ≡ count_by test xs = search rules in
    counted ∙ ap (count_by test) (sym (take-length xs)) ∙ count_of_items test xs None (length xs) (omega arith)
