use Rattle.std.proofs.Common.{Err, sym, ap, ◌∙◌, subst}
use Rattle.std.proofs.lemmas.Result.{err_from_is_err_and}
use Rattle.frame.specs.Format.{content, bytes_of, proper}
use Rattle.frame.specs.Writing.{Written}
use Rattle.frame.proofs.Laws.{written_back}
use Rattle.frame.proofs.Numbers.{proper-unknown}
use Rattle.frame.proofs.encode.encode.Goals as goal

pub returns-in_ok-around-in-Unknown : goal.returns-in_ok-around-in-Unknown
returns-in_ok-around-in-Unknown c =
    let said = ap content c.in-Unknown.is in
    let fine = ap proper said ∙ proper-unknown _ _ c.try_from.result c.try_from.ensures c.if-is_err.ensures.value c.if-body-le-LONGEST_BODY.true in
    let same = c.in_ok-around-in-Unknown.ensures ∙ sym (ap bytes_of said) in
    record { bytes = (fine, same); back = written_back _ _ fine same }

pub returns-in_err-around-in-Unknown-clause-bytes : goal.returns-in_err-around-in-Unknown-clause-bytes
returns-in_err-around-in-Unknown-clause-bytes c =
    let said = ap content c.in-Unknown.is in
    let fine = ap proper said ∙ proper-unknown _ _ c.try_from.result c.try_from.ensures c.if-is_err.ensures.value c.if-body-le-LONGEST_BODY.true in
    let fault = err_from_is_err_and c.from_residual-in_err-around-in-Unknown.result c.from_residual-in_err-around-in-Unknown.ensures.1 in
    subst (Written (content c.args.frame)) (sym (fault.1 ∙ ap (λ e. Err e) fault.2)) fine
