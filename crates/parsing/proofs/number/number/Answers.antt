use Rattle.std.proofs.Common.{sym, rules}
use Rattle.parsing.proofs.Figures.{no_numeral, item_is, read_digits, settled}
use Rattle.std.proofs.lemmas.Fn.{serves_by}
use Rattle.std.proofs.lemmas.Iterator.{YieldsList-from_slice}
use Rattle.parsing.proofs.number.number.Goals as goal

pub returns-then-not-is_numeral : goal.returns-then-not-is_numeral
returns-then-not-is_numeral c = no_numeral _ (sym c.if-not-is_numeral.ensures)

pub try_fold-requires-clause-callable : goal.try_fold-requires-clause-callable
try_fold-requires-clause-callable c =
    serves_by _ (λ items q. Unit {0}) (λ items q item v j turn. tt) _ _ _ _ tt
    (λ items t q item u y step j.
    let p = item_is c.args.field.now (sym c.if-not-is_numeral.ensures) (YieldsList-from_slice c.args.field.now c.iter.ensures.rest) items t item u y step in
    let low = p.2 in search rules)

pub returns : goal.returns
returns c =
    let read = read_digits c.args.field.now (sym c.if-not-is_numeral.ensures) (YieldsList-from_slice c.args.field.now c.iter.ensures.rest)
    _ _ (λ h n item r k called. search rules) _ c.try_fold.result _ c.try_fold.ensures.ran in
    settled _ _ _ _ c.ok_or.ensures.value read
