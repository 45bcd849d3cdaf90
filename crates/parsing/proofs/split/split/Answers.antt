use Rattle.std.proofs.Common.{◌≡◌, ◌+◌, List, Some, eqb, sym, ap, ◌∙◌, ℕ, rules, tests}
use Rattle.std.specs.List.{position}
use Rattle.std.proofs.lemmas.List.{take_rest}
use Rattle.std.proofs.lemmas.Iterator.{YieldsList-from_slice}
use Rattle.std.proofs.lemmas.Iterator.Search.{position_from_yields_List}
use Rattle.parsing.proofs.Parting.{is_mark, parted_at, parted_nowhere}
use Rattle.parsing.proofs.split.split.Goals as goal

pub returns-in-Some : goal.returns-in-Some
returns-in-Some c =
    let found : c.position.result ≡ position (is_mark c.args.mark) c.args.bytes.now =
    position_from_yields_List (λ byte. eqb byte c.args.mark) _ _ c.position.result c.position.ensures.ran (YieldsList-from_slice _ c.iter.ensures.rest) (λ x b q k. search (rules, tests)) in
    let p = parted_at c.args.mark c.args.bytes.now c.in-Some.i (sym found ∙ c.in-Some.is) in
    record { front = p.0; back = ap (λ (l : List ℕ). Some l) (take_rest c.args.bytes.now (c.in-Some.i + 1)) ∙ p.1 }

pub returns-in-None : goal.returns-in-None
returns-in-None c =
    let found : c.position.result ≡ position (is_mark c.args.mark) c.args.bytes.now =
    position_from_yields_List (λ byte. eqb byte c.args.mark) _ _ c.position.result c.position.ensures.ran (YieldsList-from_slice _ c.iter.ensures.rest) (λ x b q k. search (rules, tests)) in
    let p = parted_nowhere c.args.mark c.args.bytes.now (sym found ∙ c.in-None.is) in
    record { front = p.0; back = p.1 }
