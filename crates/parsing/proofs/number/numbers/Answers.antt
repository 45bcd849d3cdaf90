use Rattle.std.proofs.Common.{◌≡◌, ◌+◌, ◌≤◌, length, sym, ap, ◌∙◌, subst, arith, length-take-le, take_all, length-set}
use Rattle.std.proofs.lemmas.List.{take_more_set, length-replicate}
use Rattle.std.specs.Option.{option_map}
use Rattle.parsing.specs.Numbers.{Numbers}
use Rattle.parsing.proofs.Figures.{Sofar, sofar_none, sofar_more, one_less, one_more, no_number, all_read, refused, none_mapped, some_mapped}
use Rattle.parsing.proofs.number.numbers.Goals as goal
use Rattle.parsing.proofs.number.numbers.Goals.{else-i-via-then-i+else-is_some, else-i-via-else-i}

pub loop-i-init : goal.loop-i-init
loop-i-init g c = record { long = length-replicate g.row.N 0; read = sofar_none _; last = λ e. absurd (omega (arith, c.requires, e)) }

pub returns-in_default : goal.returns-in_default
returns-in_default g c =
    let inv = c.loop-i.invariant in
    let long = length-take-le c.loop-i.i c.loop-i.place-items (omega (arith, inv.long, c.loop-i-test.true)) in
    one_less inv.read (ap (option_map (λ x. x.now)) c.in_default.is) (omega (arith, long, c.loop-i-test.true))

pub returns-then-is_some : goal.returns-then-is_some
returns-then-is_some g c =
    let inv = c.loop-i.invariant in
    let long = length-take-le c.loop-i.i c.loop-i.place-items (omega (arith, inv.long, c.loop-i-test.true)) in
    one_more _ _ _ _ (ap (option_map (λ x. x.now)) c.in-Some.is) c.split.ensures.front c.split.ensures.back inv.read
    (omega (arith, long, c.if-i.true)) (some_mapped (λ x. x.now) c.split.result.back (sym c.if-is_some.ensures))

pub returns-in_err-place : goal.returns-in_err-place
returns-in_err-place g c =
    refused _ _ c.from_residual.ensures.0
    (no_number _ _ _ _ (ap (option_map (λ x. x.now)) c.in-Some.is) c.split.ensures.front c.split.ensures.back c.loop-i.invariant.read c.in_err-place.ensures)

pub loop-i-preserved : goal.loop-i-preserved
loop-i-preserved g c =
    let inv = c.loop-i.invariant in
    let items = c.loop-i.place-items in
    let within : c.loop-i.i + 1 ≤ length items = omega (arith, inv.long, c.loop-i-test.true) in
    let more = sofar_more _ _ _ _ (ap (option_map (λ x. x.now)) c.in-Some.is) c.split.ensures.front c.split.ensures.back inv.read c.in_ok-place.field-0 c.in_ok-place.ensures in
    record {
      long = length-set items c.loop-i.i c.in_ok-place.field-0 ∙ inv.long;
      read = subst (λ ns. Sofar (option_map (λ x. x.now) c.args.rest) ns (option_map (λ x. x.now) c.split.result.back)) (sym (take_more_set items c.loop-i.i c.in_ok-place.field-0 (omega (arith, within)))) more;
      last = λ e. elim c.else-i.branch [
        | else-i-via-then-i+else-is_some w ↦ sym w.is_some.ensures ∙ w.if-is_some.false
        | else-i-via-else-i w ↦ absurd (w.if-i.false e)
      ];
    }

pub returns : goal.returns
returns g c =
    let inv = c.loop-i.invariant in
    let ended : c.loop-i.i ≡ g.row.N = omega (arith, c.loop-i.auto.i-end, c.loop-i-test.false) in
    let all = take_all c.loop-i.i c.loop-i.place-items (omega (arith, inv.long, ended)) in
    subst (Numbers g.row.N (option_map (λ x. x.now) c.args.rest)) all
    (all_read g.row.N inv.read (none_mapped (λ x. x.now) c.loop-i.left (inv.last ended)) (ap length all ∙ inv.long))
