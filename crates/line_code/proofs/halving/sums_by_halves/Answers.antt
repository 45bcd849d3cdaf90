-- The check sums from the sums by halves.
use Rattle.std.proofs.Common.{◌≡◌, length, sym, ap, ◌∙◌, subst, rules, ◌^◌, ◌≤◌}
use Rattle.extension.specs.Extend.{extend}
use Rattle.halves.specs.Runs.{run}
use Rattle.halves.specs.Moments.{items_of}
use Rattle.line_code.specs.Sets.{holds}
use Rattle.line_code.specs.ByHalves.{shifted_sums}
use Rattle.line_code.proofs.Parts.{checks_by_halves}
use Rattle.line_code.proofs.halving.sums_by_halves.Goals as goal

pub returns : goal.returns
returns g c =
    let s = g.F.Field.structure in
    let words = c.args.line.now.words.now in
    let few : length c.args.line.now.words.now ≤ 2 ^ length c.of.result.factors.now = subst (λ n. length c.args.line.now.words.now ≤ 2 ^ n) (sym c.of.ensures) c.bits-bits.ensures.fits in
    c.shifted.ensures ∙ ap (shifted_sums s) (c.moments.ensures words (λ set r w p.
    let e : r ≡ run (extend g.F.Field.structure) (holds set) c.bits-bits.result (items_of g.F.Field.structure c.args.line.now.words.now) = search rules in
    e ∙ ap (λ n. run (extend s) (holds set) n (items_of s words)) (sym c.of.ensures)))
    ∙ checks_by_halves s words (length c.of.result.factors.now) few c.of.result.within
