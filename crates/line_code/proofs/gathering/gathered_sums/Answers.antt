-- The padded line has the line's sums, and they give its check sums.
use Rattle.std.proofs.Common.{◌≡◌, ◌^◌, ◌≤◌, pow_mono, length, length-take, ap, ◌∙◌, arith, rules, ◌++◌, drop, get_or}
use Rattle.extension.specs.Extend.{extend}
use Rattle.codeword.specs.Codeword.{element}
use Rattle.halves.specs.Gathered.{place, Gathered}
use Rattle.line_code.specs.Sets.{holds}
use Rattle.line_code.specs.ByHalves.{shifted_sums}
use Rattle.line_code.specs.Padded.{Below}
use Rattle.line_code.proofs.Filled.{gathered_padded, below_padded}
use Rattle.line_code.proofs.Halfway.{below_append, below_take, below_drop}
use Rattle.line_code.proofs.Weighing.{small_below, within_more, sum_in_run}
use Rattle.line_code.proofs.Parts.{checks_by_halves}
use Rattle.line_code.proofs.gathering.gathered_sums.Goals as goal

pub moments-requires : goal.moments-requires
moments-requires g c set w =
    let E = extend g.F.Field.structure in
    let words = c.args.line.now.words.now in
    let small : Below (extend g.F.Field.structure).bits c.pad-run.result
    = below_padded words c.pad-run.result c.pad-run.ensures E.bits (small_below g.F.Field.structure words c.args.line.now.small) in (
      within_more set _ 8 w (omega (arith, c.args.constants.now.within, g.met.F.BaseField.small)),
      below_append E.bits c.gather.new.words _ (c.gather.ensures.small E.bits (below_take E.bits c.run_length.result c.pad-run.result small))
          (below_drop E.bits c.run_length.result c.pad-run.result small),
    )

pub returns : goal.returns
returns g c =
    let s = g.F.Field.structure in
    let words = c.args.line.now.words.now in
    let small = small_below s words c.args.line.now.small in
    let short : length c.args.constants.now.factors.now ≤ 8 = omega (arith, c.args.constants.now.within, g.met.F.BaseField.small) in
    let whole : 2 ^ length c.args.constants.now.factors.now ≤ 2 ^ 8 = pow_mono short in
    let gathered : Gathered (length c.args.constants.now.factors.now) 2 c.args.line.now.words.now c.gather.new.words
    = gathered_padded words c.pad-run.result c.pad-run.ensures (length c.args.constants.now.factors.now) 2 c.run_length.result c.gather.new.words c.run_length.ensures c.gather.ensures.sums in
    c.shifted.ensures ∙ ap (shifted_sums s) (c.moments.ensures words (λ set r w p.
    let e : r ≡ element g.F.Field.structure (get_or (c.gather.new.words ++ drop c.run_length.result c.pad-run.result) (place (holds set) 8) 0) = search rules in
    e ∙ sum_in_run s words c.gather.new.words _ (length c.args.constants.now.factors.now) short
    (omega (arith, c.gather.auto.words, length-take c.run_length.result c.pad-run.result)) small gathered set w))
    ∙ checks_by_halves s words (length c.args.constants.now.factors.now) c.requires c.args.constants.now.within
