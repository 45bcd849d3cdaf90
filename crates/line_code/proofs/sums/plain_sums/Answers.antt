-- The empty sums, one more item, and all of them.
use Rattle.std.proofs.Common.{◌≡◌, length, ap, ◌∙◌, arith}
use Rattle.extension.specs.Extend.{extend}
use Rattle.codeword.proofs.Sums.{total_none}
use Rattle.line_code.specs.Sums.{term, sums_of}
use Rattle.line_code.proofs.Running.{sums_next}
use Rattle.line_code.proofs.sums.plain_sums.Goals as goal

pub loop-item-init : goal.loop-item-init
loop-item-init g c =
    let E = extend g.F.Field.structure in
    let e0 = total_none E (term g.F.Field.structure c.args.line.now.words.now 0) in
    let e1 = total_none E (term g.F.Field.structure c.args.line.now.words.now 1) in
    let e2 = total_none E (term g.F.Field.structure c.args.line.now.words.now 2) in
    let e3 = total_none E (term g.F.Field.structure c.args.line.now.words.now 3) in
    cc

pub loop-item-preserved : goal.loop-item-preserved
loop-item-preserved g c =
    c.with-sums.ensures
    ∙ sums_next g.F.Field.structure c.args.line.now.words.now c.loop-item.item c.loop-item.sums c.element.result c.point.result c.loop-item.invariant c.element.ensures c.point.ensures

pub returns : goal.returns
returns g c =
    let all : c.loop-item.item ≡ length c.args.line.now.words.now = omega arith in
    c.loop-item.invariant ∙ ap (sums_of g.F.Field.structure c.args.line.now.words.now) all
