-- No pair, and one more.
use Rattle.std.proofs.Common.{sym, ap, ◌∙◌, ap₂, length}
use Rattle.extension.specs.Formulas.{embed}
use Rattle.extension.specs.Extend.{extend}
use Rattle.codeword.proofs.Sums.{total_none, total_more}
use Rattle.line_code.specs.ByHalves.{pair_term}
use Rattle.line_code.proofs.moments.Constants.mixed_sum.Goals as goal

pub loop-j-init : goal.loop-j-init
loop-j-init g c line gives =
    let s = g.F.Field.structure in
    c.zero-total.ensures ∙ sym (total_none (extend s) (pair_term s line (length c.args.self.now.factors.now) c.args.k))

pub loop-j-preserved : goal.loop-j-preserved
loop-j-preserved g c line gives =
    let s = g.F.Field.structure in
    c.plus-total.ensures
    ∙ ap₂ (extend s).plus (c.loop-j.invariant line gives)
    (c.scaled.ensures
    ∙ ap₂ (λ a b. (extend s).times a (embed s b)) (gives _ _ (c.loop-j-test.true, c.requires.within) c.sum-part.ensures)
    (c.factor.ensures ∙ ap s.of ((c.args.self.now.prepared c.args.k _ c.requires.within).mixed_with c.loop-j.j c.loop-j-test.true) ∙ s.of_value _))
    ∙ sym (total_more (extend s) (pair_term s line (length c.args.self.now.factors.now) c.args.k) c.loop-j.j)
