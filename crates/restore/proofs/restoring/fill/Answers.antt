use Rattle.std.proofs.Common.{refl, ap, ◌∙◌, arith}
use Rattle.extension.specs.Extend.{extend}
use Rattle.codeword.proofs.Words.{word_fits}
use Rattle.restore.proofs.Filling.{placed_none, placed_more}
use Rattle.restore.proofs.restoring.fill.Goals as goal

pub overflow_cast-words : goal.overflow_cast-words
overflow_cast-words g c = omega (arith, c.number.ensures, word_fits g.F.Field.structure g.met.F.BaseField.small c.index.result.now)

pub loop-j-init : goal.loop-j-init
loop-j-init g c = placed_none g.F.Field.structure c.args.words.now c.args.absent.now c.args.found

pub loop-j-preserved : goal.loop-j-preserved
loop-j-preserved g c =
    let s = g.F.Field.structure in
    placed_more s _ c.args.absent.now c.args.found c.loop-j.j _ _ c.number.result c.loop-j.invariant (omega (arith, c.requires.few))
    (c.requires.below c.loop-j.j (omega arith)) (λ i k l h. c.requires.rising i k l (omega arith)) (c.number.ensures ∙ ap (extend s).value c.index.ensures) refl
