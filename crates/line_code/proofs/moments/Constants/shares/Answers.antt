-- Bit 0 by one; the other bits by the elements of the prepared numbers.
use Rattle.std.proofs.Common.{refl, ap, ◌∙◌}
use Rattle.extension.specs.declared.ext.Ext.{Ext}
use Rattle.extension.specs.Formulas.{embed}
use Rattle.extension.specs.Extend.{extend}
use Rattle.line_code.specs.ByHalves.{shares_of}
use Rattle.line_code.proofs.Running.{sums_path}
use Rattle.line_code.proofs.Parts.{shares_zero}
use Rattle.line_code.proofs.moments.Constants.shares.Goals as goal

pub returns-then-k-eq0 : goal.returns-then-k-eq0
returns-then-k-eq0 g c = shares_zero g.F.Field.structure c.args.part c.args.k c.if-k-eq0.true

pub returns : goal.returns
returns g c =
    let s = g.F.Field.structure in
    let by : g.row.F.Denot → Ext g.row.F.Denot = λ x. (extend s).times c.args.part (embed s x) in
    sums_path (record { zeroth = c.args.part; first = c.scaled.result; second = c.scaled-2.result; third = c.scaled-3.result }) (shares_of s c.args.part c.args.k)
    refl
    (c.scaled.ensures ∙ ap by c.bit.ensures)
    (c.scaled-2.ensures ∙ ap by (c.factor.ensures ∙ ap s.of (c.args.self.now.prepared c.args.k _ c.requires).square ∙ s.of_value _))
    (c.scaled-3.ensures ∙ ap by (c.factor-2.ensures ∙ ap s.of (c.args.self.now.prepared c.args.k _ c.requires).cube ∙ s.of_value _))
