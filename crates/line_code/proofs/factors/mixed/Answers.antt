-- The short form of the mixed factor.
use Rattle.std.proofs.Common.{◌∙◌, ap₂}
use Rattle.line_code.proofs.Parts.{mixed_short}
use Rattle.line_code.proofs.factors.mixed.Goals as goal

pub returns : goal.returns
returns g c =
    let s = g.F.Field.structure in
    c.times-2.ensures ∙ ap₂ s.times c.times.ensures c.plus.ensures ∙ mixed_short s c.args.v c.args.w
