-- The factors of each bit that is asked for.
use Rattle.std.proofs.Common.{◌<◌, rules, arith}
use Rattle.line_code.proofs.factors.prepare.Goals as goal

pub returns : goal.returns
returns g c k d h =
    let l : k < 8 = omega (arith, g.met.F.BaseField.small) in
    let each = c.from_fn.ensures.items.at k d l in
    search rules
