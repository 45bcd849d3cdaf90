-- One product by the constant.
use Rattle.line_code.proofs.Parts.{by_u_is}
use Rattle.line_code.proofs.moments.by_u.Goals as goal

pub returns : goal.returns
returns g c = let e = by_u_is g.F.Field.structure c.args.x in cc
