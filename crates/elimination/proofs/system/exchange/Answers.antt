-- Two writes exchange the rows.
use Rattle.std.proofs.Common.{rules}
use Rattle.elimination.proofs.Tables.{exchanged}
use Rattle.elimination.proofs.system.exchange.Goals as goal

pub returns : goal.returns
returns g c = exchanged g.F.Field.structure c.args.rows c.with-2.result c.args.p c.args.q c.requires.first c.requires.second (search rules)
