-- Each row but the pivot row is reduced.
use Rattle.std.proofs.Common.{rules}
use Rattle.elimination.proofs.Tables.{added}
use Rattle.elimination.proofs.system.clear.Goals as goal

pub returns : goal.returns
returns g c =
    added g.F.Field.structure c.args.rows c.from_fn.result c.args.p
    (let pivot = c.from_fn.ensures c.args.p c.requires in search rules)
    (λ k h n. let row = c.from_fn.ensures k h in search rules)
