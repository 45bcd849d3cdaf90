-- Each place has its sum.
use Rattle.std.proofs.Common.{rules}
use Rattle.extension.specs.Extend.{extend}
use Rattle.elimination.specs.Places.{place}
use Rattle.elimination.proofs.Places.{is_made}
use Rattle.restore.proofs.restoring.add_multiple.Goals as goal

pub returns : goal.returns
returns g c =
    let s = extend g.F.Field.structure in
    is_made (λ k. s.plus (place c.args.sums k) (s.times (place c.args.column k) c.args.by)) c.zip_with.result
    (λ k h. let made = c.zip_with.ensures k h in search rules)
