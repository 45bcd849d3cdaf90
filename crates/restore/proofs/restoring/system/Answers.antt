use Rattle.std.proofs.Common.{length, rules, arith}
use Rattle.restore.proofs.Admitting.{asks}
use Rattle.restore.proofs.restoring.system.Goals as goal

pub returns : goal.returns
returns g c =
    asks g.F.Field.structure c.args.words.now c.args.marks.now c.args.absent.now (length c.args.absent.now)
    (omega (arith, c.requires.listed.many, c.requires.admitted.few)) c.from_fn-columns.result c.present_sums.result c.present_sums.ensures
    (λ j l k h. let made = c.from_fn-columns.ensures j (omega (arith, c.requires.listed.many, c.requires.admitted.few)) in search rules)
    c.equations.result c.equations.ensures
