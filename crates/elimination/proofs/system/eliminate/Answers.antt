-- A turn is a round of the elimination; without a pivot the columns are dependent.
use Rattle.std.proofs.Common.{◌<◌, sym, subst, arith}
use Rattle.systems.proofs.Operations.{same_trans}
use Rattle.systems.proofs.Columns.{same_self, units_none, round_same, round_units}
use Rattle.systems.proofs.Ends.{dependent}
use Rattle.elimination.specs.Answer.{Eliminated}
use Rattle.elimination.specs.Equations.{table}
use Rattle.elimination.proofs.system.eliminate.Goals as goal

pub loop-n-init : goal.loop-n-init
loop-n-init g c =
    let s = g.F.Field.structure in
    (same_self s c.args.unknowns (table s c.args.rows), units_none s (table s c.args.rows))

pub returns-in_err-p : goal.returns-in_err-p
returns-in_err-p g c =
    let s = g.F.Field.structure in
    subst (Eliminated s c.args.rows c.args.unknowns) (sym c.from_residual.ensures)
    (dependent s (table s c.args.rows) (table s c.loop-n.rows) c.loop-n.n c.args.unknowns c.requires c.loop-n-test.true
    c.loop-n.invariant.0 c.loop-n.invariant.1 (λ r h k. c.in_err-p.ensures r (omega arith) k))

pub loop-n-preserved : goal.loop-n-preserved
loop-n-preserved g c =
    let s = g.F.Field.structure in
    let found = c.in_ok-p.ensures in
    let near : c.loop-n.n < 4 = omega arith in (
      same_trans s c.args.unknowns (table s c.args.rows) (table s c.loop-n.rows) (table s c.clear-rows.result) c.loop-n.invariant.0
          (round_same s c.args.unknowns c.loop-n.n c.in_ok-p.p c.requires near found.0 found.1
          (table s c.loop-n.rows) (table s c.exchange.result) (table s c.scale.result) (table s c.clear-rows.result) found.2
          c.exchange.ensures c.scale.ensures c.clear-rows.ensures),
      round_units s c.args.unknowns c.loop-n.n c.in_ok-p.p c.requires near found.0 found.1
          (table s c.loop-n.rows) (table s c.exchange.result) (table s c.scale.result) (table s c.clear-rows.result) found.2
          c.exchange.ensures c.scale.ensures c.clear-rows.ensures c.loop-n.invariant.1,
    )
