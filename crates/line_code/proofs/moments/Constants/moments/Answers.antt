-- No bit, one more, and all of them.
use Rattle.std.proofs.Common.{arith}
use Rattle.line_code.proofs.BitByBit.{so_far_none, so_far_more, so_far_all}
use Rattle.line_code.proofs.moments.Constants.moments.Goals as goal

pub loop-k-init : goal.loop-k-init
loop-k-init g c line gives = so_far_none g.F.Field.structure line _ _ _ _ _ c.zero-first.ensures c.zero-second.ensures c.zero-cubes.ensures c.zero-pairs.ensures

pub loop-k-preserved : goal.loop-k-preserved
loop-k-preserved g c line gives =
    so_far_more g.F.Field.structure line _ c.loop-k.k _ _ _ _ c.shares-share.result c.sum.result c.mixed_sum.result _ _ _ _ (c.loop-k.invariant line gives)
    c.shares-share.ensures (gives _ _ c.loop-k-test.true c.sum.ensures) (c.mixed_sum.ensures line gives)
    c.plus-first.ensures c.plus-second.ensures c.plus-cubes.ensures c.plus-pairs.ensures

pub returns : goal.returns
returns g c line gives =
    so_far_all g.F.Field.structure line _ c.loop-k.k _ _ _ _ _ _ (omega arith) (c.loop-k.invariant line gives) (gives _ _ tt c.sum-2.ensures) c.plus.ensures
