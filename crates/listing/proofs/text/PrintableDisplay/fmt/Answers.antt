use Rattle.std.proofs.Common.{map, is_ok, ap, take_all}
use Rattle.std.proofs.Output.{has_written_append, has_written_of_eq}
use Rattle.listing.specs.Text.{visible}
use Rattle.listing.proofs.Printing.{one_more}
use Rattle.listing.proofs.text.PrintableDisplay.fmt.Goals as goal

pub loop-byte-preserved : goal.loop-byte-preserved
loop-byte-preserved g c plain =
    let sofar = c.loop-byte.invariant plain in
    let wrote = c.write_char.ensures.writes sofar.plain (ap is_ok c.in_ok-write_char.was) in
    has_written_of_eq _ _ _ _ _ (one_more c.args.self.now.0.now c.loop-byte.byte-index _ c.loop-byte-test.true c.visible.ensures) (has_written_append _ _ _ _ _ _ sofar wrote)

pub returns-clause-writes : goal.returns-clause-writes
returns-clause-writes g c plain ok =
    has_written_of_eq _ _ _ _ _ (ap (map visible) (take_all _ c.args.self.now.0.now c.loop-byte-test.false)) (c.loop-byte.invariant plain)
