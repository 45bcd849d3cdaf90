-- A push is one entry more.
use Rattle.std.proofs.Common.{zero-add, rules}
use Rattle.std.proofs.lemmas.List.FromFn.{map-range_with_len_more}
use Rattle.rack.specs.Calls.{entry_of}
use Rattle.rack_listing.proofs.list_line.Goals as goal

pub loop-bay-preserved : goal.loop-bay-preserved
loop-bay-preserved g c =
    let bay = c.loop-bay.bay in
    let more = map-range_with_len_more (entry_of (g.R.Reading.meaning c.bays-bays.new.self) c.args.line) 0 bay bay (zero-add bay) in
    search rules
