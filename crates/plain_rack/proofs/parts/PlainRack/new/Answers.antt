-- A new rack has all its switches on.
use Rattle.std.proofs.Common.{vec_items}
use Rattle.plain_rack.proofs.Places.{all_on}
use Rattle.plain_rack.proofs.parts.PlainRack.new.Goals as goal

pub returns : goal.returns
returns c =
    let shape = c.args.shape in
    all_on shape.bays shape.lines (vec_items c.args.words) shape.few_bays
