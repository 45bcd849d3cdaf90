-- The line is copied over the first of the zeros.
use Rattle.line_code.proofs.Filled.{padded_is}
use Rattle.line_code.proofs.gathering.pad.Goals as goal

pub returns : goal.returns
returns c = padded_is c.args.words.now c.copy_from_slice.new.self c.copy_from_slice.ensures.after
