-- The place is below 2^8.
use Rattle.std.proofs.Common.{arith}
use Rattle.halves.proofs.Gathering.{place_lt}
use Rattle.line_code.specs.Sets.{holds}
use Rattle.line_code.proofs.gathering.fn.gathered_sums.moments.Goals as goal

pub offset_bounds-run-place : goal.offset_bounds-run-place
offset_bounds-run-place g c = omega (arith, c.place.ensures, place_lt (holds c.args.set) 8)

pub bounds-run-place : goal.bounds-run-place
bounds-run-place g c = omega (arith, c.place.ensures, place_lt (holds c.args.set) 8)
