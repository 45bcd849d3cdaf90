use Rattle.std.proofs.Common.{◌≡◌, vec_len}
use Rattle.frame_ranges.proofs.lengths.Given as goal

abbrev pub invariant-loop-length : goal.invariant-loop-length
invariant-loop-length l = vec_len l.file ≡ 65539
