-- The sums of the bays passed, and what is left of the two lists.
use Rattle.std.proofs.Common.{◌≡◌, ◌≤◌, drop, length}
use Rattle.restore.proofs.PresentSums.{Sums}
use Rattle.restore.proofs.restoring.present_sums.Given as goal

abbrev pub invariant-loop-bay : goal.invariant-loop-bay
invariant-loop-bay g l = record {
  sums : Sums g.F.Field.structure l.fn.words l.fn.marks l.bay-iterator.count l.sums;
  within : l.bay-iterator.count ≤ length l.fn.words;
  words_left : l.bay-iterator.iter.a.rest.now ≡ drop l.bay-iterator.count l.fn.words;
  marks_left : l.bay-iterator.iter.b.rest.now ≡ drop l.bay-iterator.count l.fn.marks;
}
