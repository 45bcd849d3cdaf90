-- The bays passed are laid out.
use Rattle.std.proofs.Common.{◌≡◌, ℕ, ◌<◌, not, length, get_or, None, is_some, unwrap_or}
use Rattle.restore.specs.Restored.{absent}
use Rattle.worksheet.proofs.restoring.lay_out.Given as goal

abbrev pub invariant-loop-bay : goal.invariant-loop-bay
invariant-loop-bay l = record {
  long_words : length l.words ≡ length l.initial.words;
  long_marks : length l.marks ≡ length l.initial.marks;
  words_at : (bay : ℕ) → bay < l.bay → get_or l.words bay 0 ≡ unwrap_or (get_or l.found bay None) 0;
  marks_at : (bay : ℕ) → bay < l.bay → absent l.marks bay ≡ not (is_some (get_or l.found bay None));
}
