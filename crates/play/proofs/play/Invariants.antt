use Rattle.std.proofs.Common.{length, string_bytes}
use Rattle.frame.specs.Reading.{bytes_left}
use Rattle.play.proofs.Beginnings.{Waits}
use Rattle.play.proofs.play.Given as goal

abbrev pub invariant-loop-placed : goal.invariant-loop-placed
invariant-loop-placed l = Waits l.initial.round (string_bytes l.initial.text) l.round (string_bytes l.text)

abbrev pub decreases-loop-placed : goal.decreases-loop-placed
decreases-loop-placed l = length (bytes_left l.round.reader)
