use Rattle.std.proofs.Common.{string_bytes}
use Rattle.listing.proofs.Turns.{Turn}
use Rattle.listing.proofs.list.Given as goal

abbrev pub invariant-loop-number : goal.invariant-loop-number
invariant-loop-number l = Turn l.file l.number-iterator.count (string_bytes l.text) l.number-iterator.iter
