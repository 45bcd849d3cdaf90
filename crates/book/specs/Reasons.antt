-- The first reasons of a get, a post or a mend. Assumes nothing.
use Rattle.std.specs.Prelude.{ℕ, ◌+◌, Option, nat_lt}
use Rattle.fault.specs.Refusing.{when, or_else}
use Rattle.fault.specs.declared.fault.BookFault.{BookFault}
use Rattle.fault.specs.declared.fault.BookFault.TheVariants.{ListLength}
use Rattle.rules.specs.Known.{Known, Front}
use Rattle.rules.specs.Rules.{why_seat}

-- The rack does not belong to the book, or the worksheet, which has so many places, is too short.
abbrev pub why_sheet : Known → Front → ℕ → Option BookFault
why_sheet k f room = or_else (why_seat k f) (when (nat_lt room (k.items + 4)) (ListLength room))
