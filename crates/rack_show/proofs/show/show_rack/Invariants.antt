-- The rack means what it meant.
use Rattle.std.proofs.Common.{◌≡◌}
use Rattle.rack_show.proofs.show.show_rack.Given as goal

abbrev pub invariant-loop-line : goal.invariant-loop-line
invariant-loop-line g l = g.R.Reading.meaning l.rack ≡ g.R.Reading.meaning l.initial.rack
