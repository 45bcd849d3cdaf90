use Rattle.line_show.proofs.strike.Trials.+strike_below.Given as goal

abbrev pub decreases-strike_below : goal.decreases-strike_below
decreases-strike_below g l = l.more
