-- The columns before n are unit columns, and the solutions are those of the rows passed.
use Rattle.systems.specs.Rows.{Same, Units}
use Rattle.elimination.specs.Equations.{table}
use Rattle.elimination.proofs.system.eliminate.Given as goal

abbrev pub invariant-loop-n : goal.invariant-loop-n
invariant-loop-n g l =
    Same g.F.Field.structure l.unknowns (table g.F.Field.structure l.initial.rows) (table g.F.Field.structure l.rows)
    × Units g.F.Field.structure (table g.F.Field.structure l.rows) l.n
