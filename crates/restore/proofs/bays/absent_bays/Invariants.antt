use Rattle.restore.specs.Restored.{absent}
use Rattle.restore.specs.Absences.{Absences}
use Rattle.restore.proofs.bays.absent_bays.Given as goal

abbrev pub invariant-loop-bay : goal.invariant-loop-bay
invariant-loop-bay l = Absences (absent l.marks) l.bay l.bays.items
