-- Each turn passes a bay, and lists it where it is absent.
use Rattle.std.proofs.Common.{◌≡◌, ◌+◌, ◌∙◌, true, false, length, sym, ap, subst, lit<, arith}
use Rattle.std.proofs.lemmas.Bool.Decides.{nat_tests}
use Rattle.restore.specs.Restored.{absent}
use Rattle.restore.specs.Absences.{Absences}
use Rattle.restore.proofs.Counting.{room, absences_none, absences_skip, absences_put}
use Rattle.restore.proofs.bays.absent_bays.Goals as goal
use Rattle.restore.proofs.bays.absent_bays.Goals.{then-mark-ne0, else-mark-ne0}

pub loop-bay-init : goal.loop-bay-init
loop-bay-init c = subst (Absences (absent c.args.marks.now) 0) (sym c.new-bays.ensures) (absences_none (absent c.args.marks.now))

pub push-requires : goal.push-requires
push-requires c =
    let marks = c.args.marks.now in
    let on : absent marks c.loop-bay.bay ≡ true = grind (arith, nat_tests) in
    (lit< tt, room (absent marks) c.loop-bay.bay c.loop-bay.bays.items c.loop-bay.invariant (length marks) on (omega arith) c.requires)

pub loop-bay-preserved : goal.loop-bay-preserved
loop-bay-preserved c =
    let marks = c.args.marks.now in
    let bay = c.loop-bay.bay in
    let sofar = c.loop-bay.invariant in
    elim c.if-mark-ne0.branch [
      | then-mark-ne0 w ↦ let on : absent marks bay ≡ true = grind (arith, nat_tests) in
          subst (Absences (absent marks) (bay + 1)) (sym (ap (λ v. v.items) w.bays-is ∙ w.push.ensures.items)) (absences_put (absent marks) bay _ sofar on)
      | else-mark-ne0 w ↦ let off : absent marks bay ≡ false = grind (arith, nat_tests) in
          subst (Absences (absent marks) (bay + 1)) (sym (ap (λ v. v.items) w.bays-is)) (absences_skip (absent marks) bay _ sofar off)
    ]
