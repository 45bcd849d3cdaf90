use Rattle.std.proofs.Common.{◌≡◌, ℕ, List, length, Ok, Err, sym, refl, subst, subst₂, arith}
use Rattle.fault.specs.declared.fault.BookFault.TheVariants.{NoCodeword}
use Rattle.field.specs.Structure.{Structure}
use Rattle.extension.specs.Extend.{extend}
use Rattle.elimination.specs.Answer.{Answer}
use Rattle.restore.specs.Restored.{absent, Restored, Admitted, NoLine}
use Rattle.restore.specs.Absences.{Absences}
use Rattle.restore.proofs.Admitting.{admitted}
use Rattle.restore.proofs.Solving.{whole, never_solved}
use Rattle.restore.proofs.restoring.restore.Goals as goal

-- the absent bays are listed as far as the words go
listed_all : {K : Type 0} (s : Structure K) (bays marks places items : List ℕ) → Admitted s bays marks → Absences (absent marks) (length marks) items → places ≡ items
    → Absences (absent marks) (length bays) places
listed_all s bays marks places items ok listed e =
    subst (λ n. Absences (absent marks) n places) ok.marked (subst (Absences (absent marks) (length marks)) (sym e) listed)

pub system-system-requires : goal.system-system-requires
system-system-requires g c =
    let s = g.F.Field.structure in
    let ok = admitted s c.args.words.now c.args.marks.now (sym c.in_ok-admit.ensures) in
    record { admitted = ok; listed = listed_all s _ _ _ _ ok c.absent_bays-absent.ensures c.as_slice-bays.ensures.value }

pub returns-in_err-found : goal.returns-in_err-found
returns-in_err-found g c =
    let s = g.F.Field.structure in
    let words = c.args.words.now in
    let marks = c.args.marks.now in
    let ok = admitted s words marks (sym c.in_ok-admit.ensures) in
    let listed = listed_all s words marks _ _ ok c.absent_bays-absent.ensures c.as_slice-bays.ensures.value in
    let answer : c.from_residual-in_err-found.result ≡ Err NoCodeword = grind arith in
    let none : NoLine s words marks =
    never_solved s words marks c.as_slice-bays.result.now ok listed c.system-system.result c.system-system.ensures c.solve.result c.solve.ensures (λ x e. grind arith) in
    subst₂ (λ o r. Restored s o words marks r words) c.in_ok-admit.ensures (sym answer) (refl, refl, none)

pub returns : goal.returns
returns g c =
    let s = g.F.Field.structure in
    let words = c.args.words.now in
    let marks = c.args.marks.now in
    let ok = admitted s words marks (sym c.in_ok-admit.ensures) in
    let listed = listed_all s words marks _ _ ok c.absent_bays-absent.ensures c.as_slice-bays.ensures.value in
    let bays = c.as_slice-bays.result.now in
    let solved : c.solve.result ≡ Ok c.in_ok-found.found = grind arith in
    let answer : Answer (extend s) c.system-system.result (length bays) (Ok c.in_ok-found.found) = subst (Answer (extend s) c.system-system.result (length bays)) solved c.solve.ensures in
    subst (λ o. Restored s o words marks (Ok tt) c.fill.new.words) c.in_ok-admit.ensures
    (whole s words marks bays ok listed c.system-system.result c.system-system.ensures c.in_ok-found.found c.fill.new.words answer.1.solves c.fill.ensures)
