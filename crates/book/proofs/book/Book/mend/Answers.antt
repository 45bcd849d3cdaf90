use Rattle.std.proofs.Common.{◌≡◌, length, sym, refl, ap, subst, arith}
use Rattle.rules.specs.Effects.{Mended}
use Rattle.book.specs.Kept.{Kept}
use Rattle.book.specs.Known.{knows}
use Rattle.rules.proofs.Knowing.{same_known}
use Rattle.book.proofs.Mending.{Mending, still_ready, mending_none, mending_more, mended}
use Rattle.book.proofs.book.Book.mend.Goals as goal

pub loop-line-init : goal.loop-line-init
loop-line-init g c =
    let sheet = c.args.sheet.now in
    let ok = still_ready _ _ c.args.bay (length sheet) _ (ap knows c.self.view_is) _ c.in_ok-admit_bay.ensures.after c.in_ok-admit_bay.ensures.ready in
    mending_none g.F.Field.structure _ (g.R.Reading.meaning c.admit_bay.new.rack) c.args.bay ok.behind sheet

pub loop-line-preserved : goal.loop-line-preserved
loop-line-preserved g c =
    let sheet = c.args.sheet.now in
    let ok = still_ready _ _ c.args.bay (length sheet) _ (ap knows c.self.view_is) _ c.in_ok-admit_bay.ensures.after c.in_ok-admit_bay.ensures.ready in
    let line = c.in_ok-restore_line.ensures in
    mending_more g.F.Field.structure _ _ c.args.bay ok.behind sheet c.loop-line.line c.loop-line.sheet (g.R.Reading.meaning c.loop-line.rack) c.loop-line.invariant ok (omega (arith, ok.lines)) c.self.invariant.some c.self.invariant.fits
    c.restore_line.new.sheet line.restored (sym line.refused) (g.R.Reading.meaning c.restore_line.new.rack) (g.R.Reading.meaning c.write.new.self) line.after c.in_ok-write.ensures.after

pub returns-clause-mended : goal.returns-clause-mended
returns-clause-mended g c =
    let s = g.F.Field.structure in
    let m = g.R.Reading.meaning c.admit_bay.new.rack in
    let m₁ = g.R.Reading.meaning c.loop-line.rack in
    let bay = c.args.bay in
    let sheet = c.args.sheet.now in
    let k = knows record { items = c.self.inside.items; lines = c.self.inside.lines; behind = c.self.inside.behind } in
    let ok = still_ready _ _ bay (length sheet) k (ap knows c.self.view_is) m c.in_ok-admit_bay.ensures.after c.in_ok-admit_bay.ensures.ready in
    let every : c.loop-line.line ≡ m.lines = omega (arith, ok.lines) in
    let so = subst (λ n. Mending s k m bay sheet n m₁ c.loop-line.sheet) every c.loop-line.invariant in
    let k₁ = knows record { items = c.self.inside.items; lines = c.self.inside.lines; behind = c.remove.new.self } in
    let cleared = same_known k₁ _ refl refl c.remove.ensures in
    subst (λ (b : Kept). Mended s (knows b) (g.R.Reading.meaning c.args.rack.now) bay k₁ m₁) c.self.view_is
    (mended s k m bay ok.behind sheet c.loop-line.sheet m₁ so ok (g.R.Reading.meaning c.args.rack.now) c.in_ok-admit_bay.ensures.after k₁ cleared)
