use Rattle.std.proofs.Common.{◌≡◌, ◌+◌, length, get_or, None, sym, ◌∙◌, subst}
use Rattle.rules.specs.Known.{front_of}
use Rattle.rules.specs.Rules.{why_cell}
use Rattle.rules.specs.Effects.{Got}
use Rattle.book.specs.Kept.{Kept}
use Rattle.book.specs.Known.{knows}
use Rattle.book.proofs.Getting.{got_line}
use Rattle.book.proofs.book.Book.get.Goals as goal

pub returns-clause-gives : goal.returns-clause-gives
returns-clause-gives g c =
    let s = g.F.Field.structure in
    let m = g.R.Reading.meaning c.args.rack.now in
    let item = c.args.item in
    let line = c.args.line in
    let room = length c.args.sheet.now in
    let admitted = c.in_ok-admit_cell.ensures.after in
    let same = c.in_default.ensures.after ∙ admitted in
    let cell = subst (λ (b : Kept). why_cell (knows b) (front_of m) room item line ≡ None) (sym c.self.view_is) (sym c.in_ok-admit_cell.ensures.refused) in
    subst (λ (b : Kept). Got s (knows b) m item line (get_or c.restore_line.new.sheet (item + 4) 0)) c.self.view_is
    (got_line s _ m room item line c.self.invariant.fits cell _ admitted (sym c.in_default.ensures.word) _ same (sym c.in_ok-restore_line.ensures.refused) c.args.sheet.now c.restore_line.new.sheet c.in_ok-restore_line.ensures.restored).1
