use Rattle.std.proofs.Common.{length, sym, ap, ◌∙◌, subst}
use Rattle.rules.specs.Known.{front_of}
use Rattle.worksheet.specs.Lines.{marked, OnSheet}
use Rattle.book.specs.Kept.{Kept}
use Rattle.book.specs.Known.{knows}
use Rattle.rules.proofs.Refusals.{good}
use Rattle.book.proofs.Posting.{line_sent}
use Rattle.book.proofs.book.Book.post.Goals as goal

pub returns-clause-posted : goal.returns-clause-posted
returns-clause-posted g c =
    let s = g.F.Field.structure in
    let k = knows c.args.self.now in
    let m = g.R.Reading.meaning c.args.rack.now in
    let same = c.in_ok-admit_cell.ensures.after in
    let ok = good k (front_of m) (length c.args.sheet.now) c.args.item c.args.line (sym c.in_ok-admit_cell.ensures.refused) in
    let line = c.in_ok-restore_line.ensures in
    let restored = subst (λ (b : Kept). OnSheet s (g.R.Reading.meaning c.admit_cell.new.rack) (marked b.behind) c.args.line c.args.sheet.now c.restore_line.new.sheet) c.self.view_is line.restored in
    line_sent s k m c.args.line _ _ ok.bays _ same restored c.args.item c.args.word ok.item_below _ (ap (λ (b : Kept). b.items) c.self.view_is) _ c.set_item.ensures.revised _ (line.after ∙ same) _ _ c.send_line.ensures
