use Rattle.std.proofs.Common.{◌≡◌, not, length, take, None, is_some, unwrap_or, ap, ◌∙◌, length-take-le, get_or-take, arith}
use Rattle.worksheet.specs.Lines.{marked}
use Rattle.worksheet.proofs.Sheet.{refused_absent, accepted}
use Rattle.worksheet.proofs.restoring.restore_line.Goals as goal

pub returns-then-absent-gt4-clause-refused : goal.returns-then-absent-gt4-clause-refused
returns-then-absent-gt4-clause-refused g c =
    let few = c.bays-bays.ensures.ranges.few_bays in
    let m = g.R.Reading.meaning c.args.rack.now in
    let lines : c.lines.result ≡ m.lines = c.lines.ensures.answer ∙ ap (λ x. x.lines) c.bays-bays.ensures.after in
    refused_absent g.F.Field.structure m (marked c.args.behind.now) c.args.sheet.now c.args.line _ c.bays-bays.ensures.answer c.if-bays-lt5.false (omega arith) c.if-sheet-bays.false (omega arith) _ (c.lines.ensures.after ∙ c.bays-bays.ensures.after)
    _ c.survey-found.ensures.found few _ c.count_absent-absent.ensures c.if-absent-gt4.true

pub returns : goal.returns
returns g c =
    let few = c.bays-bays.ensures.ranges.few_bays in
    let m = g.R.Reading.meaning c.args.rack.now in
    let lines : c.lines.result ≡ m.lines = c.lines.ensures.answer ∙ ap (λ x. x.lines) c.bays-bays.ensures.after in
    let same = c.lines.ensures.after ∙ c.bays-bays.ensures.after in
    let bays = c.bays-bays.result in
    let seen = c.survey-found.result in
    let laid = c.lay_out.ensures in
    let all : length (take bays seen) ≡ bays = length-take-le bays seen (omega (arith, few, c.survey-found.ensures.found.long)) in
    let done = accepted g.F.Field.structure m (marked c.args.behind.now) c.args.sheet.now c.args.line _ c.bays-bays.ensures.answer c.if-bays-lt5.false (omega arith) c.if-sheet-bays.false (omega arith) _ same
    _ c.survey-found.ensures.found few _ c.count_absent-absent.ensures _ _ laid.long_words (omega (arith, few, laid.long_marks))
    (λ bay h. laid.words bay (omega (arith, all)) ∙ ap (λ o. unwrap_or o 0) (get_or-take bays seen bay None h))
    (λ bay h. laid.marks bay (omega (arith, all)) ∙ ap (λ o. not (is_some o)) (get_or-take bays seen bay None h))
    c.if-absent-gt4.false c.restore.result _ c.restore.ensures in
    record { refused = done.0; restored = done.1; kept = done.2; after = c.survey-found.ensures.after ∙ same }
