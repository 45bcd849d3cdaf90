use Rattle.std.proofs.Common.{◌≡◌}
use Rattle.worksheet.specs.Present.{present}
use Rattle.worksheet.specs.Lines.{marked, word_at}
use Rattle.worksheet.proofs.Sofar.{Sofar}
use Rattle.worksheet.proofs.looking.survey.Given as goal

abbrev pub invariant-loop-bay : goal.invariant-loop-bay
invariant-loop-bay g l =
    let m = g.R.Reading.meaning l.initial.rack in
    record {
      same : g.R.Reading.meaning l.rack ≡ m;
      sofar : Sofar l.items (present m.switch (marked l.behind)) (word_at g.F.Field.structure m l.line) l.bay l.found l.wanted;
    }
