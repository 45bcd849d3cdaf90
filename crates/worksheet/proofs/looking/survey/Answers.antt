use Rattle.std.proofs.Common.{◌-◌, refl, ap, ◌∙◌}
use Rattle.rack.specs.Meaning.{Meaning}
use Rattle.worksheet.specs.Present.{present}
use Rattle.worksheet.specs.Lines.{marked, word_at}
use Rattle.worksheet.proofs.Sofar.{word_if, sofar_none, look_full, look_absent, look_present}
use Rattle.worksheet.proofs.looking.survey.Goals as goal

pub loop-bay-init : goal.loop-bay-init
loop-bay-init g c = record { same = refl; sofar = sofar_none _ _ _ c.requires.few }

pub loop-bay-preserved-in-Some : goal.loop-bay-preserved-in-Some
loop-bay-preserved-in-Some g c =
    let so = c.loop-bay.invariant in
    let bay = c.loop-bay.bay - 1 in
    record {
      same = c.in-Some.ensures.after ∙ so.same;
      sofar = look_present _ _ _ _ _ _ so.sofar c.loop-bay-test.true c.loop-bay.auto.bay c.requires.few c.if-wanted-gt0.true c.in-Some.word
          (c.in-Some.ensures.word ∙ ap (λ (m : Meaning). word_if (present m.switch (marked c.args.behind.now) bay) (word_at g.F.Field.structure m c.args.line bay)) so.same);
    }

pub loop-bay-preserved-in_default : goal.loop-bay-preserved-in_default
loop-bay-preserved-in_default g c =
    let so = c.loop-bay.invariant in
    let bay = c.loop-bay.bay - 1 in
    record {
      same = c.in_default.ensures.after ∙ so.same;
      sofar = look_absent _ _ _ _ _ _ so.sofar c.loop-bay-test.true c.loop-bay.auto.bay
          (c.in_default.ensures.word ∙ ap (λ (m : Meaning). word_if (present m.switch (marked c.args.behind.now) bay) (word_at g.F.Field.structure m c.args.line bay)) so.same);
    }

pub loop-bay-preserved : goal.loop-bay-preserved
loop-bay-preserved g c =
    let so = c.loop-bay.invariant in
    record { same = so.same; sofar = look_full _ _ _ _ _ _ so.sofar c.loop-bay-test.true c.loop-bay.auto.bay c.if-wanted-gt0.false }
