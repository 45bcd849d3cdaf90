use Rattle.std.proofs.Common.{◌+◌, length, get_or, vec_items, refl, ap, ◌∙◌, sym, arith}
use Rattle.std.proofs.lemmas.List.{get_or_default}
use Rattle.field.specs.Structure.{size}
use Rattle.book.specs.Known.{knows}
use Rattle.call.specs.declared.Call.TheVariants.{Post, Seat}
use Rattle.ledger.proofs.Histories.{history_at, history_none, history_step, history_all}
use Rattle.bank.specs.Drawers.{known_of, open_bay}
use Rattle.bank.proofs.Starts.{first_of, first_sound, first_stands}
use Rattle.bank.proofs.runs.run.Goals as goal

pub loop-call-init : goal.loop-call-init
loop-call-init g c =
    let s = g.F.Field.structure in
    let made = c.in_ok-answers.ensures in
    let none = sym c.in_ok-start.ensures.refused in
    let sound = first_sound s c.args.items _ _ (knows c.in_ok-start.field-0) none c.in_ok-start.ensures.book c.in_ok-start.ensures.rack in
    let stands = first_stands s c.args.items _ _ (knows c.in_ok-start.field-0) none c.in_ok-start.ensures.book c.in_ok-start.ensures.rack in
    record {
      many = made.len;
      room = made.capacity;
      long = refl;
      sound = sound;
      history = λ w look. rw made.items (history_none s known_of open_bay g.R.Reading.meaning g.W.Watch.sees _ (length c.args.sheet.now) sound (λ i l. refl) stands look);
    }

pub loop-call-preserved : goal.loop-call-preserved
loop-call-preserved g c =
    let s = g.F.Field.structure in
    let old = c.loop-call.invariant in
    let inside = c.loop-call-test.true in
    let turned = rw old.long at c.turn.ensures.turned in
    record {
      many = c.push_reserved.ensures.len ∙ ap (λ n. n + 1) old.many;
      room = omega (arith, old.room, c.push_reserved.ensures.capacity);
      long = c.turn.ensures.long ∙ old.long;
      sound = old.sound;
      history = λ w look. history_step s known_of open_bay g.R.Reading.meaning g.W.Watch.sees _ (length c.args.sheet.now) old.sound (λ i l. refl)
          c.args.calls.now c.loop-call.call-index inside (vec_items c.loop-call.answers) _ (old.history w look)
          (get_or c.args.calls.now c.loop-call.call-index (Post 0 0 0)) c.turn.result.1 c.turn.result.0 c.turn.new.rack _
          (get_or_default c.args.calls.now c.loop-call.call-index (Post 0 0 0) Seat inside) c.push_reserved.ensures.items turned c.look-in-loop-call.ensures;
    }

pub returns-clause-history : goal.returns-clause-history
returns-clause-history g c =
    let s = g.F.Field.structure in
    let done = c.loop-call.invariant in
    history_at s known_of open_bay g.R.Reading.meaning g.W.Watch.sees (ap (first_of (size s) c.args.items) (sym c.in_ok-start.ensures.rack)) refl refl
    (history_all s known_of open_bay g.R.Reading.meaning g.W.Watch.sees _ (length c.args.sheet.now) done.sound (λ i l. refl)
    c.args.calls.now c.loop-call.call-index (omega arith) _ (done.history c.args.watch.now c.look.ensures))
