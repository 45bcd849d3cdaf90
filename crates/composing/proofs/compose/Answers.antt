use Rattle.std.proofs.Common.{◌≡◌, ◌++◌, Err, List, ℕ, length, eqb, vec_items, sym, refl, ap, ◌∙◌, subst, rules, tests, arith, length-append}
use Rattle.std.proofs.lemmas.Slice.{pushed}
use Rattle.std.proofs.lemmas.Iterator.Consumers.{YieldsList-from_enumerate, YieldsList-at}
use Rattle.std.proofs.lemmas.Iterator.Splits.{YieldsList-from_slice_split}
use Rattle.frame.specs.Format.{bytes_of}
use Rattle.composing.specs.Composed.{Answers}
use Rattle.composing.proofs.Turns.{Turn, turn_none, turn_end, turn_quiet, turn_refused, turn_overlong, turn_more, here, all_seen, seen_in_more}
use Rattle.composing.proofs.compose.Goals as goal

pub loop-before-init : goal.loop-before-init
loop-before-init c = turn_none _ c.new-file.ensures.items

pub loop-before-preserved-then-is_silent : goal.loop-before-preserved-then-is_silent
loop-before-preserved-then-is_silent c =
    subst (λ seen. Turn seen (vec_items c.loop-before.file)) (sym (seen_in_more c.loop-before.yielded (c.in-Some.before, c.in-Some.line)))
    (turn_quiet c.loop-before.invariant c.in-Some.line.now (sym c.if-is_silent.ensures))

pub loop-before-preserved : goal.loop-before-preserved
loop-before-preserved c =
    let made = c.in_ok-bytes.ensures in
    let file = pushed c.as_slice.result.now refl c.in_ok-extend_from_slice.was c.extend_from_slice.ensures.items
    ∙ ap (λ (l : List ℕ). vec_items c.loop-before.file ++ l) (c.as_slice.ensures.value ∙ made.2) in
    subst (λ seen. Turn seen (vec_items c.extend_from_slice.new.self)) (sym (seen_in_more c.loop-before.yielded (c.in-Some.before, c.in-Some.line)))
    (turn_more c.loop-before.invariant c.in-Some.line.now (sym c.if-is_silent.ensures) made.0 _ made.1 file
    (omega (
      arith,
      c.if-len-gt-LONGEST_FILE.false,
      c.len.ensures,
      c.len-in-loop-before.ensures,
      c.loop-before.file.ok.0,
      c.in_ok-bytes.bytes.ok.0,
      ap length made.2,
      ap length file ∙ length-append (vec_items c.loop-before.file) (bytes_of made.0),
    )))

pub returns-in_err-bytes : goal.returns-in_err-bytes
returns-in_err-bytes c =
    let at = here c.args.text.now
    (YieldsList-at c.into_iter-before-iterator.ensures.into_iter_gives
    (YieldsList-from_enumerate
    (YieldsList-at c.enumerate-before-items.ensures.source
    (YieldsList-from_slice_split _ (λ byte. eqb byte 10) c.args.text.now c.split.ensures.rest c.split.ensures.done c.split.ensures.closure (λ x b q k. search (rules, tests))))
    c.enumerate-before-items.ensures.count))
    c.loop-before.yielded c.loop-before.before-iterator c.loop-before.yielded_by c.next.result c.next.new.self c.next.ensures.steps c.in-Some.before c.in-Some.line c.in-Some.is in
    let same : c.from_residual.result ≡ Err c.in_err-bytes.field-0.0 = search rules in
    subst (Answers c.args.text.now) (sym same)
    (turn_refused c.loop-before.invariant c.in-Some.line.now (sym c.if-is_silent.ensures) c.args.text.now _ at.1 at.2 (omega (arith, at.0)) _ c.in_err-bytes.ensures)

pub returns-then-len-gt-LONGEST_FILE : goal.returns-then-len-gt-LONGEST_FILE
returns-then-len-gt-LONGEST_FILE c =
    let made = c.in_ok-bytes.ensures in
    let at = here c.args.text.now
    (YieldsList-at c.into_iter-before-iterator.ensures.into_iter_gives
    (YieldsList-from_enumerate
    (YieldsList-at c.enumerate-before-items.ensures.source
    (YieldsList-from_slice_split _ (λ byte. eqb byte 10) c.args.text.now c.split.ensures.rest c.split.ensures.done c.split.ensures.closure (λ x b q k. search (rules, tests))))
    c.enumerate-before-items.ensures.count))
    c.loop-before.yielded c.loop-before.before-iterator c.loop-before.yielded_by c.next.result c.next.new.self c.next.ensures.steps c.in-Some.before c.in-Some.line c.in-Some.is in
    turn_overlong c.loop-before.invariant c.in-Some.line.now (sym c.if-is_silent.ensures) c.args.text.now _ at.1 at.2 (omega (arith, at.0)) made.0 made.1
    (omega (
      arith,
      c.if-len-gt-LONGEST_FILE.true,
      c.len.ensures,
      c.len-in-loop-before.ensures,
      c.loop-before.file.ok.0,
      c.in_ok-bytes.bytes.ok.0,
      ap length made.2,
    ))

pub returns : goal.returns
returns c =
    turn_end c.loop-before.invariant (all_seen c.args.text.now
    (YieldsList-at c.into_iter-before-iterator.ensures.into_iter_gives
    (YieldsList-from_enumerate
    (YieldsList-at c.enumerate-before-items.ensures.source
    (YieldsList-from_slice_split _ (λ byte. eqb byte 10) c.args.text.now c.split.ensures.rest c.split.ensures.done c.split.ensures.closure (λ x b q k. search (rules, tests))))
    c.enumerate-before-items.ensures.count))
    c.loop-before.yielded c.loop-before.before-iterator c.loop-before.yielded_by c.next.result c.next.new.self c.next.ensures.steps c.in-None.is)
