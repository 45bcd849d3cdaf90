use Rattle.std.proofs.Common.{length, refl, ap, arith}
use Rattle.round.proofs.Steps.{onward, stays, reads_then, reads_place, reads_end}
use Rattle.round.proofs.rounds.RoundIterator.next.Goals as goal

pub invariant_of-self : goal.invariant_of-self
invariant_of-self c =
    let one = c.in_err-answer.ensures.steps in
    let old = c.args.self.now in
    record {
      counted = omega (arith, stays old.reader c.next.new.self one, old.counted);
      fits = omega (arith, old.fits, ap length one.0);
      bytes = rw one.0 old.bytes;
    }

pub overflow_add-self : goal.overflow_add-self
overflow_add-self c =
    let one = c.in_ok-answer.ensures.steps in
    let on = onward c.args.self.now.reader c.next.new.self one.0 (c.in_ok-answer.ensures.goes.on tt).2 in
    omega (arith, on, c.args.self.now.counted, c.next.new.self.within, ap length one.0)

pub returns-in_err-answer-clause-steps : goal.returns-in_err-answer-clause-steps
returns-in_err-answer-clause-steps c = rw c.from_residual.ensures (reads_end c.args.self.now.reader c.next.new.self c.in_err-answer.ensures.steps)

pub returns-clause-steps : goal.returns-clause-steps
returns-clause-steps c =
    let s = c.args.self.now.reader in
    let t = c.next.new.self in
    let one = c.in_ok-answer.ensures.steps in
    record {
      number = refl;
      offset = c.offset-offset.ensures;
      counted = refl;
      file = one.0;
      then = reads_then s t c.in_ok-answer.answer one c.args.self.now.bytes;
      place = reads_place s t c.in_ok-answer.answer one;
      less = (c.in_ok-answer.ensures.goes.on tt).2;
    }
