use Rattle.std.proofs.Common.{arith, take_all}
use Rattle.std.proofs.lemmas.Grind.{common_steps}
use Rattle.frame.proofs.Numbers.{length-flat_map_two}
use Rattle.frame.proofs.encode.around_numbers.Goals as goal

pub returns : goal.returns
returns c =
    let all = take_all c.loop-number.number-index c.args.numbers.now c.loop-number-test.false in
    grind (arith, common_steps, c.loop-number.invariant, length-flat_map_two c.args.numbers.now)
