-- The power is the least that is no less than the count, and its logarithm is exact.
use Rattle.std.proofs.Common.{◌≡◌, ◌/◌, ◌^◌, ◌<◌, max, subst, arith}
use Rattle.line_code.proofs.Exponents.{exact, below_least}
use Rattle.line_code.proofs.bits.exponent.Goals as goal

pub returns-clause-fits : goal.returns-clause-fits
returns-clause-fits c =
    let p = c.next_power_of_two.ensures.power in
    omega (arith, exact c.next_power_of_two.result p.0 c.ilog2.result p.1 c.ilog2.ensures.power_le c.ilog2.ensures.next_power_gt)

pub returns-clause-least : goal.returns-clause-least
returns-clause-least c k h =
    let p = c.next_power_of_two.ensures.power in
    let e : c.next_power_of_two.result ≡ 2 ^ c.ilog2.result
    = exact c.next_power_of_two.result p.0 c.ilog2.result p.1 c.ilog2.ensures.power_le c.ilog2.ensures.next_power_gt in
    below_least c.args.count c.ilog2.result k (subst (λ n. n / 2 < max 1 c.args.count) e c.next_power_of_two.ensures.upper_bound) h
