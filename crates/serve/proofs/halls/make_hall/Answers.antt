use Rattle.std.proofs.Common.{◌∙◌}
use Rattle.joined_rack.specs.Beside.{beside}
use Rattle.serve.proofs.Racks.{beside_zeros}
use Rattle.serve.proofs.halls.make_hall.Goals as goal

pub returns-clause-new : goal.returns-clause-new
returns-clause-new c =
    let first = c.check-2.ensures.first ∙ c.in_ok-checks.ensures.1 in
    let second = c.check-2.ensures.second ∙ c.in_ok-counts.ensures.1 in
    c.new.ensures ∙ (λ i. beside (first i) (second i)) ∙ beside_zeros c.args.size.items c.args.size.lines
