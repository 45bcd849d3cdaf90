-- The words that the bay was given are those that the rack then means.
use Rattle.std.proofs.Common.{rules}
use Rattle.rack.proofs.Laws.{exchange_own}
use Rattle.plain_rack.specs.Plain.{blank, plain_meaning}
use Rattle.plain_rack.proofs.sides.PlainRackServing.exchange.Goals as goal

pub returns-clause-after : goal.returns-clause-after
returns-clause-after c = exchange_own (plain_meaning c.args.self.now) c.args.bay blank _ (search rules)
