-- A bay that is exchanged in one of the two racks is exchanged in the whole.
use Rattle.std.proofs.Common.{rules}
use Rattle.joined_rack.proofs.Shift.{first_exchange, second_exchange}
use Rattle.joined_rack.proofs.sides.JoinedRackServing.exchange.Goals as goal

pub returns-in-First : goal.returns-in-First
returns-in-First g c =
    let m = g.F.Reading.meaning c.args.self.now.first in
    let n = g.S.Reading.meaning c.args.self.now.second in
    let k = g.F.Reading.meaning c.exchange.new.self in
    let whole = first_exchange m n k c.args.bay (search rules) (search rules) (search rules) in
    search rules

pub returns-in-Second : goal.returns-in-Second
returns-in-Second g c =
    let m = g.F.Reading.meaning c.args.self.now.first in
    let n = g.S.Reading.meaning c.args.self.now.second in
    let k = g.S.Reading.meaning c.exchange-in-Second.new.self in
    let whole = second_exchange m n k c.args.bay (search rules) c.args.self.now.joinable.lined (search rules) (search rules) in
    search rules
