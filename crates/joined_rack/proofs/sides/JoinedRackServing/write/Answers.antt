-- A word that is set in one of the two racks is set in the whole.
use Rattle.std.proofs.Common.{rules}
use Rattle.joined_rack.proofs.Shift.{first_word, second_word}
use Rattle.joined_rack.proofs.sides.JoinedRackServing.write.Goals as goal

pub returns-in-First : goal.returns-in-First
returns-in-First g c =
    let m = g.F.Reading.meaning c.args.self.now.first in
    let n = g.S.Reading.meaning c.args.self.now.second in
    let changed = first_word m n c.args.bay c.args.line c.args.word (search rules) (search rules) in
    search rules

pub returns-in-Second : goal.returns-in-Second
returns-in-Second g c =
    let m = g.F.Reading.meaning c.args.self.now.first in
    let n = g.S.Reading.meaning c.args.self.now.second in
    let changed = second_word m n c.args.bay c.args.line c.args.word (search rules) (search rules) in
    search rules
