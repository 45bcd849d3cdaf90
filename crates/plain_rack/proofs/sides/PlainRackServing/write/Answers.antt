-- A word that is set in the list is set in the rack.
use Rattle.std.proofs.Common.{vec_items, arith, rules}
use Rattle.plain_rack.proofs.Places.{set_word}
use Rattle.plain_rack.proofs.sides.PlainRackServing.write.Goals as goal

pub returns-clause-after : goal.returns-clause-after
returns-clause-after c =
    let p = c.args.self.now in
    let set = set_word p.shape.bays p.shape.lines p.switches (vec_items p.words) c.args.bay c.args.line c.args.word (search rules) (search rules) (omega arith) (search rules) in
    search rules
