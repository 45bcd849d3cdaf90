-- A sum's number is the exclusive or of the two numbers, and stays below q.
use Rattle.std.proofs.lemmas.Nat.{xor_lt}
use Rattle.field.proofs.fields.Field.plus.Goals as goal

pub element-requires : goal.element-requires
element-requires g c =
    let s = g.Self.Field.structure in
    rw (c.number.ensures, c.number-2.ensures) (xor_lt s.bits _ _ (s.value_lt _) (s.value_lt _))

pub returns : goal.returns
returns g c =
    let s = g.Self.Field.structure in
    let sum = s.value_plus c.args.self c.args.other in
    let back = s.of_value (s.plus c.args.self c.args.other) in
    cc
