-- The places of no bit, of one and of two.
use Rattle.std.proofs.Common.{◌+◌, sym, ◌∙◌, subst, ap₂}
use Rattle.halves.proofs.Gathering.{place_none, place_one, place_two}
use Rattle.line_code.specs.Sets.{Within}
use Rattle.line_code.proofs.bits.BitSet.place.Goals as goal

pub returns-in-Empty : goal.returns-in-Empty
returns-in-Empty c = rw c.in-Empty.is (sym (place_none 8))

pub returns-in-One : goal.returns-in-One
returns-in-One c =
    let low = subst (Within 8) c.in-One.is c.requires in
    c.run_length.ensures ∙ rw c.in-One.is (sym (place_one c.in-One.j 8 low))

pub returns-in-Two : goal.returns-in-Two
returns-in-Two c =
    let low = subst (Within 8) c.in-Two.is c.requires in
    ap₂ ◌+◌ c.run_length-in-Two.ensures c.run_length-in-Two-2.ensures
    ∙ rw c.in-Two.is (sym (place_two c.in-Two.j c.in-Two.k 8 low.0 low.1))
