-- Which racks can be joined. Assumes nothing.
use Rattle.std.specs.Prelude.{◌≡◌, ◌+◌, ◌≤◌, cond, ◌&&◌, Ok, Err, Result, ◌==◌, nat_le}
use Rattle.fault.specs.declared.fault.RackFault.{RackFault}
use Rattle.fault.specs.declared.fault.RackFault.TheVariants.{NoJoin}
use Rattle.rack.specs.Meaning.{Meaning, most_bays}

-- As many lines, and at most 260 bays together.
pub record Joinable (m n : Meaning) : Type 0 where
  pub lined : m.lines ≡ n.lines
  pub few : m.bays + n.bays ≤ most_bays

abbrev pub join_answer : Meaning → Meaning → Result (Unit {0}) RackFault
join_answer m n = cond (m.lines == n.lines && nat_le (m.bays + n.bays) most_bays) (Ok tt) (Err (NoJoin (m.bays + n.bays)))
