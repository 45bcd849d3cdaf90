-- The entries of the bays so far; the first read refuses a line that the rack does not have.
use Rattle.std.proofs.Common.{◌≡◌, ◌≤◌, vec_items}
use Rattle.rack_listing.specs.Listing.{entries}
use Rattle.rack_listing.proofs.list_line.Given as goal

abbrev pub invariant-loop-bay : goal.invariant-loop-bay
invariant-loop-bay g l =
    let m = g.R.Reading.meaning l.initial.rack in
    record {
      same : g.R.Reading.meaning l.rack ≡ m;
      listed : vec_items l.entries ≡ entries m l.line l.bay;
      refused : m.lines ≤ l.line → l.bay ≡ 0;
    }
