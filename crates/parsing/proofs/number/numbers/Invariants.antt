use Rattle.std.proofs.Common.{◌≡◌, false, take, length, is_some}
use Rattle.std.specs.Option.{option_map}
use Rattle.parsing.proofs.Figures.{Sofar}
use Rattle.parsing.proofs.number.numbers.Given as goal

abbrev pub invariant-loop-i : goal.invariant-loop-i
invariant-loop-i g l = record {
  long : length l.place-items ≡ g.row.N;
  read : Sofar (option_map (λ x. x.now) l.fn.rest) (take l.i l.place-items) (option_map (λ x. x.now) l.left);
  last : l.i ≡ g.row.N → is_some l.left ≡ false;
}
