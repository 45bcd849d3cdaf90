use Rattle.std.proofs.Common.{◌≡◌, ◌*◌, ◌++◌, length, take, vec_items}
use Rattle.std.specs.List.{flat_map}
use Rattle.frame.specs.Format.{two}
use Rattle.frame.specs.Kinds.{number_of}
use Rattle.frame.proofs.encode.around_numbers.Given as goal

abbrev pub invariant-loop-number : goal.invariant-loop-number
invariant-loop-number l = vec_items l.frame ≡ (two (2 * length l.numbers) ++ two (number_of l.fn.kind)) ++ flat_map two (take l.number-index l.numbers)
