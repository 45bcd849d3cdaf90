-- The places before the number of unknowns have the right hand sides, the others are zero.
use Rattle.std.proofs.Common.{rules, ◌<◌, ◌∙◌, arith}
use native.Mathlib.Decide.{dec_lt}
use Rattle.elimination.proofs.Places.{at_place, at_after}
use Rattle.elimination.proofs.system.solution.Goals as goal

pub returns-clause-known : goal.returns-clause-known
returns-clause-known g c j l = let h : j < 4 = omega arith in let w = c.from_fn.ensures j h in at_place g.F.Field.structure c.from_fn.result j h ∙ search (rules, w)

pub returns-clause-after : goal.returns-clause-after
returns-clause-after g c j l = elim (dec_lt j 4) [
  | yes h ↦ at_place g.F.Field.structure c.from_fn.result j h ∙ (let w = c.from_fn.ensures j h in search rules)
  | no h ↦ at_after g.F.Field.structure c.from_fn.result j (omega arith)
]
