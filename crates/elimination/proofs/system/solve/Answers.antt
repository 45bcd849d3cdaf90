-- The three ends of an elimination, for the system passed.
use Rattle.std.proofs.Common.{◌≡◌, ℕ, ◌≤◌, None, Err, Some, subst, sym, refl, arith}
use Rattle.field.specs.Structure.{Structure}
use Rattle.systems.specs.Systems.{Independent}
use Rattle.systems.proofs.Ends.{too_many, independent_augmented, independent, unsolvable, solution}
use Rattle.elimination.specs.declared.four.Four.{Four}
use Rattle.elimination.specs.declared.system.Equation.{Equation}
use Rattle.elimination.specs.declared.system.Unsolved.TheVariants.{Dependent}
use Rattle.elimination.specs.Answer.{Answer, Eliminated}
use Rattle.elimination.specs.Equations.{at, coefficient, right, table}
use Rattle.elimination.proofs.Tables.{augmented}
use Rattle.elimination.proofs.system.solve.Goals as goal

-- unit columns were made of independent ones
columns : {K : Type 0} (s : Structure K) (t u : Four (Equation K)) (m : ℕ) → m ≤ 4 → Eliminated s t m (Some u) → Independent s (coefficient s t) m
columns s t u m few made = independent s (coefficient s t) (right s t) (table s t) (table s u) m few (augmented s t) made.0 made.1

pub returns-then-unknowns-gt4 : goal.returns-then-unknowns-gt4
returns-then-unknowns-gt4 g c =
    too_many g.F.Field.structure (coefficient g.F.Field.structure c.args.system) c.args.unknowns c.if-unknowns-gt4.true (λ r k. refl)

pub returns-in_err-rows : goal.returns-in_err-rows
returns-in_err-rows g c =
    let s = g.F.Field.structure in
    let t = c.args.system in
    let m = c.args.unknowns in
    let few = c.if-unknowns-gt4.false in
    let none : c.eliminate.result ≡ None = grind arith in
    let answer : c.from_residual.result ≡ Err Dependent = grind arith in
    subst (Answer s t m) (sym answer)
    (λ i. subst (Eliminated s t m) none c.eliminate.ensures (independent_augmented s (coefficient s t) (right s t) (table s t) (table s t) m few (augmented s t) i))

pub returns-in-Some : goal.returns-in-Some
returns-in-Some g c =
    let s = g.F.Field.structure in
    let t = c.args.system in
    let u = c.in_ok-rows.rows in
    let m = c.args.unknowns in
    let few = c.if-unknowns-gt4.false in
    let made : Eliminated s t m (Some u) = subst (Eliminated s t m) c.in_ok-rows.ensures.ok_part c.eliminate.ensures in
    let row = c.in-Some.ensures in (
      columns s t u m few made,
      unsolvable s (coefficient s t) (right s t) (table s t) (table s u) m few (augmented s t) made.0 made.1 c.in-Some.field-0 (omega (arith, row.0)) row.1 row.2,
    )

pub returns-in-None : goal.returns-in-None
returns-in-None g c =
    let s = g.F.Field.structure in
    let t = c.args.system in
    let u = c.in_ok-rows.rows in
    let m = c.args.unknowns in
    let few = c.if-unknowns-gt4.false in
    let made : Eliminated s t m (Some u) = subst (Eliminated s t m) c.in_ok-rows.ensures.ok_part c.eliminate.ensures in (
      columns s t u m few made,
      solution s (coefficient s t) (right s t) (table s t) (table s u) m few (augmented s t) made.0 made.1
          (at s c.solution.result) c.in-None.ensures c.solution.ensures.known c.solution.ensures.after,
    )
