-- `find` answers the first row that passes, or none does.
use Rattle.std.proofs.Common.{◌≡◌, ◌≢◌, ℕ, rules}
use Rattle.std.proofs.lemmas.Iterator.{first_from_Range}
use Rattle.elimination.specs.Equations.{table}
use Rattle.elimination.proofs.system.nonzero.Goals as goal

pub returns : goal.returns
returns g c =
    let s = g.F.Field.structure in
    let zero : ℕ → Type 0 = λ r. table s c.args.rows r c.args.column ≡ s.zero in
    let other : ℕ → Type 0 = λ r. table s c.args.rows r c.args.column ≢ s.zero in
    let found = first_from_Range _ _ _ c.find.result other zero c.find.ensures.ran (λ x q k. search rules) (λ x q k. search rules) in
    search (rules, found)
