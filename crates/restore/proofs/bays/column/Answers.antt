-- Of a check bay the column has one in its own row, and zero in the others.
use Rattle.std.proofs.Common.{sym, ap, ◌∙◌, rules}
use native.Mathlib.Decide.{ℕ_discrete}
use Rattle.field.specs.Structure.{ops}
use Rattle.extension.specs.Extend.{extend}
use Rattle.distance.specs.Column.{basis}
use Rattle.distance.proofs.Syndromes.{basis_self, basis_other, check_column}
use Rattle.restore.proofs.bays.column.Goals as goal

pub returns-then-bay-lt4 : goal.returns-then-bay-lt4
returns-then-bay-lt4 g c k h =
    let s = g.F.Field.structure in
    let bay = c.args.bay in
    let made = c.from_fn.ensures k h in
    let vector = check_column s bay c.if-bay-lt4.true k in
    elim (ℕ_discrete k bay) [
      | yes e ↦ (search rules) ∙ sym (vector ∙ ap (basis (ops (extend s)) bay) e ∙ basis_self (ops (extend s)) bay)
      | no n ↦ (search rules) ∙ sym (vector ∙ basis_other (ops (extend s)) bay k (λ e. n (sym e)))
    ]
