-- The field's answer is the tower's too.
use Rattle.std.proofs.Common.{◌≡◌, Ok, ◌∙◌, rules}
use Rattle.field.specs.Structure.{size}
use Rattle.field.specs.Numbers.{product}
use Rattle.tower.specs.Product.{numbers_answer}
use Rattle.tower.proofs.Answers.{tower_answer}
use Rattle.tower.proofs.product.Goals as goal

pub returns : goal.returns
returns g c =
    let s = g.F.Field.structure in
    let v : Ok c.number.result ≡ numbers_answer (product s) (size s) c.args.a c.args.b = search rules in
    record { value = v; tower = λ m t. v ∙ tower_answer s m t c.args.a c.args.b }
