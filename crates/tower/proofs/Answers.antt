-- The answers of a product of numbers: those of the field, and those of its tower. Assumes nothing.
use Rattle.std.proofs.Common.{◌≡◌, ℕ, ◌^◌, ◌<◌, Ok, ap, ◌∙◌, arith, le-ltb, lt-ltb}
use native.Mathlib.Decide.{dec_lt}
use Rattle.field.specs.Structure.{Structure, size}
use Rattle.field.specs.Numbers.{product}
use Rattle.tower.specs.Tower.{Tower}
use Rattle.tower.specs.Product.{tower_product, numbers_answer}
use Rattle.tower.proofs.Fixed.{fixed}

-- two rules that agree below q answer alike
same_answer : (p r : ℕ → ℕ → ℕ) (q a b : ℕ) → (a < q → b < q → p a b ≡ r a b) → numbers_answer p q a b ≡ numbers_answer r q a b
same_answer p r q a b e = elim (dec_lt a q) [
  | yes h ↦ elim (dec_lt b q) [
    | yes k ↦ rw (lt-ltb a q h, lt-ltb b q k) (ap Ok (e h k))
    | no k ↦ rw (lt-ltb a q h, le-ltb b q (omega arith))
  ]
  | no h ↦ rw (le-ltb a q (omega arith))
]

pub tower_answer : {K : Type 0} (s : Structure K) (m : ℕ) → Tower s m → (a b : ℕ)
    → numbers_answer (product s) (size s) a b ≡ numbers_answer (tower_product m) (2 ^ (2 ^ m)) a b
tower_answer s m t a b =
    same_answer (product s) (tower_product m) (size s) a b (fixed s m t a b)
    ∙ ap (λ n. numbers_answer (tower_product m) (2 ^ n) a b) t.bits_are
