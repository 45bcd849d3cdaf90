-- The products of a tower as a rule on numbers alone: the tower's relations fix every product. Assumes nothing.
use Rattle.std.specs.Prelude.{◌≡◌, ℕ, zero, suc, ◌+◌, ◌-◌, ◌*◌, ◌/◌, ◌%◌, ◌^◌, ◌<◌, cond, Ok, Err, Result, bit_xor, nat_lt}
use Rattle.fault.specs.declared.fault.BookFault.{BookFault}
use Rattle.fault.specs.declared.fault.BookFault.TheVariants.{NoElement}
use Rattle.field.specs.Structure.{Structure, size}
use Rattle.field.specs.Numbers.{product, inverted}

-- (a0 + a1 u) (b0 + b1 u) with u u = u + v, on numbers: p is the product of the parts, which are below q
abbrev pub joined : (ℕ → ℕ → ℕ) → ℕ → ℕ → ℕ → ℕ → ℕ → ℕ → ℕ
joined p q v a0 a1 b0 b1 =
    bit_xor (bit_xor (p a0 b1) (p a1 b0)) (p a1 b1) * q + bit_xor (p a0 b0) (p (p a1 b1) v)

-- the product of numbers below 2 ^ (2 ^ m); the parts of the last generator have half the bits, and v is the product of all below it
abbrev pub tower_product : ℕ → ℕ → ℕ → ℕ
tower_product zero a b = a * b
tower_product (suc j) a b =
    joined (tower_product j) (2 ^ (2 ^ j)) (2 ^ (2 ^ j - 1)) (a % 2 ^ (2 ^ j)) (a / 2 ^ (2 ^ j)) (b % 2 ^ (2 ^ j)) (b / 2 ^ (2 ^ j))

-- each product of the field is the tower's
abbrev pub Fixed : {K : Type 0} → Structure K → ℕ → Type 0
Fixed s m = (a b : ℕ) → a < size s → b < size s → product s a b ≡ tower_product m a b

-- what a product of two numbers below q answers; the first number that is not below q is refused
abbrev pub numbers_answer : (ℕ → ℕ → ℕ) → ℕ → ℕ → ℕ → Result ℕ BookFault
numbers_answer p q a b = cond (nat_lt a q) (cond (nat_lt b q) (Ok (p a b)) (Err (NoElement b))) (Err (NoElement a))

-- and an inverse
abbrev pub inverse_answer : {K : Type 0} → Structure K → ℕ → Result ℕ BookFault
inverse_answer s a = cond (nat_lt a (size s)) (Ok (inverted s a)) (Err (NoElement a))
