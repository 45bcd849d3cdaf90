-- A field's elements by their numbers: making an element, products and inverses of numbers. Assumes nothing.
use Rattle.std.specs.Prelude.{ℕ, cond, Ok, Err, Result, nat_lt}
use Rattle.fault.specs.declared.fault.BookFault.{BookFault}
use Rattle.fault.specs.declared.fault.BookFault.TheVariants.{NoElement}
use Rattle.field.specs.Structure.{Structure, size}

-- what making the element of a number answers: a number that is not below q is refused
abbrev pub element_answer : {K : Type 0} → Structure K → ℕ → Result K BookFault
element_answer s n = cond (nat_lt n (size s)) (Ok (s.of n)) (Err (NoElement n))

-- the number of the product of the elements of two numbers
abbrev pub product : {K : Type 0} → Structure K → ℕ → ℕ → ℕ
product s a b = s.value (s.times (s.of a) (s.of b))

-- the number of the inverse of the element of a number
abbrev pub inverted : {K : Type 0} → Structure K → ℕ → ℕ
inverted s a = s.value (s.inverse (s.of a))
