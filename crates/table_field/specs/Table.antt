-- The table field of 256 elements: the pile of 256, carried over to one byte. Assumes nothing.
use Rattle.std.specs.Prelude.{◌≡◌, ℕ, zero, suc, ◌%◌, ◌<◌, refl}
use mathlib.Core.HLevel.{is_prop→PathP}
use Rattle.std.proofs.Math.Bridge.{le_prop}
use Rattle.std.proofs.Common.{mod-lt, mod-eq_of_lt, lit<}
use Rattle.field.specs.Structure.{Structure}
use Rattle.extension.specs.Extend.{extend}
use Rattle.extension.specs.Piles.{gf256}
use Rattle.table_field.specs.CarriedLaws.{Numbering}
use Rattle.table_field.specs.Carried.{carried}
use Rattle.table_field.specs.declared.table256.Table256.{Table256}

-- two elements of one number are one element; as for `Gf4`, since a lemma over any record with a proof in it would be longer
pub same_number : (x y : Table256) → x.n ≡ y.n → x ≡ y
same_number x y p = λ i. record { n = p i; small = is_prop→PathP (λ j. p j < 256) (λ j. le_prop) x.small y.small i }

abbrev pub element : ℕ → Table256
element n = record { n = n % 256; small = mod-lt n (lit< tt) }

pub eight_bits : gf256.bits ≡ 8
unfolding extend
eight_bits = refl

abbrev pub numbering : Numbering gf256 Table256
numbering = record {
  bits = 8;
  bits_are = eight_bits;
  number = λ x. x.n;
  element = element;
  number_lt = λ x. x.small;
  element_number = λ x. same_number (element x.n) x (mod-eq_of_lt x.small);
  number_element = λ n h. mod-eq_of_lt h;
}

abbrev pub table256 : Structure Table256
table256 = carried gf256 numbering

-- x to the power i
abbrev pub power : {K : Type 0} → Structure K → K → ℕ → K
power s x zero = s.one
power s x (suc i) = s.times x (power s x i)

-- the number of the power i of the element numbered g
abbrev pub power_number : {K : Type 0} → Structure K → ℕ → ℕ → ℕ
power_number s g i = s.value (power s (s.of g) i)
