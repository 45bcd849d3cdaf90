-- The numbers of the table field's sums, products and inverses are the pile's. Assumes nothing.
use Rattle.std.proofs.Common.{◌≡◌, ◌<◌, sym, ◌∙◌, ap₂, mod-eq_of_lt}
use lib.Bits.{bit_xor, xor_lt}
use Rattle.field.specs.Numbers.{product, inverted}
use Rattle.field.specs.declared.gf4.Gf4.{Gf4}
use Rattle.extension.specs.Piles.{gf256}
use Rattle.extension.specs.declared.ext.Ext.{Ext}
use Rattle.table_field.specs.Equals.{Equals}
use Rattle.table_field.specs.Table.{eight_bits, table256}
use Rattle.table_field.specs.declared.table256.Table256.{Table256}
use Rattle.table_field.proofs.Tables.{size_is}

sum_number : (x y : Table256) → (table256.plus x y).n ≡ bit_xor x.n y.n
sum_number x y = mod-eq_of_lt (xor_lt 8 x.n y.n x.small y.small)

-- a number of the pile stays below 256
pile_lt : (k : Ext (Ext Gf4)) → gf256.value k < 256
pile_lt k = rw size_is at (gf256.value_lt k)

product_number : (x y : Table256) → (table256.times x y).n ≡ product gf256 x.n y.n
product_number x y = mod-eq_of_lt (pile_lt (gf256.times (gf256.of x.n) (gf256.of y.n)))

inverse_number : (x : Table256) → (table256.inverse x).n ≡ inverted gf256 x.n
inverse_number x = mod-eq_of_lt (pile_lt (gf256.inverse (gf256.of x.n)))

in_pile : (x : Table256) → gf256.value (gf256.of x.n) ≡ x.n
in_pile x = gf256.value_of x.n (rw size_is x.small)

pub equals_pile : Equals table256 gf256
equals_pile = record {
  bits_are = sym eight_bits;
  zero_is = sym gf256.value_zero;
  one_is = sym gf256.value_one;
  constant_is = mod-eq_of_lt (pile_lt gf256.v);
  sum_is = λ x y. sum_number x y ∙ sym (gf256.value_plus (gf256.of x.n) (gf256.of y.n) ∙ ap₂ bit_xor (in_pile x) (in_pile y));
  product_is = product_number;
  inverse_is = inverse_number;
}
