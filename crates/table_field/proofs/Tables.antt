-- The rules of the code's two tables: the powers of the element numbered 18 in the pile of 256. Assumes nothing.
use Rattle.std.proofs.Common.{◌≡◌, ℕ, ◌-◌, ◌%◌, ◌<◌, ◌≤◌, T, get_or, refl, lit<}
use Rattle.field.specs.Structure.{size}
use Rattle.field.specs.Numbers.{product, inverted}
use Rattle.extension.specs.Extend.{extend}
use Rattle.extension.specs.Piles.{gf256}
use Rattle.tower.specs.Product.{tower_product}
use Rattle.tower.proofs.Fixed.{fixed}
use Rattle.tower.proofs.Towers.{tower_256}
use Rattle.table_field.specs.Table.{power_number}
use Rattle.table_field.specs.declared.table256.logarithm_table.TheConstants.{LOGARITHMS}
use Rattle.table_field.specs.declared.table256.power_table.TheConstants.{POWERS}
use Rattle.table_field.proofs.Powers as rule

pub size_is : size gf256 ≡ 256
unfolding extend
size_is = refl

-- the tower's rule computes products with 18 from the numbers alone
by_18 : (b : ℕ) → b < 256 → product gf256 18 b ≡ tower_product 3 18 b
by_18 b h = fixed gf256 3 tower_256 18 b (rw size_is (lit< tt)) (rw size_is h)

-- the test of each table
powers_pass : T (rule.power_test (tower_product 3 18) POWERS)
powers_pass = tt

logarithms_pass : T (rule.logarithm_test POWERS LOGARITHMS)
logarithms_pass = tt

-- and its rule at each entry
pub power_rule : (i : ℕ) → get_or POWERS (i % 255) 0 ≡ power_number gf256 18 i
power_rule = rule.power_rule gf256 18 (tower_product 3 18) by_18 POWERS powers_pass

pub power_inverse : (i : ℕ) → i ≤ 255 → power_number gf256 18 (255 - i) ≡ inverted gf256 (power_number gf256 18 i)
power_inverse i = rule.power_inverse gf256 18 i (rule.full_turn gf256 18 (tower_product 3 18) by_18 POWERS powers_pass)

pub logarithm_lt : (n : ℕ) → 0 < n → n < 256 → get_or LOGARITHMS n 0 < 255
logarithm_lt = rule.logarithm_lt gf256 18 (tower_product 3 18) by_18 POWERS powers_pass LOGARITHMS logarithms_pass

pub logarithm_rule : (n : ℕ) → 0 < n → n < 256 → power_number gf256 18 (get_or LOGARITHMS n 0) ≡ n
logarithm_rule = rule.logarithm_rule gf256 18 (tower_product 3 18) by_18 POWERS powers_pass LOGARITHMS logarithms_pass
