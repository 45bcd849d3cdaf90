-- Worked products and inverses, as rows of one table. Assumes nothing.
use Rattle.std.specs.Prelude.{◌≡◌, ℕ, List, [], ◌∷◌}
use Rattle.field.specs.Numbers.{product, inverted}
use Rattle.extension.specs.Piles.{gf16, gf256, gf65536}

pub data Pile : Type 0 where
  of_16 : Pile
  of_256 : Pile
  of_65536 : Pile

abbrev pub pile_product : Pile → ℕ → ℕ → ℕ
pile_product of_16 = product gf16
pile_product of_256 = product gf256
pile_product of_65536 = product gf65536

abbrev pub pile_inverse : Pile → ℕ → ℕ
pile_inverse of_16 = inverted gf16
pile_inverse of_256 = inverted gf256
pile_inverse of_65536 = inverted gf65536

-- the row says that the product of a and b is c, or that the inverse of a is c
pub data Row : Type 0 where
  product_row : Pile → ℕ → ℕ → ℕ → Row
  inverse_row : Pile → ℕ → ℕ → Row

abbrev pub Holds : Row → Type 0
Holds (product_row p a b c) = pile_product p a b ≡ c
Holds (inverse_row p a c) = pile_inverse p a ≡ c

abbrev pub AllHold : List Row → Type 0
AllHold [] = Unit {0}
AllHold (r ∷ rs) = Holds r × AllHold rs

abbrev pub worked : List Row
worked =
    product_row of_16 4 4 6
    ∷ product_row of_16 8 8 13
    ∷ inverse_row of_16 4 15
    ∷ product_row of_256 16 16 24
    ∷ product_row of_256 128 128 222
    ∷ product_row of_65536 256 256 384
    ∷ []
