-- Worked lines, as rows of one table. Assumes nothing.
use Rattle.std.specs.Prelude.{◌≡◌, ℕ, List, [], ◌∷◌}
use Rattle.field.specs.Structure.{Structure}
use Rattle.field.specs.Four.{four}
use Rattle.extension.specs.Extend.{extend}
use Rattle.extension.specs.Piles.{gf16}
use Rattle.codeword.specs.Codeword.{codeword}
use Rattle.halves.specs.Moments.{t0, t1, t2, t3, items_of}

-- the numbers of t0 to t3 of a line padded to 2^n words
abbrev pub moment_words : {K : Type 0} → Structure K → List ℕ → ℕ → List ℕ
moment_words s items n =
    (extend s).value (t0 s n (items_of s items)) ∷ (extend s).value (t1 s n (items_of s items))
    ∷ (extend s).value (t2 s n (items_of s items)) ∷ (extend s).value (t3 s n (items_of s items)) ∷ []

-- the base field has 4 or 16 elements
pub data Base : Type 0 where
  of_4 : Base
  of_16 : Base

abbrev pub word_of : Base → List ℕ → List ℕ
word_of of_4 = codeword four
word_of of_16 = codeword gf16

abbrev pub moments_in : Base → List ℕ → ℕ → List ℕ
moments_in of_4 = moment_words four
moments_in of_16 = moment_words gf16

-- a line, the exponent of its run, its codeword, and t0 to t3
pub record Row : Type 0 where
  pub base : Base
  pub line : List ℕ
  pub bits : ℕ
  pub whole : List ℕ
  pub moments : List ℕ

abbrev pub Holds : Row → Type 0
Holds r = (word_of r.base r.line ≡ r.whole) × (moments_in r.base r.line r.bits ≡ r.moments)

abbrev pub AllHold : List Row → Type 0
AllHold [] = Unit {0}
AllHold (r ∷ rs) = Holds r × AllHold rs

abbrev pub worked : List Row
worked =
    record { base = of_4; line = 1 ∷ 2 ∷ []; bits = 1; whole = 3 ∷ 14 ∷ 15 ∷ 8 ∷ 1 ∷ 2 ∷ []; moments = 3 ∷ 2 ∷ 2 ∷ 2 ∷ [] }
    ∷ record { base = of_4; line = 7 ∷ 0 ∷ 15 ∷ 9 ∷ []; bits = 2; whole = 1 ∷ 6 ∷ 2 ∷ 5 ∷ 7 ∷ 0 ∷ 15 ∷ 9 ∷ []; moments = 1 ∷ 2 ∷ 4 ∷ 6 ∷ [] }
    ∷ record { base = of_16; line = 1 ∷ 2 ∷ []; bits = 1; whole = 3 ∷ 50 ∷ 54 ∷ 122 ∷ 1 ∷ 2 ∷ []; moments = 3 ∷ 2 ∷ 2 ∷ 2 ∷ [] }
    ∷ record { base = of_16; line = 200 ∷ 17 ∷ 255 ∷ 3 ∷ 64 ∷ []; bits = 3; whole = 101 ∷ 17 ∷ 30 ∷ 206 ∷ 200 ∷ 17 ∷ 255 ∷ 3 ∷ 64 ∷ []; moments = 101 ∷ 38 ∷ 90 ∷ 189 ∷ [] }
    ∷ []
