-- The numbers of a line. Assumes nothing.
use Rattle.std.specs.Prelude.{◌≡◌, ℕ, ◌<◌, Bool, not, ◌&&◌, ◌||◌, List, [], ◌∷◌, ◌++◌, length, Some, None, Ok, Err, decimal, Option, Result, ◌==◌, nat_lt, slice_index}
use Rattle.std.specs.List.{AllByRecursion}
use Rattle.parsing.specs.Splits.{within, behind}

-- The result is a value of which P holds, or there is no such value.
abbrev pub Settles : {X E : Type 0} → Result X E → (X → Type 0) → Type 0
Settles (Ok x) P = P x
Settles {X} (Err e) P = (x : X) → P x → ⊥

-- The result, with its value seen as another.
abbrev pub seen : {X Y E : Type 0} → (X → Y) → Result X E → Result Y E
seen f (Ok x) = Ok (f x)
seen f (Err e) = Err e

-- Digits as they are printed: there is one at least, and a 0 in front stands alone.
abbrev pub numeral : List ℕ → Bool
numeral field = (nat_lt 0 (length field) && (length field == 1 || not (slice_index field 0 == 48))) && within 48 57 field

-- The field is the number, printed.
abbrev pub Field : List ℕ → ℕ → Type 0
Field field n = (n < 65536) × (field ≡ decimal n)

-- What stands behind a name that takes these numbers: each of them printed, a space between two.
abbrev pub spaced : List ℕ → Option (List ℕ)
spaced [] = None
spaced (n ∷ ns) = Some (decimal n ++ behind 32 (spaced ns))

-- So many numbers of two bytes stand behind a name.
pub record Numbers (count : ℕ) (rest : Option (List ℕ)) (ns : List ℕ) : Type 0 where
  pub many : length ns ≡ count
  pub small : AllByRecursion (λ n. n < 65536) ns
  pub text : rest ≡ spaced ns
