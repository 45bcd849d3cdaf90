-- Bytes parted at a mark, and bytes that all lie in a range. Assumes nothing.
use Rattle.std.specs.Prelude.{ℕ, Bool, cond, ◌&&◌, List, [], ◌∷◌, Some, None, Option, ◌==◌, nat_le}
use Rattle.std.specs.List.{list_all}
use Rattle.std.specs.Option.{option_map}
use Rattle.parsing.specs.declared.split.Parts.{Parts}

-- What stands before the first mark: all, where there is no mark.
abbrev pub front_of : ℕ → List ℕ → List ℕ
front_of mark [] = []
front_of mark (byte ∷ bytes) = cond (byte == mark) [] (byte ∷ front_of mark bytes)

-- What stands behind the first mark.
abbrev pub back_of : ℕ → List ℕ → Option (List ℕ)
back_of mark [] = None
back_of mark (byte ∷ bytes) = cond (byte == mark) (Some bytes) (back_of mark bytes)

-- A mark and the bytes behind it.
abbrev pub behind : ℕ → Option (List ℕ) → List ℕ
behind mark None = []
behind mark (Some bytes) = mark ∷ bytes

-- The bytes behind the mark of a split.
abbrev pub back : Parts → Option (List ℕ)
back p = option_map (λ b. b.now) p.back

-- Each byte lies from the low one to the high one.
abbrev pub within : ℕ → ℕ → List ℕ → Bool
within low high bytes = list_all (λ byte. nat_le low byte && nat_le byte high) bytes
