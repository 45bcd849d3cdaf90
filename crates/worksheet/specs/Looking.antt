-- What a look at the bays of a rack found, from the top bay down. Assumes nothing.
use Rattle.std.specs.Prelude.{◌≡◌, ℕ, ◌+◌, ◌<◌, Bool, cond, List, length, Some, None, Option, slice_index_or}
use Rattle.rack.specs.Meaning.{most_bays}
use Rattle.worksheet.specs.Present.{highest}

-- The words of the n present bays with the highest numbers, and no word for the other bays.
pub record Surveyed (n : ℕ) (here : ℕ → Bool) (word : ℕ → ℕ) (found : List (Option ℕ)) : Type 0 where
  pub long : length found ≡ most_bays
  pub kept : (bay : ℕ) → bay < n + 4 → slice_index_or found bay None ≡ cond (highest n here bay) (Some (word bay)) None
