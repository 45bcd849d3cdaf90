-- What restoring a line answers, and what the words then are. Assumes nothing.
use Rattle.std.specs.Prelude.{◌≡◌, ℕ, ◌+◌, ◌-◌, ◌<◌, ◌≤◌, Bool, false, cond, not, ◌&&◌, ◌||◌, List, [], ◌∷◌, length, Some, None, Ok, Err, Option, Result, ◌==◌, nat_le, nat_lt, slice_index}
use Rattle.fault.specs.declared.fault.BookFault.{BookFault}
use Rattle.fault.specs.declared.fault.BookFault.TheVariants.{ItemCount, ListLength, WordTooLarge, TooManyAbsent, NoCodeword}
use Rattle.fault.specs.Refusing.{when, or_else}
use Rattle.field.specs.Structure.{Structure, size}
use Rattle.codeword.specs.Sums.{count}
use Rattle.codeword.specs.Codeword.{words, codeword, Line, Agrees}

-- A bay is absent if its mark is not zero.
abbrev pub absent : List ℕ → ℕ → Bool
absent marks bay = not (slice_index marks bay == 0)

-- The first present word that is not below the bound.
abbrev pub first_large : ℕ → List ℕ → List ℕ → Option ℕ
first_large bound [] marks = None
first_large bound (w ∷ ws) [] = None
first_large bound (w ∷ ws) (m ∷ ms) = cond (m == 0 && nat_le bound w) (Some w) (first_large bound ws ms)

-- The refusal of a word that is too large.
abbrev pub too_large : Option ℕ → Option BookFault
too_large None = None
too_large (Some w) = Some (WordTooLarge w)

module _ {K : Type 0} (s : Structure K) where
  -- The refusals that do not depend on the code, in their order.
  abbrev pub refusal : List ℕ → List ℕ → Option BookFault
  refusal bays marks =
      or_else (when (nat_lt (length bays) 5 || nat_lt (size s + 4) (length bays)) (ItemCount (length bays)))
      (or_else (when (not (length marks == length bays)) (ListLength (length marks)))
      (or_else (too_large (first_large (words s) bays marks))
      (when (nat_lt 4 (count (absent marks) (length bays))) (TooManyAbsent (count (absent marks) (length bays))))))

  -- Lists that are not refused.
  pub record Admitted (bays marks : List ℕ) : Type 0 where
    pub some : 5 ≤ length bays
    pub fits : length bays ≤ size s + 4
    pub marked : length marks ≡ length bays
    pub small : (bay : ℕ) → bay < length bays → absent marks bay ≡ false → slice_index bays bay < words s
    pub few : count (absent marks) (length bays) ≤ 4

  -- `after` is the codeword of a line that fits every present bay; there is no other such line.
  pub record Whole (bays marks after : List ℕ) : Type 0 where
    pub items : List ℕ
    pub line : Line s (length bays - 4) items
    pub restored : after ≡ codeword s items
    pub present : Agrees s (length bays - 4) (absent marks) bays items
    pub only : (others : List ℕ) → Line s (length bays - 4) others → Agrees s (length bays - 4) (absent marks) bays others → others ≡ items

  -- No line fits every present bay.
  abbrev pub NoLine : List ℕ → List ℕ → Type 0
  NoLine bays marks = (items : List ℕ) → Line s (length bays - 4) items → Agrees s (length bays - 4) (absent marks) bays items → ⊥

  -- A refused call changes nothing; otherwise the words are made whole, or they agree with no codeword and stay as they are.
  abbrev pub Restored : Option BookFault → List ℕ → List ℕ → Result (Unit {0}) BookFault → List ℕ → Type 0
  Restored (Some f) bays marks r after = (r ≡ Err f) × (after ≡ bays)
  Restored None bays marks (Ok _) after = Whole bays marks after
  Restored None bays marks (Err f) after = (f ≡ NoCodeword) × (after ≡ bays) × NoLine bays marks
