-- Refusals in their order: of several, the first that applies. Assumes nothing.
use Rattle.std.specs.Prelude.{Bool, true, false, Some, None, Ok, Err, Option, Result}

module _ {A : Type 0} where
  -- The refusal, where its condition holds.
  abbrev pub when : Bool → A → Option A
  when true f = Some f
  when false f = None

  -- The first refusal, or else the next one.
  abbrev pub or_else : Option A → Option A → Option A
  or_else None next = next
  or_else (Some f) next = Some f

-- What a call was refused by.
abbrev pub refusal_of : {T E : Type 0} → Result T E → Option E
refusal_of (Ok x) = None
refusal_of (Err f) = Some f
