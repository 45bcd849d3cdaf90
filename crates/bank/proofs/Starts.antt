-- The ledger of a run after its start. Assumes nothing.
use Rattle.std.proofs.Common.{◌≡◌, ℕ, None, sym, ap, subst}
use Rattle.field.specs.Structure.{Structure, size}
use Rattle.rack.specs.Meaning.{Meaning}
use Rattle.rules.specs.Known.{Known, front_of}
use Rattle.rules.specs.Rules.{why_start}
use Rattle.rules.specs.Effects.{opened, cleared}
use Rattle.ledger.specs.Ledger.{Ledger, opening}
use Rattle.ledger.specs.Stands.{Sound, Stands}
use Rattle.ledger.proofs.Soundness.{sound_opening}
use Rattle.ledger.proofs.Starting.{stands_opening}

-- The start leaves the rack's sizes and switches.
abbrev pub first_of : ℕ → ℕ → Meaning → Ledger
first_of q items m = opening q items (front_of m)

module _ {K : Type 0} (s : Structure K) (items : ℕ) (m m₀ : Meaning) (k : Known) (none : why_start (size s) items (front_of m) ≡ None) (book : k ≡ opened items m) (rack : m₀ ≡ cleared m) where
  pub same_first : first_of (size s) items m ≡ first_of (size s) items m₀
  same_first = ap (first_of (size s) items) (sym rack)

  pub first_sound : Sound s (first_of (size s) items m₀)
  first_sound = subst (λ (l : Ledger). Sound s l) same_first (sound_opening s items (front_of m) none)

  pub first_stands : Stands s (first_of (size s) items m₀) k None m₀
  first_stands = subst (λ (l : Ledger). Stands s l k None m₀) same_first (stands_opening s items m k m₀ none book rack)
