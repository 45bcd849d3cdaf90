-- A hall that opens: its racks can be made, its book starts, and both stand by the first ledger. Assumes nothing.
use Rattle.std.proofs.Common.{◌≡◌, ℕ, ◌+◌, ◌≤◌, false, not, nat_lt, None, sym, refl, ap, ◌∙◌, arith}
use Rattle.std.proofs.lemmas.Bool.Decides.{nat_tests}
use Rattle.codeword.specs.Sums.{count}
use Rattle.codeword.proofs.Counts.{count_ext, count_never}
use Rattle.field.specs.Structure.{Structure, size}
use Rattle.rack.specs.Meaning.{Meaning}
use Rattle.rules.specs.Known.{Known, front_of}
use Rattle.rules.specs.Rules.{why_start, silences}
use Rattle.rules.specs.Effects.{opened, cleared}
use Rattle.ledger.specs.Stands.{Sound, Stands}
use Rattle.bank.proofs.Starts.{first_of, same_first, first_sound, first_stands}
use Rattle.round.specs.Replies.{first_ledger, why_lines, why_hall}
use Rattle.serve.specs.Halls.{new_hall}

none_silent : (n : ℕ) → count (λ bay. not (nat_lt bay n)) n ≡ 0
none_silent n = omega (arith, count_ext (λ bay. not (nat_lt bay n)) (λ _. false) n (λ i h. grind (arith, nat_tests)), count_never n)

start_none : (q items n : ℕ) → 1 ≤ items → items ≤ q → n ≡ 0 → (m : Meaning) → m.bays ≡ items + 4 → silences (front_of m) ≡ n → why_start q items (front_of m) ≡ None
start_none q items n some few none m bays silent = grind (arith, nat_tests)

module _ (q items lines : ℕ) (some : 1 ≤ items) (few : items ≤ q) where
  pub starts : (m : Meaning) → m ≡ new_hall items lines → why_start q items (front_of m) ≡ None
  starts m new = rw new (start_none q items 0 some few refl (new_hall items lines) refl (none_silent (items + 4)))

module _ {K : Type 0} (s : Structure K) (items lines : ℕ) (some : 1 ≤ items) (few : items ≤ size s) (m m' : Meaning) (k : Known) (new : m ≡ new_hall items lines) (book : k ≡ opened items m) (rack : m' ≡ cleared m) where
  none : why_start (size s) items (front_of m) ≡ None
  none = starts (size s) items lines some few m new

  same : first_of (size s) items m' ≡ first_ledger (size s) items lines
  same = sym (same_first s items m m' k none book rack) ∙ ap (first_of (size s) items) new

  pub opening_sound : Sound s (first_ledger (size s) items lines)
  opening_sound = rw same at (first_sound s items m m' k none book rack)

  pub opening_stands : Stands s (first_ledger (size s) items lines) k None m'
  opening_stands = rw same at (first_stands s items m m' k none book rack)

pub hall_none : (q items lines : ℕ) → 1 ≤ items → items ≤ q → why_lines (items + 4) lines ≡ None → why_hall q items lines ≡ None
hall_none q items lines some few e = grind (arith, nat_tests)
