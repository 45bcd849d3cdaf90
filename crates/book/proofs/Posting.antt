-- A post, from the restored line to the words that were sent. Assumes nothing.
use Rattle.std.proofs.Common.{◌≡◌, ℕ, ◌+◌, ◌-◌, ◌<◌, List, get_or, take, set, ap, subst, arith}
use Rattle.field.specs.Structure.{Structure}
use Rattle.codeword.specs.Codeword.{codeword}
use Rattle.rack.specs.Meaning.{Meaning}
use Rattle.worksheet.specs.Present.{present}
use Rattle.worksheet.specs.Lines.{word_at, RestoredLine, OnSheet}
use Rattle.rules.specs.Known.{Known}
use Rattle.rules.specs.Effects.{concerned, Restored, Posted}
use Rattle.book.specs.Sending.{Sent, Revised}
use Rattle.book.proofs.Sending.{posted}

-- The line of a rack was restored, and the rack meant the same when it was asked.
module _ {K : Type 0} (s : Structure K) (k : Known) (m : Meaning) (line : ℕ) (before sheet : List ℕ) (bays : m.bays ≡ k.items + 4)
    (asked : Meaning) (same : asked ≡ m) (holds : OnSheet s asked k.behind line before sheet) where
  many : asked.bays - 4 ≡ k.items
  many = omega (arith, ap (λ x. x.bays) same)

  pub restored : Restored s k m line holds.items
  restored =
      subst (λ x. RestoredLine s k.items (present x.switch k.behind) (word_at s x line) holds.items) same
      (subst (λ n. RestoredLine s n (present asked.switch k.behind) (word_at s asked line) holds.items) many holds.restored)

  pub front : take (k.items + 4) sheet ≡ codeword s holds.items
  front = subst (λ n. take (n + 4) sheet ≡ codeword s holds.items) many holds.front

  -- the words of the line with its new item were sent
  pub line_sent : (item word : ℕ) → item < k.items → (n : ℕ) → n ≡ k.items → (after : List ℕ) → Revised s n item word sheet after → (left : Meaning) → left ≡ m
      → (k' : Known) (m' : Meaning) → Sent k left (concerned item) line (λ b. get_or after b 0) k' m' → Posted s k m item line word k' m'
  line_sent item word inside n is after revised left kept k' m' sent =
      let line_is : take (k.items + 4) after ≡ codeword s (set holds.items item word) = subst (λ i. Revised s i item word sheet after) is revised holds.items restored.line front in
      posted s k m item line word inside holds.items after restored line_is k' m'
      (subst (λ x. Sent k x (concerned item) line (λ b. get_or after b 0) k' m') kept sent)
