-- A new book and its cleared rack. Assumes nothing.
use Rattle.std.proofs.Common.{◌≡◌, ℕ, ◌+◌, ◌<◌, ◌≤◌, Bool, not, List, Some, None, ◌∙◌, arith}
use Rattle.std.proofs.lemmas.Bool.Decides.{nat_tests}
use Rattle.fault.specs.declared.fault.BookFault.TheVariants.{TooManySilent}
use Rattle.codeword.specs.Sums.{count}
use Rattle.codeword.proofs.Counts.{count_ext}
use Rattle.worksheet.specs.Lines.{marked}
use Rattle.rack.specs.Meaning.{Meaning}
use Rattle.rules.specs.Known.{front_of}
use Rattle.rules.specs.Rules.{why_start, silences}
use Rattle.book.specs.Sending.{silent_below}

module _ (m : Meaning) (items : ℕ) where
  pub may_start : (q : ℕ) → 1 ≤ items → items ≤ q → m.bays ≡ items + 4 → silences (front_of m) ≤ 4 → why_start q items (front_of m) ≡ None
  may_start q some fits bays few = grind (arith, nat_tests)

  -- the marks of the silent bays, counted
  pub silences_marked : (n : Meaning) → n ≡ m → (bays : ℕ) → bays ≡ m.bays → (marks : List Bool) → ((bay : ℕ) → marked marks bay ≡ silent_below n.switch bays bay)
      → (many : ℕ) → many ≡ count (marked marks) bays → many ≡ silences (front_of m)
  silences_marked n same bays e marks heard many is =
      is ∙ count_ext (marked marks) (λ bay. not (n.switch bay)) bays (λ bay h. heard bay ∙ grind (arith, nat_tests))
      ∙ (λ i. count (λ bay. not ((same i).switch bay)) (e i))

  pub too_many_silent : (q : ℕ) → 1 ≤ items → items ≤ q → m.bays ≡ items + 4 → (many : ℕ) → many ≡ silences (front_of m) → 4 < many → Some (TooManySilent many) ≡ why_start q items (front_of m)
  too_many_silent q some fits bays many is more = grind (arith, nat_tests)
