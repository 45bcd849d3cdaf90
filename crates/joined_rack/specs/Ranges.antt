-- Two racks side by side that can be joined lie within the ranges. Assumes nothing.
use Rattle.std.proofs.Common.{ℕ, ◌+◌, ◌-◌, ◌^◌, ◌<◌, ◌≤◌, ◌⊎◌, inl, inr, arith}
use Rattle.std.proofs.lemmas.Bool.{cases_lt}
use Rattle.std.proofs.lemmas.Bool.Decides.{nat_tests}
use Rattle.rack.specs.Meaning.{Meaning, InRange}
use Rattle.joined_rack.specs.Beside.{beside}
use Rattle.joined_rack.specs.Join.{Joinable}

pub beside_in_range : (m n : Meaning) → Joinable m n → InRange m → InRange n → InRange (beside m n)
beside_in_range m n j p q = record {
  some_bays = omega arith;
  few_bays = j.few;
  some_lines = p.some_lines;
  few_lines = p.few_lines;
  words = λ b l h k. small b l h k (cases_lt b m.bays);
}
  where
    small : (b l : ℕ) → b < m.bays + n.bays → l < m.lines → ((b < m.bays) ⊎ (m.bays ≤ b)) → (beside m n).word b l < 2 ^ 16
    small b l h k (inl lt) = let w = p.words b l lt k in grind (arith, nat_tests)
    small b l h k (inr ge) =
        let has : b - m.bays < n.bays = omega arith in
        let inside : l < n.lines = omega arith in
        let w = q.words (b - m.bays) l has inside in
        grind (arith, nat_tests)
