use Rattle.std.proofs.Common.{ℕ, zero, suc, ◌<◌, ◌≤◌, [], ◌∷◌, get_or, sym, refl, arith, lit<, lit≤}
use borrow.Author.Tests.{clash}
use Rattle.field.specs.Four.{four}
use Rattle.extension.specs.Extend.{extend}
use Rattle.codeword.specs.Sums.{total, count}
use Rattle.codeword.specs.Codeword.{words, Line, Agrees}
use Rattle.distance.proofs.Theorem.{one_at_most}
use Rattle.restore.specs.Restored.{absent, Whole}
use Rattle.restore.specs.Worked.{two_present, two_marks}
use Rattle.restore.proofs.worked.worked_restorings_stand.Goals as goal

small : (i : ℕ) → i < 2 → get_or (1 ∷ 2 ∷ []) i 0 < words four
unfolding extend
small zero h = lit< tt
small (suc zero) h = lit< tt
small (suc (suc i)) h = absurd (omega arith)

line : Line four 2 (1 ∷ 2 ∷ [])
line = record { long = refl; small = small }

agrees : Agrees four 2 (absent two_marks) two_present (1 ∷ 2 ∷ [])
unfolding extend total
agrees zero h here = absurd (clash (sym here))
agrees (suc zero) h here = refl
agrees (suc (suc zero)) h here = refl
agrees (suc (suc (suc zero))) h here = absurd (clash (sym here))
agrees (suc (suc (suc (suc zero)))) h here = absurd (clash (sym here))
agrees (suc (suc (suc (suc (suc zero))))) h here = absurd (clash (sym here))
agrees (suc (suc (suc (suc (suc (suc bay)))))) h here = absurd (omega arith)

few : count (absent two_marks) 6 ≤ 4
unfolding count
few = lit≤ tt

whole : Whole four two_present two_marks (3 ∷ 14 ∷ 15 ∷ 8 ∷ 1 ∷ 2 ∷ [])
unfolding extend total
whole = record {
  items = 1 ∷ 2 ∷ [];
  line = line;
  restored = refl;
  present = agrees;
  only = λ others l fit. one_at_most four 2 (lit≤ tt) (absent two_marks) few two_present others (1 ∷ 2 ∷ []) l line fit agrees;
}

pub returns : goal.returns
unfolding extend total
returns c = record { line = refl; from_two = whole; one_line = refl; another_line = refl }
