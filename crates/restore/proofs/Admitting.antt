-- Lists that are not refused, and the system of the absent words. Assumes nothing.
use Rattle.std.proofs.Common.{◌≡◌, ℕ, zero, suc, ◌<◌, ◌≤◌, false, List, [], ◌∷◌, length, get_or, None, sym, ◌∙◌, subst, arith}
use Rattle.std.proofs.lemmas.Bool.Decides.{nat_tests}
use Rattle.field.specs.Structure.{Structure}
use Rattle.extension.specs.declared.ext.Ext.{Ext}
use Rattle.extension.specs.Extend.{extend}
use Rattle.codeword.specs.Codeword.{words}
use Rattle.distance.specs.Column.{column}
use Rattle.elimination.specs.declared.four.Four.{Four}
use Rattle.elimination.specs.declared.system.Equation.{Equation}
use Rattle.elimination.specs.Equations.{by_columns}
use Rattle.elimination.proofs.Tables.{coefficient_columns, right_columns}
use Rattle.elimination.specs.Places.{place}
use Rattle.restore.specs.Restored.{absent, first_large, refusal, Admitted}
use Rattle.restore.specs.System.{present_sum, Asks}

small_words : (bound : ℕ) (ws ms : List ℕ) → first_large bound ws ms ≡ None → length ms ≡ length ws → (i : ℕ) → i < length ws → absent ms i ≡ false → get_or ws i 0 < bound
small_words bound [] ms none same i h here = absurd (omega arith)
small_words bound (w ∷ ws) [] none same i h here = absurd (omega arith)
small_words bound (w ∷ ws) (m ∷ ms) none same zero h here = grind (arith, nat_tests)
small_words bound (w ∷ ws) (m ∷ ms) none same (suc i) h here =
    let rest : first_large bound ws ms ≡ None = grind (arith, nat_tests) in
    small_words bound ws ms rest (omega arith) i (omega arith) here

pub admitted : {K : Type 0} (s : Structure K) (bays marks : List ℕ) → refusal s bays marks ≡ None → Admitted s bays marks
admitted s bays marks e =
    let small : first_large (words s) bays marks ≡ None = grind (arith, nat_tests) in
    let same : length marks ≡ length bays = grind (arith, nat_tests) in
    record {
      some = grind (arith, nat_tests);
      fits = grind (arith, nat_tests);
      marked = same;
      small = small_words (words s) bays marks small same;
      few = grind (arith, nat_tests);
    }

-- The four equations by their columns.
pub asks : {K : Type 0} (s : Structure K) (bays marks places : List ℕ) (m : ℕ) → m ≤ 4 → (columns : Four (Four (Ext K))) (sums : Four (Ext K))
    → ((k : ℕ) → k < 4 → place sums k ≡ present_sum s bays marks k)
    → ((j : ℕ) → j < m → (k : ℕ) → k < 4 → place (place columns j) k ≡ column s (get_or places j 0) k)
    → (t : Four (Equation (Ext K))) → t ≡ by_columns columns sums → Asks s bays marks places m t
asks s bays marks places m few columns sums added column_is t e = subst (Asks s bays marks places m) (sym e) (record {
  columns = λ k j h l. coefficient_columns (extend s) columns sums k j h (omega arith) ∙ column_is j l k h;
  sums = λ k h. right_columns (extend s) columns sums k h ∙ added k h;
})
