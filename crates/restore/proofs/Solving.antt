-- The words of the absent bays are restored exactly where they solve the system. Assumes nothing.
use Rattle.std.proofs.Common.{◌≡◌, ℕ, ◌+◌, ◌-◌, ◌<◌, ◌≤◌, Bool, true, false, cond, List, length, get_or, drop, Result, Ok, Err, sym, refl, ap, ◌∙◌, subst, ap₂, arith, length-drop, get_or-drop}
use borrow.Author.Tests.{clash}
use Rattle.ring2.proofs.Laws.{zero_plus, equal}
use Rattle.field.specs.Structure.{Structure, size}
use Rattle.extension.specs.declared.ext.Ext.{Ext}
use Rattle.extension.specs.Extend.{extend}
use Rattle.codeword.specs.Sums.{total, count}
use Rattle.codeword.specs.Codeword.{words, element, codeword, Line, Agrees}
use Rattle.codeword.proofs.Sums.{total_ext}
use Rattle.distance.specs.Column.{column, weighed, syndrome}
use Rattle.distance.proofs.Chosen.{spread, spread_at, spread_off}
use Rattle.distance.proofs.Independent.{independent}
use Rattle.distance.proofs.Syndromes.{zero_syndromes, codeword_syndromes, weighed_filled}
use Rattle.distance.proofs.Theorem.{one_at_most}
use Rattle.systems.specs.Systems.{Solves, Independent, Unsolvable}
use Rattle.elimination.specs.declared.four.Four.{Four}
use Rattle.elimination.specs.declared.system.Equation.{Equation}
use Rattle.elimination.specs.declared.system.Unsolved.{Unsolved}
use Rattle.elimination.specs.declared.system.Unsolved.TheVariants.{Dependent, Inconsistent}
use Rattle.elimination.specs.Answer.{Answer}
use Rattle.elimination.specs.Equations.{at, coefficient, right}
use Rattle.restore.specs.Restored.{absent, Admitted, Whole, NoLine}
use Rattle.restore.specs.Absences.{Absences}
use Rattle.restore.specs.System.{known, present_sum, Asks, Placed}

module _ {K : Type 0} (s : Structure K) (bays marks places : List ℕ) (ok : Admitted s bays marks) (listed : Absences (absent marks) (length bays) places)
    (t : Four (Equation (Ext K))) (asks : Asks s bays marks places (length places) t) where
  abbrev pub m : ℕ
  m = length places

  n : ℕ
  n = length bays - 4

  nth : ℕ → ℕ
  nth j = get_or places j 0

  long : length bays ≡ n + 4
  unfolding n
  long = omega (arith, ok.some)

  few : m ≤ 4
  few = omega (arith, listed.many, ok.few)

  fits : n ≤ size s
  unfolding n
  fits = omega (arith, ok.fits)

  inside : (j : ℕ) → j < m → nth j < n + 4
  unfolding nth
  inside j h = omega (arith, listed.below j h, long)

  -- the sum of the columns of the absent bays times the unknowns
  tally : (ℕ → Ext K) → ℕ → Ext K
  tally y k = total (extend s) (λ j. (extend s).times (column s (nth j) k) (y j)) m

  -- it is the left hand side of equation k
  left_is : (y : ℕ → Ext K) (k : ℕ) → k < 4 → total (extend s) (λ j. (extend s).times (coefficient (extend s) t k j) (y j)) m ≡ tally y k
  unfolding tally nth
  left_is y k h = total_ext (extend s) _ _ m (λ j l. ap (λ c. (extend s).times c (y j)) (asks.columns k j h l))

  pub columns_independent : Independent (extend s) (coefficient (extend s) t) m
  unfolding tally nth
  columns_independent x zeros = independent s n fits m few nth (λ i j l h. listed.rising i j l h) inside x (λ k h. sym (left_is x k h) ∙ zeros k h)

  -- words that are as the present ones, and elements y in the absent bays
  module _ (c : List ℕ) (same : (bay : ℕ) → bay < n + 4 → absent marks bay ≡ false → get_or c bay 0 ≡ get_or bays bay 0)
      (y : ℕ → Ext K) (put : (j : ℕ) → j < m → element s (get_or c (nth j) 0) ≡ y j) where
    filled : ℕ → Ext K
    filled bay = (extend s).plus (known s bays marks bay) (spread (extend s) nth y m bay)

    rises : (i j : ℕ) → i < j → j < m → nth i < nth j
    unfolding nth
    rises = listed.rising

    at_absent : (bay : ℕ) → bay < n + 4 → absent marks bay ≡ true → element s (get_or c bay 0) ≡ filled bay
    unfolding filled nth
    at_absent bay h gone =
        let found = listed.complete bay (omega (arith, h, long)) gone in
        let j = found.0 in
        sym (
        ap₂ (extend s).plus (ap (λ b. cond b (extend s).zero (element s (get_or bays bay 0))) gone)
        (ap (spread (extend s) nth y m) (sym found.2) ∙ spread_at (extend s) nth y m rises j found.1)
        ∙ zero_plus (extend s).ring (y j)
        ∙ sym (put j found.1) ∙ ap (λ b. element s (get_or c b 0)) found.2
        )

    at_present : (bay : ℕ) → bay < n + 4 → absent marks bay ≡ false → element s (get_or c bay 0) ≡ filled bay
    unfolding filled nth
    at_present bay h here =
        sym (
        ap₂ (extend s).plus (ap (λ b. cond b (extend s).zero (element s (get_or bays bay 0))) here)
        (spread_off (extend s) nth y m bay (λ j l e. clash (sym here ∙ ap (absent marks) e ∙ listed.chosen j l)))
        ∙ (extend s).ring.plus_zero (element s (get_or bays bay 0))
        ∙ ap (element s) (sym (same bay h here))
        )

    at_bay : (bay : ℕ) → bay < n + 4 → (b : Bool) → absent marks bay ≡ b → element s (get_or c bay 0) ≡ filled bay
    at_bay bay h true e = at_absent bay h e
    at_bay bay h false e = at_present bay h e

    known_sum : (k : ℕ) → weighed s (known s bays marks) n k ≡ present_sum s bays marks k
    known_sum k = ap (total (extend s) (λ b. (extend s).times (column s b k) (known s bays marks b))) (sym long)

    -- the syndrome is what the present words add, and what the others do
    syndrome_is : (k : ℕ) → syndrome s c n k ≡ (extend s).plus (present_sum s bays marks k) (tally y k)
    unfolding tally filled
    syndrome_is k =
        total_ext (extend s) _ _ (n + 4) (λ b h. ap ((extend s).times (column s b k)) (at_bay b h (absent marks b) refl))
        ∙ weighed_filled s (known s bays marks) nth y n m k inside
        ∙ ap (λ z. (extend s).plus z (total (extend s) (λ j. (extend s).times (column s (nth j) k) (y j)) m)) (known_sum k)

  pub whole : (x : Four (Ext K)) (after : List ℕ) → Solves (extend s) (coefficient (extend s) t) (right (extend s) t) m (at (extend s) x)
      → Placed s bays places m x after → Whole s bays marks after
  unfolding n nth
  whole x after solves placed =
      let same : (bay : ℕ) → bay < n + 4 → absent marks bay ≡ false → get_or after bay 0 ≡ get_or bays bay 0 =
      λ bay h here. placed.others bay (λ j l e. clash (sym here ∙ ap (absent marks) e ∙ listed.chosen j l)) in
      let put : (j : ℕ) → j < m → element s (get_or after (nth j) 0) ≡ at (extend s) x j =
      λ j l. ap (element s) (placed.filled j l) ∙ (extend s).of_value (at (extend s) x j) in
      let zeros : (k : ℕ) → k < 4 → syndrome s after n k ≡ (extend s).zero =
      λ k h. syndrome_is after same (at (extend s) x) put k
      ∙ ap ((extend s).plus (present_sum s bays marks k)) (sym (left_is (at (extend s) x) k h) ∙ solves k h ∙ asks.sums k h)
      ∙ (extend s).ring.plus_self (present_sum s bays marks k) in
      let small : (bay : ℕ) → bay < n + 4 → get_or after bay 0 < words s = λ bay h. small_at bay h (absent marks bay) refl in
      let after-long : length after ≡ n + 4 = placed.long ∙ long in
      let is = zero_syndromes s after n after-long small zeros in
      let items = drop 4 after in
      let line : Line s n items = record {
        long = length-drop 4 after ∙ omega (arith, after-long);
        small = λ i h. subst (λ w. w < words s) (sym (get_or-drop 4 after i 0)) (small (4 + i) (omega arith));
      } in
      let agrees : Agrees s n (absent marks) bays items = λ bay h here. ap (λ (l : List ℕ). get_or l bay 0) (sym is) ∙ same bay h here in
      record {
        items = items;
        line = line;
        restored = is;
        present = agrees;
        only = λ others l fit. one_at_most s n fits (absent marks) (subst (λ k. count (absent marks) k ≤ 4) long ok.few) bays others items l line fit agrees;
      }
    where
      small_at : (bay : ℕ) → bay < n + 4 → (b : Bool) → absent marks bay ≡ b → get_or after bay 0 < words s
      small_at bay h true gone =
          let found = listed.complete bay (omega (arith, h, long)) gone in
          subst (λ w. w < words s) (sym (ap (λ b. get_or after b 0) (sym found.2) ∙ placed.filled found.0 found.1)) ((extend s).value_lt (at (extend s) x found.0))
      small_at bay h false here =
          subst (λ w. w < words s) (sym (placed.others bay (λ j l e. clash (sym here ∙ ap (absent marks) e ∙ listed.chosen j l))))
          (ok.small bay (omega (arith, h, long)) here)

  pub no_line : Unsolvable (extend s) (coefficient (extend s) t) (right (extend s) t) m → NoLine s bays marks
  unfolding n nth
  no_line none items line fit =
      let y : ℕ → Ext K = λ j. element s (get_or (codeword s items) (nth j) 0) in
      none y (λ k h.
      left_is y k h
      ∙ sym (equal (extend s).ring (present_sum s bays marks k) (tally y k) (sym (syndrome_is (codeword s items) fit y (λ j l. refl) k) ∙ codeword_syndromes s items n line.long k h))
      ∙ sym (asks.sums k h))

  -- The columns are never dependent, so what is not solved has no solution.
  pub never_solved : (r : Result (Four (Ext K)) Unsolved) → Answer (extend s) t m r → ((x : Four (Ext K)) → r ≡ Ok x → ⊥) → NoLine s bays marks
  never_solved (Ok x) a not = absurd (not x refl)
  never_solved (Err Inconsistent) a not = no_line a.1
  never_solved (Err Dependent) a not = absurd (a columns_independent)
