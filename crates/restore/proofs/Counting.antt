-- Counting and listing the absent bays, and looking for a word that is too large. Assumes nothing.
use Rattle.std.proofs.Common.{◌≡◌, ℕ, zero, suc, ◌+◌, ◌<◌, ◌≤◌, Bool, true, false, cond, not, ◌&&◌, eqb, leb, List, [], ◌∷◌, ◌++◌, length, get_or, sym, refl, ap, ◌∙◌, inl, inr, arith, length-append}
use Rattle.std.proofs.Math.ListN.{get_or-append}
use Rattle.std.proofs.Math.Seq.{get_or-append_seam}
use borrow.Author.Tests.{clash}
use Rattle.std.specs.List.{zip, find, count_by}
use Rattle.std.specs.Option.{option_map}
use Rattle.std.proofs.lemmas.Bool.{cases_eq}
use Rattle.std.proofs.lemmas.Bool.Decides.{nat_tests}
use Rattle.std.proofs.lemmas.List.Sums.{sum_by-cons}
use Rattle.codeword.specs.Sums.{count}
use Rattle.codeword.proofs.Counts.{count_none, count_suc, count_up, count_skip, count_take}
use Rattle.restore.specs.Restored.{absent, first_large}
use Rattle.restore.specs.Absences.{Absences}

-- the first pair of a present word that is too large has the first such word
pub large_found : (bound : ℕ) (ws ms : List ℕ) → option_map (λ p. p.0) (find (λ p. eqb p.1 0 && leb bound p.0) (zip ws ms)) ≡ first_large bound ws ms
large_found bound [] ms = refl
large_found bound (w ∷ ws) [] = refl
large_found bound (w ∷ ws) (m ∷ ms) = let rest = large_found bound ws ms in grind (arith, nat_tests)

-- counting from the front
count_front : (test : ℕ → Bool) (n : ℕ) → count test (suc n) ≡ cond (test 0) 1 0 + count (λ i. test (suc i)) n
count_front test zero = rw (count_suc test 0, count_none test, count_none (λ i. test (suc i))) refl
count_front test (suc n) =
    rw (count_suc test (suc n), count_front test n, count_suc (λ i. test (suc i)) n) (omega arith)

-- the marks that are not zero are as many as the absent bays
pub count_marks : (marks : List ℕ) → count_by (λ m. not (eqb m 0)) marks ≡ count (absent marks) (length marks)
count_marks [] = sym (count_none (absent []))
count_marks (m ∷ ms) =
    sum_by-cons (λ (x : ℕ). cond (not (eqb x 0)) 1 0) m ms ∙ ap (λ k. cond (not (eqb m 0)) 1 0 + k) (count_marks ms) ∙ sym (count_front (absent (m ∷ ms)) (length ms))

module _ (test : ℕ → Bool) where
  pub absences_none : Absences test 0 []
  absences_none = record {
    many = sym (count_none test);
    below = λ j h. absurd (omega arith);
    chosen = λ j h. absurd (omega arith);
    rising = λ i j l h. absurd (omega arith);
    complete = λ bay h t. absurd (omega arith);
  }

  module _ (n : ℕ) (bays : List ℕ) (sofar : Absences test n bays) where
    -- there is room for one more number that passes
    pub room : (m : ℕ) → test n ≡ true → n < m → count test m ≤ 4 → length bays < 4
    room m on less few = omega (arith, sofar.many, count_take test n on, count_up test (n + 1) m (omega arith))

    -- a bay that is present
    pub absences_skip : test n ≡ false → Absences test (n + 1) bays
    absences_skip off = record {
      many = sofar.many ∙ sym (count_skip test n off);
      below = λ j h. omega (arith, sofar.below j h);
      chosen = sofar.chosen;
      rising = sofar.rising;
      complete = λ bay h t. elim (cases_eq bay n) [
        | inl e ↦ absurd (clash (sym off ∙ ap test (sym e) ∙ t))
        | inr d ↦ sofar.complete bay (omega (arith, d)) t
      ];
    }

    -- a bay that is absent
    pub absences_put : test n ≡ true → Absences test (n + 1) (bays ++ n ∷ [])
    absences_put on =
        let here : get_or (bays ++ n ∷ []) (length bays) 0 ≡ n = get_or-append_seam bays n [] 0 in
        let there : (j : ℕ) → j < length bays → get_or (bays ++ n ∷ []) j 0 ≡ get_or bays j 0 = λ j h. get_or-append bays (n ∷ []) 0 j h in
        let long : length (bays ++ n ∷ []) ≡ length bays + 1 = length-append bays (n ∷ []) in
        record {
          many = long ∙ ap (λ k. k + 1) sofar.many ∙ sym (count_take test n on);
          below = λ j h. elim (cases_eq j (length bays)) [
            | inl e ↦ omega (arith, ap (λ k. get_or (bays ++ n ∷ []) k 0) e, here)
            | inr d ↦ let l : j < length bays = omega arith in omega (arith, there j l, sofar.below j l)
          ];
          chosen = λ j h. elim (cases_eq j (length bays)) [
            | inl e ↦ ap (λ k. test (get_or (bays ++ n ∷ []) k 0)) e ∙ ap test here ∙ on
            | inr d ↦ let l : j < length bays = omega arith in ap test (there j l) ∙ sofar.chosen j l
          ];
          rising = λ i j l h. elim (cases_eq j (length bays)) [
            | inl e ↦ let k : i < length bays = omega arith in omega (arith, there i k, sofar.below i k, ap (λ x. get_or (bays ++ n ∷ []) x 0) e, here)
            | inr d ↦ let k : j < length bays = omega arith in omega (arith, there i (omega arith), there j k, sofar.rising i j l k)
          ];
          complete = λ bay h t. elim (cases_eq bay n) [
            | inl e ↦ (length bays, omega arith, here ∙ sym e)
            | inr d ↦ let old = sofar.complete bay (omega (arith, d)) t in (old.0, omega (arith, old.1), there old.0 old.1 ∙ old.2)
          ];
        }
