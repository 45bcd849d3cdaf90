-- Putting the words of the unknowns into their bays. Assumes nothing.
use Rattle.std.proofs.Common.{◌≡◌, ℕ, ◌+◌, ◌<◌, List, length, get_or, set, sym, refl, ap, ◌∙◌, inl, inr, arith, length-set, get_or-set_other, get_or-set_same}
use Rattle.std.proofs.lemmas.Bool.{cases_eq}
use Rattle.field.specs.Structure.{Structure}
use Rattle.extension.specs.declared.ext.Ext.{Ext}
use Rattle.extension.specs.Extend.{extend}
use Rattle.elimination.specs.declared.four.Four.{Four}
use Rattle.elimination.specs.Equations.{at}
use Rattle.elimination.specs.Places.{place}
use Rattle.elimination.proofs.Places.{at_place}
use Rattle.restore.specs.System.{Placed}

module _ {K : Type 0} (s : Structure K) where
  module _ (bays places : List ℕ) (x : Four (Ext K)) where
    pub placed_none : Placed s bays places 0 x bays
    placed_none = record { long = refl; filled = λ j h. absurd (omega arith); others = λ bay off. refl }

    pub placed_more : (j : ℕ) (words after : List ℕ) (w : ℕ) → Placed s bays places j x words → j < 4 → get_or places j 0 < length bays
        → ((i k : ℕ) → i < k → k < j + 1 → get_or places i 0 < get_or places k 0)
        → w ≡ (extend s).value (place x j) → after ≡ set words (get_or places j 0) w → Placed s bays places (j + 1) x after
    placed_more j words after w sofar few within rising value e =
        let b = get_or places j 0 in
        let room : b < length words = omega (arith, sofar.long) in
        let at-end : (bay : ℕ) → get_or after bay 0 ≡ get_or (set words b w) bay 0 = λ bay. ap (λ (l : List ℕ). get_or l bay 0) e in
        record {
          long = ap length e ∙ length-set words b w ∙ sofar.long;
          filled = λ k h. elim (cases_eq k j) [
            | inl same ↦
                ap (λ i. get_or after (get_or places i 0) 0) same ∙ at-end b ∙ get_or-set_same words b w 0 room ∙ value
                ∙ sym (ap (extend s).value (at_place (extend s) x j few)) ∙ ap (λ i. (extend s).value (at (extend s) x i)) (sym same)
            | inr other ↦
                let l : k < j = omega arith in
                at-end (get_or places k 0) ∙ get_or-set_other words b (get_or places k 0) w 0 (omega (arith, rising k j l (omega arith))) ∙ sofar.filled k l
          ];
          others = λ bay off. at-end bay ∙ get_or-set_other words b bay w 0 (off j (omega arith)) ∙ sofar.others bay (λ k h. off k (omega arith));
        }
