-- The sums of the present words, bay by bay. Assumes nothing.
use Rattle.std.proofs.Common.{◌≡◌, ℕ, ◌+◌, ◌<◌, true, false, cond, List, [], ◌∷◌, length, drop, get_or, sym, ap, ◌∙◌, ap₂, arith}
use Rattle.std.proofs.Math.ListN.{drop_of_length-le}
use Rattle.std.proofs.lemmas.List.{drop_more}
use native.Mathlib.Decide.{dec_lt}
use Rattle.ring2.proofs.Laws.{times_zero}
use Rattle.field.specs.Structure.{Structure}
use Rattle.extension.specs.declared.ext.Ext.{Ext}
use Rattle.extension.specs.Extend.{extend}
use Rattle.codeword.specs.Sums.{total}
use Rattle.codeword.specs.Codeword.{element}
use Rattle.codeword.proofs.Sums.{total_none, total_more}
use Rattle.distance.specs.Column.{column}
use Rattle.elimination.specs.declared.four.Four.{Four}
use Rattle.elimination.specs.Places.{place}
use Rattle.elimination.proofs.Places.{place_made}
use Rattle.restore.specs.Restored.{absent}
use Rattle.restore.specs.System.{multiple_added, known}

-- where a list begins that is left after n items
pub drop_head : (n : ℕ) (xs ys : List ℕ) (x : ℕ) → drop n xs ≡ x ∷ ys → (n < length xs) × (get_or xs n 0 ≡ x) × (ys ≡ drop (n + 1) xs)
drop_head n xs ys x e = elim (dec_lt n (length xs)) [
  | yes h ↦ let more = drop_more xs n 0 h in (h, cc, cc)
  | no h ↦ let none : drop n xs ≡ [] = drop_of_length-le xs (omega arith) in absurd (cc)
]

module _ {K : Type 0} (s : Structure K) where
  module _ (bays marks : List ℕ) where
    abbrev term : ℕ → ℕ → Ext K
    term k b = (extend s).times (column s b k) (known s bays marks b)

    -- the sums over the first n bays
    abbrev pub Sums : ℕ → Four (Ext K) → Type 0
    Sums n f = (k : ℕ) → k < 4 → place f k ≡ total (extend s) (λ b. (extend s).times (column s b k) (known s bays marks b)) n

    pub sums_none : (f : Four (Ext K)) → ((k : ℕ) → k < 4 → place f k ≡ (extend s).zero) → Sums 0 f
    sums_none f none k h = none k h ∙ sym (total_none (extend s) (term k))

    module _ (n : ℕ) (f g : Four (Ext K)) (sofar : Sums n f) where
      -- a present bay
      pub sums_take : absent marks n ≡ false → (col : Four (Ext K)) → ((k : ℕ) → k < 4 → place col k ≡ column s n k)
          → (w : Ext K) → w ≡ element s (get_or bays n 0) → g ≡ multiple_added s f col w → Sums (n + 1) g
      sums_take here col cols w is e k h =
          let value : w ≡ known s bays marks n = is ∙ sym (ap (λ b. cond b (extend s).zero (element s (get_or bays n 0))) here) in
          ap (λ (t : Four (Ext K)). place t k) e ∙ place_made (λ k. (extend s).plus (place f k) ((extend s).times (place col k) w)) k h
          ∙ ap₂ (extend s).plus (sofar k h) (ap₂ (extend s).times (cols k h) value)
          ∙ sym (total_more (extend s) (term k) n)

      -- an absent bay
      pub sums_skip : absent marks n ≡ true → g ≡ f → Sums (n + 1) g
      sums_skip gone e k h =
          let none : term k n ≡ (extend s).zero =
          ap (λ b. (extend s).times (column s n k) (cond b (extend s).zero (element s (get_or bays n 0)))) gone ∙ times_zero (extend s).ring (column s n k) in
          ap (λ (t : Four (Ext K)). place t k) e ∙ sofar k h
          ∙ sym ((extend s).ring.plus_zero (total (extend s) (term k) n)) ∙ ap ((extend s).plus (total (extend s) (term k) n)) (sym none)
          ∙ sym (total_more (extend s) (term k) n)
