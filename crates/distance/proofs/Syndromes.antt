-- The words of the bays are a codeword where, and only where, their four syndromes are zero. Assumes nothing.
use Rattle.std.proofs.Common.{◌≡◌, ℕ, zero, suc, ◌+◌, ◌-◌, ◌<◌, List, length, get_or, drop, sym, refl, ap, ◌∙◌, ap₂, add_comm, arith, length-drop, get_or-drop, ext_get_or}
use native.Mathlib.Decide.{dec_lt}
use native.Mathlib.Numerals.{add-four}
use Rattle.ring2.specs.Ring.{Ops}
use Rattle.ring2.proofs.Laws.{one_times, zero_times, equal}
use Rattle.field.specs.Structure.{Structure, ops}
use Rattle.extension.specs.declared.ext.Ext.{Ext}
use Rattle.extension.specs.Extend.{extend}
use Rattle.codeword.specs.Sums.{total, power}
use Rattle.codeword.proofs.Sums.{total_ext, total_plus, total_split, total_one}
use Rattle.codeword.specs.Codeword.{words, element, point, check, check_word, codeword}
use Rattle.distance.specs.Column.{basis, powers, column, weighed, syndrome}
use Rattle.distance.specs.Theorems.{BySyndromes}
use Rattle.distance.proofs.Cramer.{below_four}
use Rattle.distance.proofs.Chosen.{spread, spread_sum}

pub basis_self : {K : Type 0} (o : Ops K) (b : ℕ) → basis o b b ≡ o.one
basis_self o zero = refl
basis_self o (suc b) = basis_self o b

pub basis_other : {K : Type 0} (o : Ops K) (b r : ℕ) → (b ≡ r → ⊥) → basis o b r ≡ o.zero
basis_other o zero zero n = absurd (n refl)
basis_other o zero (suc r) n = refl
basis_other o (suc b) zero n = refl
basis_other o (suc b) (suc r) n = basis_other o b r (λ e. n (ap suc e))

powers_are : {K : Type 0} (s : Structure K) (x : K) (r : ℕ) → powers (ops s) x r ≡ power s x r
powers_are s x zero = refl
powers_are s x (suc r) = ap (λ p. s.times p x) (powers_are s x r)

module _ {K : Type 0} (s : Structure K) where
  pub check_column : (b : ℕ) → b < 4 → (r : ℕ) → column s b r ≡ basis (ops (extend s)) b r
  check_column = below_four (λ b. (r : ℕ) → column s b r ≡ basis (ops (extend s)) b r) (λ r. refl) (λ r. refl) (λ r. refl) (λ r. refl)

  item_column : (i r : ℕ) → column s (i + 4) r ≡ power (extend s) (point s i) r
  item_column i r = ap (λ b. column s b r) (add-four i) ∙ powers_are (extend s) (point s i) r

  -- row r: the element of check bay r, and those of the items times the powers of their points
  pub weighed_is : (f : ℕ → Ext K) (n r : ℕ) → r < 4
      → weighed s f n r ≡ (extend s).plus (f r) (total (extend s) (λ i. (extend s).times (power (extend s) (point s i) r) (f (i + 4))) n)
  weighed_is f n r h =
      let E : Structure (Ext K) = extend s in
      let g : ℕ → Ext K = λ b. E.times (column s b r) (f b) in
      ap (total E g) (add_comm n 4) ∙ total_split E g 4 n
      ∙ ap₂ E.plus
      (total_one E g r 4 h (λ b l ne. ap (λ c. E.times c (f b)) (check_column b l r ∙ basis_other (ops E) b r ne) ∙ zero_times E.ring (f b))
      ∙ ap (λ c. E.times c (f r)) (check_column r h r ∙ basis_self (ops E) r) ∙ one_times E.ring (f r))
      (total_ext E (λ i. g (4 + i)) (λ i. E.times (power E (point s i) r) (f (i + 4))) n
      (λ i l. ap g (add_comm 4 i) ∙ ap (λ c. E.times c (f (i + 4))) (item_column i r)))

  -- syndrome r of words whose items are these: the word in check bay r and the check word of the items
  syndrome_is : (bays items : List ℕ) (n r : ℕ) → r < 4 → length items ≡ n → ((i : ℕ) → get_or bays (i + 4) 0 ≡ get_or items i 0)
      → syndrome s bays n r ≡ (extend s).plus (element s (get_or bays r 0)) (check s items r)
  syndrome_is bays items n r h long same =
      let E : Structure (Ext K) = extend s in
      weighed_is (λ b. element s (get_or bays b 0)) n r h
      ∙ ap (E.plus (element s (get_or bays r 0)))
      (total_ext E (λ i. E.times (power E (point s i) r) (element s (get_or bays (i + 4) 0))) (λ i. E.times (element s (get_or items i 0)) (power E (point s i) r)) n
      (λ i l. E.ring.times_comm (power E (point s i) r) (element s (get_or bays (i + 4) 0)) ∙ ap (λ w. E.times (element s w) (power E (point s i) r)) (same i))
      ∙ ap (total E (λ i. E.times (element s (get_or items i 0)) (power E (point s i) r))) (sym long))

  pub codeword_item : (items : List ℕ) (i : ℕ) → get_or (codeword s items) (i + 4) 0 ≡ get_or items i 0
  codeword_item items i = ap (λ b. get_or (codeword s items) b 0) (add-four i)

  pub codeword_check : (items : List ℕ) (r : ℕ) → r < 4 → get_or (codeword s items) r 0 ≡ check_word s items r
  codeword_check items = below_four (λ r. get_or (codeword s items) r 0 ≡ check_word s items r) refl refl refl refl

  -- a codeword has zero syndromes
  pub codeword_syndromes : (items : List ℕ) (n : ℕ) → length items ≡ n → (r : ℕ) → r < 4 → syndrome s (codeword s items) n r ≡ (extend s).zero
  codeword_syndromes items n long r h =
      let E : Structure (Ext K) = extend s in
      syndrome_is (codeword s items) items n r h long (codeword_item items)
      ∙ ap (λ w. E.plus (element s w) (check s items r)) (codeword_check items r h)
      ∙ ap (λ e. E.plus e (check s items r)) (E.of_value (check s items r)) ∙ E.ring.plus_self (check s items r)

  -- and words with zero syndromes are the codeword of their items
  pub zero_syndromes : (bays : List ℕ) (n : ℕ) → length bays ≡ n + 4 → ((b : ℕ) → b < n + 4 → get_or bays b 0 < words s)
      → ((r : ℕ) → r < 4 → syndrome s bays n r ≡ (extend s).zero) → bays ≡ codeword s (drop 4 bays)
  zero_syndromes bays n long small none = ext_get_or 0 bays (codeword s items) (omega (arith, count)) (λ b h. at b (omega arith))
    where
      items : List ℕ
      items = drop 4 bays

      count : length items ≡ n
      count = length-drop 4 bays ∙ omega arith

      same : (i : ℕ) → get_or bays (i + 4) 0 ≡ get_or items i 0
      same i = ap (λ b. get_or bays b 0) (omega arith) ∙ sym (get_or-drop 4 bays i 0)

      checked : (r : ℕ) → r < 4 → get_or bays r 0 ≡ check_word s items r
      checked r h =
          sym ((extend s).value_of (get_or bays r 0) (small r (omega arith)))
          ∙ ap (extend s).value (equal (extend s).ring (element s (get_or bays r 0)) (check s items r) (sym (syndrome_is bays items n r h count same) ∙ none r h))

      at : (b : ℕ) → b < n + 4 → get_or bays b 0 ≡ get_or (codeword s items) b 0
      at b h = elim (dec_lt b 4) [
        | yes l ↦ checked b l ∙ sym (codeword_check items b l)
        | no l ↦
            let e : b - 4 + 4 ≡ b = omega arith in
            ap (λ c. get_or bays c 0) (sym e) ∙ same (b - 4) ∙ sym (codeword_item items (b - 4)) ∙ ap (λ c. get_or (codeword s items) c 0) e
      ]

  pub by_syndromes : BySyndromes s
  by_syndromes = record { enough = λ n bays long small none. zero_syndromes bays n long small none; needed = λ items r h. codeword_syndromes items (length items) refl r h }

  -- the rows of sums, and of words whose bays b are filled with x
  pub weighed_plus : (f g : ℕ → Ext K) (n r : ℕ) → weighed s (λ b. (extend s).plus (f b) (g b)) n r ≡ (extend s).plus (weighed s f n r) (weighed s g n r)
  weighed_plus f g n r =
      let E : Structure (Ext K) = extend s in
      total_ext E (λ b. E.times (column s b r) (E.plus (f b) (g b))) (λ b. E.plus (E.times (column s b r) (f b)) (E.times (column s b r) (g b))) (n + 4)
      (λ b h. E.ring.times_plus (column s b r) (f b) (g b))
      ∙ total_plus E (λ b. E.times (column s b r) (f b)) (λ b. E.times (column s b r) (g b)) (n + 4)

  pub weighed_filled : (f : ℕ → Ext K) (b : ℕ → ℕ) (x : ℕ → Ext K) (n m r : ℕ) → ((j : ℕ) → j < m → b j < n + 4)
      → weighed s (λ c. (extend s).plus (f c) (spread (extend s) b x m c)) n r
      ≡ (extend s).plus (weighed s f n r) (total (extend s) (λ j. (extend s).times (column s (b j) r) (x j)) m)
  weighed_filled f b x n m r small =
      weighed_plus f (spread (extend s) b x m) n r
      ∙ ap ((extend s).plus (weighed s f n r)) (spread_sum (extend s) b x (λ c. column s c r) (n + 4) m small)
