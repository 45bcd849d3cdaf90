-- The check words of a line from its sums by halves. Assumes nothing.
use Rattle.std.proofs.Common.{◌≡◌, ℕ, ◌+◌, ◌-◌, ◌^◌, ◌≤◌, List, [], ◌∷◌, length, sym, ap, ◌∙◌, ap₂, arith}
use Rattle.std.proofs.lemmas.List.{get_or_past}
use Rattle.ring2.proofs.Laws.{zero_plus, zero_times}
use Rattle.ring2.proofs.Solve.{reading, solved}
use Rattle.field.specs.Structure.{Structure}
use Rattle.field.proofs.Elements.{of_zero}
use Rattle.extension.specs.declared.ext.Ext.{Ext}
use Rattle.extension.specs.Formulas.{pair, root_u}
use Rattle.extension.specs.Extend.{extend}
use Rattle.extension.proofs.Embed.{plus_parts}
use Rattle.codeword.specs.Sums.{total, power}
use Rattle.codeword.specs.Codeword.{element, point, check}
use Rattle.codeword.proofs.Sums.{total_ext, total_zero, total_split}
use Rattle.halves.specs.Moments.{t0, t1, t2, t3, items_of, moment, shifted1, shifted2, shifted3}
use Rattle.halves.proofs.ByHalves.{point_of, halves0, halves1, halves2, halves3}
use Rattle.halves.proofs.Shifting.{moved_at, shift1, shift2, shift3}

module _ {K : Type 0} (s : Structure K) where
  -- terms that are zero from n on add nothing
  pad : (f : ℕ → Ext K) (n m : ℕ) → n ≤ m → ((i : ℕ) → n ≤ i → f i ≡ (extend s).zero) → total (extend s) f n ≡ total (extend s) f m
  pad f n m h none =
      let e : m ≡ n + (m - n) = omega arith in
      sym (ap (total (extend s) f) e ∙ total_split (extend s) f n (m - n)
      ∙ ap ((extend s).plus (total (extend s) f n)) (total_zero (extend s) (λ i. f (n + i)) (m - n) (λ i l. none (n + i) (omega arith)))
      ∙ (extend s).ring.plus_zero (total (extend s) f n))

  pub past_zero : (items : List ℕ) (i : ℕ) → length items ≤ i → items_of s items i ≡ (extend s).zero
  past_zero items i h = ap (element s) (get_or_past items i 0 h) ∙ of_zero (extend s)

  -- the point is u + w
  point_is : (i : ℕ) → point s i ≡ (extend s).plus (root_u s) (point_of s i)
  point_is i = sym (plus_parts s (root_u s) (point_of s i) ∙ ap₂ pair (zero_plus s.ring (s.of i)) (s.ring.plus_zero s.one))

  module _ (items : List ℕ) (n : ℕ) (few : length items ≤ 2 ^ n) (bits : n ≤ s.bits) where
    -- a check word as a sum over 2^n items of d·(u + w)^l
    padded : (l : ℕ) → check s items l ≡ total (extend s) (moved_at (extend s) (items_of s items) (point_of s) (root_u s) l) (2 ^ n)
    padded l =
        let f : ℕ → Ext K = λ i. (extend s).times (items_of s items i) (power (extend s) (point s i) l) in
        pad f (length items) (2 ^ n) few
        (λ i h. ap (λ x. (extend s).times x (power (extend s) (point s i) l)) (past_zero items i h) ∙ zero_times (extend s).ring (power (extend s) (point s i) l))
        ∙ total_ext (extend s) f (moved_at (extend s) (items_of s items) (point_of s) (root_u s) l) (2 ^ n)
        (λ i h. ap (λ x. (extend s).times (items_of s items i) (power (extend s) x l)) (point_is i))

    pub check0 : check s items 0 ≡ t0 s n (items_of s items)
    check0 = padded 0 ∙ sym (halves0 s n (items_of s items) bits)

    pub check1 : check s items 1 ≡ shifted1 s (t0 s n (items_of s items)) (t1 s n (items_of s items))
    check1 =
        let f : ℕ → Ext K = items_of s items in
        padded 1 ∙ shift1 (extend s) f (point_of s) (root_u s) (2 ^ n)
        ∙ ap ((extend s).plus (moment s 1 (2 ^ n) f)) ((extend s).ring.times_comm (root_u s) (moment s 0 (2 ^ n) f))
        ∙ sym (ap₂ (shifted1 s) (halves0 s n f bits) (halves1 s n f bits))

    pub check2 : check s items 2 ≡ shifted2 s (t0 s n (items_of s items)) (t2 s n (items_of s items))
    check2 =
        let f : ℕ → Ext K = items_of s items in
        padded 2 ∙ shift2 (extend s) f (point_of s) (root_u s) (2 ^ n)
        ∙ solved (extend s).ring (moment s 0 (2 ^ n) f ∷ moment s 2 (2 ^ n) f ∷ root_u s ∷ []) (search reading depth 12) (search reading depth 12) tt
        ∙ sym (ap₂ (shifted2 s) (halves0 s n f bits) (halves2 s n f bits))

    pub check3 : check s items 3
        ≡ shifted3 s (t0 s n (items_of s items)) (t1 s n (items_of s items)) (t2 s n (items_of s items)) (t3 s n (items_of s items))
    check3 =
        let f : ℕ → Ext K = items_of s items in
        padded 3 ∙ shift3 (extend s) f (point_of s) (root_u s) (2 ^ n)
        ∙ solved (extend s).ring (moment s 0 (2 ^ n) f ∷ moment s 1 (2 ^ n) f ∷ moment s 2 (2 ^ n) f ∷ moment s 3 (2 ^ n) f ∷ root_u s ∷ []) (search reading depth 24) (search reading depth 24) tt
        ∙ sym (ap₂ (λ x y. shifted3 s x y (t2 s n f) (t3 s n f)) (halves0 s n f bits) (halves1 s n f bits)
        ∙ ap₂ (shifted3 s (moment s 0 (2 ^ n) f) (moment s 1 (2 ^ n) f)) (halves2 s n f bits) (halves3 s n f bits))
