-- The sums t0 to t3 by halves are the sums of d·w^l, by induction on the exponent. Assumes nothing.
use Rattle.std.proofs.Common.{◌≡◌, ℕ, zero, suc, ◌+◌, ◌*◌, ◌^◌, ◌<◌, ◌≤◌, [], ◌∷◌, sym, ap, ◌∙◌, ap₂, arith}
use lib.Bits.{bit_xor, xor_shifted}
use lib.Pow.{pow-lt}
use Rattle.ring2.proofs.Laws.{times_zero, zero_plus}
use Rattle.ring2.proofs.Solve.{var, ◌⊕◌, ◌⊗◌, solve, reading, solved}
use Rattle.field.specs.Structure.{Structure, size}
use Rattle.field.proofs.Elements.{of_xor, of_zero}
use Rattle.extension.specs.declared.ext.Ext.{Ext}
use Rattle.extension.specs.Formulas.{embed}
use Rattle.extension.specs.Extend.{extend}
use Rattle.extension.proofs.Embed.{embed_times, embed_plus}
use Rattle.codeword.specs.Sums.{total, power}
use Rattle.codeword.proofs.Sums.{total_none, total_suc, total_ext, total_plus, total_times, total_split}
use Rattle.halves.specs.Runs.{none, one, two, upper, run}
use Rattle.halves.specs.Moments.{bit, bit2, bit3, mixed, singles, pairs, t0, t1, t2, t3, moment}
use Rattle.halves.proofs.Halving.{twice, run_word, none_step, singles_step, pairs_step}
use Rattle.halves.proofs.Shifting.{moved_at, shift1, shift2, shift3}

module _ {K : Type 0} (s : Structure K) where
  -- the base elements of the items and of the bits, in the extension
  abbrev pub point_of : ℕ → Ext K
  point_of i = embed s (s.of i)

  abbrev pub bit_of : ℕ → Ext K
  bit_of m = embed s (bit s m)

  -- the base element numbered 2^m + i is v_m + w_i
  pub upper_point : (m i : ℕ) → suc m ≤ s.bits → i < 2 ^ m → point_of (2 ^ m + i) ≡ (extend s).plus (bit_of m) (point_of i)
  upper_point m i h l =
      let p : 2 ^ m < size s = pow-lt h in
      let e : 1 * 2 ^ m ≡ 2 ^ m = omega arith in
      let x : 2 ^ m + i ≡ bit_xor (2 ^ m) i = sym (ap (λ a. bit_xor a i) (sym e) ∙ xor_shifted 1 m i l ∙ ap (λ a. a + i) e) in
      ap (λ n. embed s (s.of n)) x ∙ ap (embed s) (of_xor s (2 ^ m) i p (omega arith)) ∙ sym (embed_plus s (bit s m) (s.of i))

  pub square : (j : ℕ) → embed s (bit2 s j) ≡ (extend s).times (bit_of j) (bit_of j)
  square j = sym (embed_times s (bit s j) (bit s j))

  pub cube : (j : ℕ) → embed s (bit3 s j) ≡ (extend s).times ((extend s).times (bit_of j) (bit_of j)) (bit_of j)
  cube j = sym (embed_times s (bit2 s j) (bit s j)) ∙ ap (λ x. (extend s).times x (bit_of j)) (square j)

  first_term : (h : ℕ → Ext K) → total (extend s) h (2 ^ 0) ≡ h 0
  first_term h =
      total_suc (extend s) h 0 ∙ ap (λ x. (extend s).plus x (h 0)) (total_none (extend s) h) ∙ zero_plus (extend s).ring (h 0)

  -- item 0's element is zero
  point_zero : (extend s).zero ≡ point_of 0
  unfolding extend
  point_zero = ap (embed s) (sym (of_zero s))

  -- the terms of the upper half are d·(v_m + w)^l
  moment_step : (l m : ℕ) (f : ℕ → Ext K) → suc m ≤ s.bits
      → moment s l (2 ^ suc m) f ≡ (extend s).plus (moment s l (2 ^ m) f) (total (extend s) (moved_at (extend s) (upper m f) point_of (bit_of m) l) (2 ^ m))
  moment_step l m f h =
      let g : ℕ → Ext K = λ i. (extend s).times (f i) (power (extend s) (point_of i) l) in
      ap (total (extend s) g) (twice m) ∙ total_split (extend s) g (2 ^ m) (2 ^ m)
      ∙ ap ((extend s).plus (moment s l (2 ^ m) f))
      (total_ext (extend s) (λ i. g (2 ^ m + i)) (moved_at (extend s) (upper m f) point_of (bit_of m) l) (2 ^ m)
      (λ i b. ap (λ x. (extend s).times (f (2 ^ m + i)) (power (extend s) x l)) (upper_point m i h b)))

  pub halves0 : (m : ℕ) (f : ℕ → Ext K) → m ≤ s.bits → t0 s m f ≡ moment s 0 (2 ^ m) f
  halves0 zero f h = run_word (extend s) none f ∙ sym (first_term (λ i. (extend s).times (f i) (extend s).one) ∙ (extend s).ring.times_one (f 0))
  halves0 (suc m) f h =
      none_step (extend s) m f ∙ ap₂ (extend s).plus (halves0 m f (omega arith)) (halves0 m (upper m f) (omega arith)) ∙ sym (moment_step 0 m f h)

  -- a sum over no bits is zero, and so is d·w^l of item 0
  none_first : (f : ℕ → Ext K) (x : Ext K) → (extend s).zero ≡ (extend s).times (f 0) ((extend s).times x (point_of 0))
  none_first f x =
      sym (times_zero (extend s).ring (f 0)) ∙ ap ((extend s).times (f 0)) (sym (times_zero (extend s).ring x) ∙ ap ((extend s).times x) point_zero)

  singles_first : (c : ℕ → K) (l : ℕ) (f : ℕ → Ext K) → singles s c 0 f ≡ moment s (suc l) (2 ^ 0) f
  singles_first c l f =
      total_none (extend s) (λ j. (extend s).times (run (extend s) (one j) 0 f) (embed s (c j)))
      ∙ none_first f (power (extend s) (point_of 0) l) ∙ sym (first_term (λ i. (extend s).times (f i) (power (extend s) (point_of i) (suc l))))

  pub halves1 : (m : ℕ) (f : ℕ → Ext K) → m ≤ s.bits → t1 s m f ≡ moment s 1 (2 ^ m) f
  halves1 zero f h = singles_first (bit s) 0 f
  halves1 (suc m) f h =
      let g : ℕ → Ext K = upper m f in
      let a : Ext K = moment s 1 (2 ^ m) f in
      let b : Ext K = moment s 1 (2 ^ m) g in
      let z : Ext K = moment s 0 (2 ^ m) g in
      singles_step (extend s) (λ j. embed s (bit s j)) m f
      ∙ ap₂ (extend s).plus (ap₂ (extend s).plus (halves1 m f (omega arith)) (halves1 m g (omega arith))) (ap (λ x. (extend s).times x (bit_of m)) (halves0 m g (omega arith)))
      ∙ solved (extend s).ring (a ∷ b ∷ z ∷ bit_of m ∷ []) (search reading depth 12) (search reading depth 12) tt
      ∙ ap ((extend s).plus a) (sym (shift1 (extend s) g point_of (bit_of m) (2 ^ m))) ∙ sym (moment_step 1 m f h)

  pub halves2 : (m : ℕ) (f : ℕ → Ext K) → m ≤ s.bits → t2 s m f ≡ moment s 2 (2 ^ m) f
  halves2 zero f h = singles_first (bit2 s) 1 f
  halves2 (suc m) f h =
      let g : ℕ → Ext K = upper m f in
      let a : Ext K = moment s 2 (2 ^ m) f in
      let b : Ext K = moment s 2 (2 ^ m) g in
      let z : Ext K = moment s 0 (2 ^ m) g in
      singles_step (extend s) (λ j. embed s (bit2 s j)) m f
      ∙ ap₂ (extend s).plus (ap₂ (extend s).plus (halves2 m f (omega arith)) (halves2 m g (omega arith))) (ap₂ (extend s).times (halves0 m g (omega arith)) (square m))
      ∙ solved (extend s).ring (a ∷ b ∷ z ∷ bit_of m ∷ []) (search reading depth 12) (search reading depth 12) tt
      ∙ ap ((extend s).plus a) (sym (shift2 (extend s) g point_of (bit_of m) (2 ^ m))) ∙ sym (moment_step 2 m f h)

  -- the mixed factors of the top bit m: v_m·t2 + v_m²·t1
  mixed_is : (j m : ℕ) → embed s (mixed s j m)
      ≡ (extend s).plus ((extend s).times (embed s (bit2 s j)) (bit_of m)) ((extend s).times (bit_of j) ((extend s).times (bit_of m) (bit_of m)))
  mixed_is j m =
      sym (embed_plus s (s.times (bit2 s j) (bit s m)) (s.times (bit s j) (bit2 s m)))
      ∙ ap₂ (extend s).plus (sym (embed_times s (bit2 s j) (bit s m))) (sym (embed_times s (bit s j) (bit2 s m)) ∙ ap ((extend s).times (bit_of j)) (square m))

  mixed_row : (m : ℕ) (r : ℕ → Ext K)
      → total (extend s) (λ j. (extend s).times (r j) (embed s (mixed s j m))) m
      ≡ (extend s).plus ((extend s).times (bit_of m) (total (extend s) (λ j. (extend s).times (r j) (embed s (bit2 s j))) m))
      ((extend s).times ((extend s).times (bit_of m) (bit_of m)) (total (extend s) (λ j. (extend s).times (r j) (bit_of j)) m))
  mixed_row m r =
      let x : ℕ → Ext K = λ j. (extend s).times (bit_of m) ((extend s).times (r j) (embed s (bit2 s j))) in
      let y : ℕ → Ext K = λ j. (extend s).times ((extend s).times (bit_of m) (bit_of m)) ((extend s).times (r j) (bit_of j)) in
      total_ext (extend s) (λ j. (extend s).times (r j) (embed s (mixed s j m))) (λ j. (extend s).plus (x j) (y j)) m
      (λ j h. ap ((extend s).times (r j)) (mixed_is j m)
      ∙ solved (extend s).ring (r j ∷ embed s (bit2 s j) ∷ bit_of j ∷ bit_of m ∷ []) (search reading depth 12) (search reading depth 12) tt)
      ∙ total_plus (extend s) x y m
      ∙ ap₂ (extend s).plus (total_times (extend s) (bit_of m) (λ j. (extend s).times (r j) (embed s (bit2 s j))) m)
      (total_times (extend s) ((extend s).times (bit_of m) (bit_of m)) (λ j. (extend s).times (r j) (bit_of j)) m)

  pub halves3 : (m : ℕ) (f : ℕ → Ext K) → m ≤ s.bits → t3 s m f ≡ moment s 3 (2 ^ m) f
  halves3 zero f h =
      ap ((extend s).plus (singles s (bit3 s) 0 f)) (total_none (extend s) (λ k. total (extend s) (λ j. (extend s).times (run (extend s) (two j k) 0 f) (embed s (mixed s j k))) k))
      ∙ (extend s).ring.plus_zero (singles s (bit3 s) 0 f) ∙ singles_first (bit3 s) 2 f
  halves3 (suc m) f h =
      let g : ℕ → Ext K = upper m f in
      let v : Ext K = bit_of m in
      let a : Ext K = singles s (bit3 s) m f in
      let b : Ext K = singles s (bit3 s) m g in
      let p : Ext K = pairs s (mixed s) m f in
      let q : Ext K = pairs s (mixed s) m g in
      let z : Ext K = moment s 0 (2 ^ m) g in
      let o : Ext K = moment s 1 (2 ^ m) g in
      let w : Ext K = moment s 2 (2 ^ m) g in
      ap₂ (extend s).plus
      (singles_step (extend s) (λ j. embed s (bit3 s j)) m f ∙ ap ((extend s).plus ((extend s).plus a b)) (ap₂ (extend s).times (halves0 m g (omega arith)) (cube m)))
      (pairs_step (extend s) (λ j k. embed s (mixed s j k)) m f
      ∙ ap ((extend s).plus ((extend s).plus p q))
      (mixed_row m (λ j. run (extend s) (one j) m g)
      ∙ ap₂ (λ x y. (extend s).plus ((extend s).times v x) ((extend s).times ((extend s).times v v) y)) (halves2 m g (omega arith)) (halves1 m g (omega arith))))
      ∙ solve (extend s).ring (a ∷ b ∷ p ∷ q ∷ z ∷ o ∷ w ∷ v ∷ [])
      ((var 0 ⊕ var 1 ⊕ var 4 ⊗ (var 7 ⊗ var 7 ⊗ var 7)) ⊕ (var 2 ⊕ var 3 ⊕ (var 7 ⊗ var 6 ⊕ var 7 ⊗ var 7 ⊗ var 5)))
      ((var 0 ⊕ var 2) ⊕ ((var 1 ⊕ var 3 ⊕ var 7 ⊗ var 6) ⊕ (var 7 ⊗ var 7 ⊗ var 5 ⊕ var 7 ⊗ var 7 ⊗ var 7 ⊗ var 4))) tt
      ∙ ap₂ (λ x y. (extend s).plus x ((extend s).plus ((extend s).plus y ((extend s).times v w)) ((extend s).plus ((extend s).times ((extend s).times v v) o) ((extend s).times ((extend s).times ((extend s).times v v) v) z))))
      (halves3 m f (omega arith)) (halves3 m g (omega arith))
      ∙ ap ((extend s).plus (moment s 3 (2 ^ m) f)) (sym (shift3 (extend s) g point_of v (2 ^ m))) ∙ sym (moment_step 3 m f h)
