-- The two parts of a list of words are the halves of its run, and the steps of the sums by halves. Assumes nothing.
use Rattle.std.proofs.Common.{◌≡◌, ℕ, suc, ◌+◌, ◌^◌, ◌<◌, ◌≤◌, min, Bool, true, false, List, [], ◌∷◌, length, get_or, take, drop, sym, refl, ap, ◌∙◌, ap₂, arith, length-take, get_or-drop, get_or-take}
use native.Mathlib.Decide.{dec_lt}
use Rattle.std.proofs.lemmas.List.{get_or_past}
use Rattle.ring2.proofs.Solve.{var, nought, unit, ◌⊕◌, ◌⊗◌, ex, reading, solved}
use Rattle.field.specs.Structure.{Structure}
use Rattle.field.proofs.Elements.{of_one}
use Rattle.extension.specs.declared.ext.Ext.{Ext}
use Rattle.extension.specs.Formulas.{pair, over, embed, root_u}
use Rattle.extension.specs.Laws.{solve2}
use Rattle.extension.specs.Extend.{extend}
use Rattle.halves.specs.Runs.{upper, run}
use Rattle.extension.proofs.Embed.{embed_one}
use Rattle.halves.specs.Moments.{bit, bit2, bit3, items_of}
use Rattle.halves.proofs.Halving.{run_ext, run_upper, run_both}
use Rattle.halves.proofs.Checks.{check0, check1, check2, check3}
use Rattle.line_code.specs.Sums.{check_sums}
use Rattle.line_code.specs.ByHalves.{moments_of, shares_of, shifted_sums}
use Rattle.line_code.proofs.Running.{sums_path}

module _ (items : List ℕ) (top half : ℕ) (cut : half ≡ min (length items) (2 ^ top)) where
  lower_word : (i : ℕ) → i < 2 ^ top → get_or (take half items) i 0 ≡ get_or items i 0
  lower_word i h = elim (dec_lt i half) [
    | yes l ↦ get_or-take half items i 0 l
    | no l ↦
        let p : length items ≤ i = omega arith in
        let q : length (take half items) ≤ i = omega (arith, length-take half items) in
        get_or_past (take half items) i 0 q ∙ sym (get_or_past items i 0 p)
  ]

  upper_word : (i : ℕ) → i < 2 ^ top → get_or (drop half items) i 0 ≡ get_or items (2 ^ top + i) 0
  upper_word i h = elim (dec_lt (length items) (2 ^ top)) [
    | no l ↦ get_or-drop half items i 0 ∙ (let e : half ≡ 2 ^ top = omega arith in ap (λ k. get_or items (k + i) 0) e)
    | yes l ↦
        let p : length items ≤ half + i = omega arith in
        let q : length items ≤ 2 ^ top + i = omega arith in
        get_or-drop half items i 0 ∙ get_or_past items (half + i) 0 p ∙ sym (get_or_past items (2 ^ top + i) 0 q)
  ]

  module _ {K : Type 0} (s : Structure K) where
    module _ (set : ℕ → Bool) where
      lower_run : run (extend s) set top (items_of s (take half items)) ≡ run (extend s) set top (items_of s items)
      lower_run = run_ext (extend s) set top (items_of s (take half items)) (items_of s items) (λ i h. ap (extend s).of (lower_word i h))

      upper_run : run (extend s) set top (items_of s (drop half items)) ≡ run (extend s) set top (upper top (items_of s items))
      upper_run =
          run_ext (extend s) set top (items_of s (drop half items)) (upper top (items_of s items)) (λ i h. ap (extend s).of (upper_word i h))

      pub upper_alone : set top ≡ true → run (extend s) set top (items_of s (drop half items)) ≡ run (extend s) set (suc top) (items_of s items)
      upper_alone e = upper_run ∙ sym (run_upper (extend s) set top (items_of s items) e)

      pub both_halves : set top ≡ false
          → (extend s).plus (run (extend s) set top (items_of s (take half items))) (run (extend s) set top (items_of s (drop half items)))
          ≡ run (extend s) set (suc top) (items_of s items)
      both_halves e = ap₂ (extend s).plus lower_run upper_run ∙ sym (run_both (extend s) set top (items_of s items) e)

module _ {K : Type 0} (s : Structure K) where
  -- (a + b u) u = b v + (a + b) u
  pub by_u_is : (x : Ext K) → pair (s.times x.hi s.v) (s.plus x.lo x.hi) ≡ (extend s).times x (root_u s)
  unfolding extend
  by_u_is x =
      solve2 s.ring (x.lo ∷ x.hi ∷ s.v ∷ []) (pair (var 1 ⊗ var 2) (var 0 ⊕ var 1)) ((over ex (var 2)).times (pair (var 0) (var 1)) (pair nought unit)) tt tt

  -- v_0 is one, and so are its square and its cube
  one_is : bit s 0 ≡ s.one
  one_is = of_one s

  by_one : (x : Ext K) (a : K) → a ≡ s.one → x ≡ (extend s).times x (embed s a)
  by_one x a e = sym (ap (λ b. (extend s).times x (embed s b)) e ∙ ap ((extend s).times x) (sym (embed_one s)) ∙ (extend s).ring.times_one x)

  pub shares_zero : (x : Ext K) (k : ℕ) → k ≡ 0 → record { zeroth = x; first = x; second = x; third = x } ≡ shares_of s x k
  shares_zero x k z =
      let two : bit2 s 0 ≡ s.one = ap₂ s.times one_is one_is ∙ s.ring.times_one s.one in
      let three : bit3 s 0 ≡ s.one = ap₂ s.times two one_is ∙ s.ring.times_one s.one in
      sums_path (record { zeroth = x; first = x; second = x; third = x }) (shares_of s x 0) refl (by_one x (bit s 0) one_is) (by_one x (bit2 s 0) two) (by_one x (bit3 s 0) three)
      ∙ ap (shares_of s x) (sym z)

  pub mixed_short : (v w : K) → s.times (s.times v w) (s.plus v w) ≡ s.plus (s.times (s.times v v) w) (s.times v (s.times w w))
  mixed_short v w = solved s.ring (v ∷ w ∷ []) (search reading depth 9) (search reading depth 9) tt

  -- the check sums from t0 to t3
  pub checks_by_halves : (items : List ℕ) (n : ℕ) → length items ≤ 2 ^ n → n ≤ s.bits → shifted_sums s (moments_of s items n) ≡ check_sums s items
  checks_by_halves items n few bits =
      sums_path (shifted_sums s (moments_of s items n)) (check_sums s items) (sym (check0 s items n few bits)) (sym (check1 s items n few bits))
      (sym (check2 s items n few bits)) (sym (check3 s items n few bits))
