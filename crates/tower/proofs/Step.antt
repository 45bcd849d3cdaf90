-- One more generator: the extension of a tower is a tower. Assumes nothing.
use Rattle.std.proofs.Common.{◌≡◌, ℕ, zero, suc, ◌+◌, ◌-◌, ◌*◌, ◌^◌, ◌<◌, ◌≤◌, Bool, true, false, cond, sym, refl, ap, ◌∙◌, subst, ap₂, one-mul, arith, pow-add}
use native.Mathlib.Decide.{ℕ_discrete, dec_lt}
use native.Mathlib.Nat.{two-pow-succ}
use lib.Pow.{pow-lt}
use Rattle.field.specs.Structure.{Structure, size}
use Rattle.field.proofs.Elements.{of_one}
use Rattle.extension.specs.Formulas.{pair, embed, root_u}
use Rattle.extension.specs.Extend.{extend}
use Rattle.extension.proofs.Embed.{low_of, high_of, embed_one, embed_times, embed_plus, times_root, root_square}
use Rattle.tower.specs.Tower.{bit, generator, all_generators, monomial, Tower}
use Rattle.tower.proofs.Bits.{bit_above, bit_at, bit_below}
use Rattle.tower.proofs.Span.{spanned, bilinear}

module _ {K : Type 0} (s : Structure K) where
  -- what stands below bit p of i alone tells the product of the generators below p
  pub monomial_low : (j k p : ℕ) → p ≤ j → monomial s p (k + 2 ^ j) ≡ monomial s p k
  monomial_low j k zero h = refl
  monomial_low j k (suc p) h =
      ap₂ (λ w b. s.times w (cond b (generator s p) s.one)) (monomial_low j k p (omega arith)) (bit_below p j k h)

module _ {K : Type 0} (s : Structure K) (m : ℕ) (t : Tower s m) where
  size_is : size s ≡ 2 ^ (2 ^ m)
  size_is = ap (λ n. 2 ^ n) t.bits_are

  old_generator : (k : ℕ) → k < m → generator (extend s) k ≡ embed s (generator s k)
  old_generator k h = low_of s (2 ^ (2 ^ k)) (subst (λ n. 2 ^ (2 ^ k) < n) (sym size_is) (pow-lt (pow-lt h)))

  new_generator : generator (extend s) m ≡ root_u s
  new_generator = ap (extend s).of (sym size_is ∙ sym (one-mul (size s))) ∙ high_of s 1 ∙ ap (pair s.zero) (of_one s)

  all_old : (k : ℕ) → k ≤ m → all_generators (extend s) k ≡ embed s (all_generators s k)
  all_old zero h = embed_one s
  all_old (suc k) h = ap₂ (extend s).times (all_old k (omega arith)) (old_generator k h) ∙ embed_times s (all_generators s k) (generator s k)

  chosen_old : (k : ℕ) → k < m → (b : Bool) → cond b (generator (extend s) k) (extend s).one ≡ embed s (cond b (generator s k) s.one)
  chosen_old k h true = old_generator k h
  chosen_old k h false = embed_one s

  monomial_old : (k i : ℕ) → k ≤ m → monomial (extend s) k i ≡ embed s (monomial s k i)
  monomial_old zero i h = embed_one s
  monomial_old (suc k) i h =
      ap₂ (extend s).times (monomial_old k i (omega arith)) (chosen_old k h (bit k i))
      ∙ embed_times s (monomial s k i) (cond (bit k i) (generator s k) s.one)

  low_basis : (i : ℕ) → i < 2 ^ m → (extend s).of (2 ^ i) ≡ monomial (extend s) (suc m) i
  low_basis i h =
      low_of s (2 ^ i) (subst (λ n. 2 ^ i < n) (sym size_is) (pow-lt h))
      ∙ ap (embed s) (t.basis i h) ∙ sym (monomial_old m i (omega arith)) ∙ sym ((extend s).ring.times_one (monomial (extend s) m i))
      ∙ ap (λ b. (extend s).times (monomial (extend s) m i) (cond b (generator (extend s) m) (extend s).one)) (sym (bit_above m i h))

  high_basis : (k : ℕ) → k < 2 ^ m → (extend s).of (2 ^ (k + 2 ^ m)) ≡ monomial (extend s) (suc m) (k + 2 ^ m)
  high_basis k h =
      ap (extend s).of (pow-add 2 k (2 ^ m) ∙ ap (λ n. 2 ^ k * n) (sym size_is)) ∙ high_of s (2 ^ k)
      ∙ ap (pair s.zero) (t.basis k h) ∙ sym (times_root s (monomial s m k))
      ∙ ap₂ (extend s).times
      (ap (embed s) (sym (monomial_low s m k m (omega arith))) ∙ sym (monomial_old m (k + 2 ^ m) (omega arith)))
      (sym new_generator ∙ ap (λ b. cond b (generator (extend s) m) (extend s).one) (sym (bit_at m k h)))

  pub basis_step : (i : ℕ) → i < 2 ^ suc m → (extend s).of (2 ^ i) ≡ monomial (extend s) (suc m) i
  basis_step i h = elim (dec_lt i (2 ^ m)) [
    | yes l ↦ low_basis i l
    | no n ↦
        let twice = two-pow-succ m in
        let k : ℕ = i - 2 ^ m in
        let l : k < 2 ^ m = omega arith in
        let e : k + 2 ^ m ≡ i = omega arith in
        subst (λ j. (extend s).of (2 ^ j) ≡ monomial (extend s) (suc m) j) e (high_basis k l)
  ]

  pub squares_step : (k : ℕ) → k < suc m → (extend s).times (generator (extend s) k) (generator (extend s) k) ≡ (extend s).plus (generator (extend s) k) (all_generators (extend s) k)
  squares_step k h = elim (ℕ_discrete k m) [
    | yes e ↦ subst (λ j. (extend s).times (generator (extend s) j) (generator (extend s) j) ≡ (extend s).plus (generator (extend s) j) (all_generators (extend s) j)) (sym e)
        (ap₂ (extend s).times new_generator new_generator ∙ root_square s
        ∙ ap₂ (extend s).plus (sym new_generator) (ap (embed s) t.constant ∙ sym (all_old m (omega arith))))
    | no n ↦
        let l : k < m = omega arith in
        ap₂ (extend s).times (old_generator k l) (old_generator k l) ∙ embed_times s (generator s k) (generator s k)
        ∙ ap (embed s) (t.squares k l) ∙ sym (embed_plus s (generator s k) (all_generators s k))
        ∙ ap₂ (extend s).plus (sym (old_generator k l)) (sym (all_old k (omega arith)))
  ]

  pub constant_step : (extend s).v ≡ all_generators (extend s) (suc m)
  unfolding extend
  constant_step =
      ap (pair s.zero) t.constant ∙ sym (times_root s (all_generators s m))
      ∙ ap₂ (extend s).times (sym (all_old m (omega arith))) (sym new_generator)

  pub bits_step : (extend s).bits ≡ 2 ^ suc m
  unfolding extend
  bits_step = ap₂ ◌+◌ t.bits_are t.bits_are ∙ sym (two-pow-succ m)

  pub tower_step : Tower (extend s) (suc m)
  tower_step = record {
    bits_are = bits_step;
    basis = basis_step;
    squares = squares_step;
    constant = constant_step;
    spanned = spanned (extend s);
    bilinear = bilinear (extend s);
  }
