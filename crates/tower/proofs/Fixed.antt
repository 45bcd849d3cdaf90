-- The tower's relations fix every product: on numbers it is `tower-product`. Assumes nothing.
use Rattle.std.proofs.Common.{◌≡◌, ℕ, zero, suc, ◌+◌, ◌-◌, ◌*◌, ◌/◌, ◌%◌, ◌^◌, ◌<◌, ◌≤◌, Bool, true, false, cond, [], ◌∷◌, sym, refl, ap, ◌∙◌, subst, ap₂, lt_of_lt_of_le, mod-lt, mod-eq_of_lt, add-mul, one-mul, zero-mul, arith, pow_pos, pow_mono, pow-add, shl_lt, shr_lt}
use native.Mathlib.Decide.{ℕ_discrete}
use native.Mathlib.Nat.{mod-one, two-pow-succ}
use lib.Arith.{digits_lt}
use lib.Bits.{bit_xor, xor_shifted, xor_lt}
use lib.Pow.{pow-lt, split, ones_lt}
use Rattle.ring2.specs.Ring.{Ops, Ring}
use Rattle.ring2.proofs.Laws.{zero_times, one_times, plus_times}
use Rattle.ring2.proofs.Solve.{reading, solved}
use Rattle.field.specs.Structure.{Structure, size}
use Rattle.field.proofs.Elements.{of_zero, of_one, of_xor}
use Rattle.tower.specs.Tower.{bit, generator, all_generators, monomial, Tower}
use Rattle.tower.specs.Product.{joined, tower_product, Fixed}
use Rattle.tower.proofs.Bits.{bit_above, bit_at}
use Rattle.tower.proofs.Span.{low_set, low_clear}
use Rattle.tower.proofs.Step.{monomial_low}

-- (x + y u) (z + w u), where u u = u + v
expanded : {K : Type 0} {o : Ops K} (R : Ring o) (x y z w u v : K) → o.times u u ≡ o.plus u v
    → o.times (o.plus x (o.times y u)) (o.plus z (o.times w u))
    ≡ o.plus (o.plus (o.times x z) (o.times (o.times y w) v)) (o.times (o.plus (o.plus (o.times x w) (o.times y z)) (o.times y w)) u)
expanded {K} {o} R x y z w u v e =
    let at : K → K = λ q. o.plus (o.plus (o.times x z) (o.times (o.plus (o.times x w) (o.times y z)) u)) (o.times (o.times y w) q) in
    let left : o.times (o.plus x (o.times y u)) (o.plus z (o.times w u)) ≡ at (o.times u u)
    = solved R (x ∷ y ∷ z ∷ w ∷ u ∷ []) (search reading depth 12) (search reading depth 12) tt in
    let right : at (o.plus u v) ≡ o.plus (o.plus (o.times x z) (o.times (o.times y w) v)) (o.times (o.plus (o.plus (o.times x w) (o.times y z)) (o.times y w)) u)
    = solved R (x ∷ y ∷ z ∷ w ∷ u ∷ v ∷ []) (search reading depth 12) (search reading depth 12) tt in
    left ∙ ap at e ∙ right

module _ {K : Type 0} (s : Structure K) (m : ℕ) (t : Tower s m) where
  -- two times the bits of a lower tower fit
  room : (j : ℕ) → j < m → 2 ^ j + 2 ^ j ≤ s.bits
  room j h =
      let twice = two-pow-succ j in
      let l : 2 ^ suc j ≤ 2 ^ m = pow_mono h in
      let e = t.bits_are in
      omega arith

  within : (j : ℕ) → j < m → {n : ℕ} → n < 2 ^ (2 ^ j) → n < size s
  within j h l = let r = room j h in lt_of_lt_of_le l (pow_mono (omega arith))

  -- a set bit j is the factor u_j
  monomial_at : (j k : ℕ) → k < 2 ^ j → (p : ℕ) → j < p → monomial s p (k + 2 ^ j) ≡ s.times (monomial s p k) (generator s j)
  monomial_at j k l zero h = let f : ⊥ = omega arith in absurd f
  monomial_at j k l (suc p) h = elim (ℕ_discrete p j) [
    | yes e ↦ subst (λ q. monomial s (suc q) (k + 2 ^ j) ≡ s.times (monomial s (suc q) k) (generator s j)) (sym e)
        (ap₂ (λ w b. s.times w (cond b (generator s j) s.one)) (monomial_low s j k j (omega arith)) (bit_at j k l)
        ∙ ap (λ w. s.times w (generator s j)) (sym (s.ring.times_one (monomial s j k)) ∙ ap (λ b. s.times (monomial s j k) (cond b (generator s j) s.one)) (sym (bit_above j k l))))
    | no n ↦
        let above : 2 ^ suc j ≤ 2 ^ p = pow_mono (omega arith) in
        let twice = two-pow-succ j in
        ap₂ (λ w b. s.times w (cond b (generator s p) s.one)) (monomial_at j k l p (omega arith)) (bit_above p (k + 2 ^ j) (omega arith))
        ∙ s.ring.times_one (s.times (monomial s p k) (generator s j))
        ∙ ap (λ w. s.times w (generator s j)) (sym (s.ring.times_one (monomial s p k)) ∙ ap (λ b. s.times (monomial s p k) (cond b (generator s p) s.one)) (sym (bit_above p k (omega arith))))
  ]

  module _ (j : ℕ) (h : j < m) where
    lifted_power : (k : ℕ) → k < 2 ^ j → s.of (2 ^ (k + 2 ^ j)) ≡ s.times (s.of (2 ^ k)) (generator s j)
    lifted_power k l =
        let r = room j h in
        let e = t.bits_are in
        t.basis (k + 2 ^ j) (omega arith) ∙ monomial_at j k l m h ∙ ap (λ w. s.times w (generator s j)) (sym (t.basis k (omega arith)))

    lifted_step : (n k : ℕ) → k < 2 ^ j → (b : Bool) → bit k n ≡ b
        → s.of (n % 2 ^ k * 2 ^ (2 ^ j)) ≡ s.times (s.of (n % 2 ^ k)) (generator s j)
        → s.of (n % 2 ^ suc k * 2 ^ (2 ^ j)) ≡ s.times (s.of (n % 2 ^ suc k)) (generator s j)
    lifted_step n k l true e before =
        let room-here = room j h in
        let r : ℕ = n % 2 ^ k in
        let q : ℕ = 2 ^ (2 ^ j) in
        let small : r < 2 ^ k = mod-lt n (pow_pos k) in
        let shifted : r * q < 2 ^ (k + 2 ^ j) = shl_lt k (2 ^ j) small in
        let is : n % 2 ^ suc k ≡ bit_xor (2 ^ k) r = low_set k n e ∙ ap (λ p. bit_xor p r) (one-mul (2 ^ k)) in
        let spread : bit_xor (2 ^ k) r * q ≡ bit_xor (2 ^ (k + 2 ^ j)) (r * q)
        = ap (λ p. p * q) (ap (λ p. bit_xor p r) (sym (one-mul (2 ^ k))) ∙ xor_shifted 1 k r small) ∙ add-mul (1 * 2 ^ k) r q
        ∙ ap (λ p. p + r * q) (ap (λ p. p * q) (one-mul (2 ^ k)) ∙ sym (pow-add 2 k (2 ^ j)) ∙ sym (one-mul (2 ^ (k + 2 ^ j))))
        ∙ sym (xor_shifted 1 (k + 2 ^ j) (r * q) shifted) ∙ ap (λ p. bit_xor p (r * q)) (one-mul (2 ^ (k + 2 ^ j))) in
        ap (λ p. s.of (p * q)) is ∙ ap s.of spread
        ∙ of_xor s (2 ^ (k + 2 ^ j)) (r * q) (pow-lt (omega arith)) (lt_of_lt_of_le shifted (pow_mono (omega arith)))
        ∙ ap₂ s.plus (lifted_power k l) before
        ∙ sym (plus_times s.ring (s.of (2 ^ k)) (s.of r) (generator s j))
        ∙ ap (λ w. s.times w (generator s j)) (sym (ap s.of is ∙ of_xor s (2 ^ k) r (pow-lt (omega arith)) (lt_of_lt_of_le small (pow_mono (omega arith)))))
    lifted_step n k l false e before =
        let is : n % 2 ^ suc k ≡ n % 2 ^ k = low_clear k n e in
        ap (λ p. s.of (p * 2 ^ (2 ^ j))) is ∙ before ∙ ap (λ p. s.times (s.of p) (generator s j)) (sym is)

    lifted_low : (n k : ℕ) → k ≤ 2 ^ j → s.of (n % 2 ^ k * 2 ^ (2 ^ j)) ≡ s.times (s.of (n % 2 ^ k)) (generator s j)
    lifted_low n zero l =
        ap (λ p. s.of (p * 2 ^ (2 ^ j))) (mod-one n) ∙ ap s.of (zero-mul (2 ^ (2 ^ j))) ∙ of_zero s
        ∙ sym (ap (λ p. s.times (s.of p) (generator s j)) (mod-one n) ∙ ap (λ w. s.times w (generator s j)) (of_zero s) ∙ zero_times s.ring (generator s j))
    lifted_low n (suc k) l = lifted_step n k l (bit k n) refl (lifted_low n k (omega arith))

    -- the number times 2 ^ (2 ^ j) is the element times u_j
    lifted : (n : ℕ) → n < 2 ^ (2 ^ j) → s.of (n * 2 ^ (2 ^ j)) ≡ s.times (s.of n) (generator s j)
    lifted n l =
        subst (λ p. s.of (p * 2 ^ (2 ^ j)) ≡ s.times (s.of p) (generator s j)) (mod-eq_of_lt l) (lifted_low n (2 ^ j) (omega arith))

    -- so an element is its low part and its high part times u_j
    from_parts : (hi lo : ℕ) → hi < 2 ^ (2 ^ j) → lo < 2 ^ (2 ^ j) → s.of (hi * 2 ^ (2 ^ j) + lo) ≡ s.plus (s.of lo) (s.times (s.of hi) (generator s j))
    from_parts hi lo k l =
        let r = room j h in
        ap s.of (sym (xor_shifted hi (2 ^ j) lo l))
        ∙ of_xor s (hi * 2 ^ (2 ^ j)) lo (lt_of_lt_of_le (shl_lt (2 ^ j) (2 ^ j) k) (pow_mono r)) (within j h l)
        ∙ ap (λ w. s.plus w (s.of lo)) (lifted hi k) ∙ s.ring.plus_comm (s.times (s.of hi) (generator s j)) (s.of lo)

    parts : (a : ℕ) → a < 2 ^ (2 ^ j + 2 ^ j) → s.of a ≡ s.plus (s.of (a % 2 ^ (2 ^ j))) (s.times (s.of (a / 2 ^ (2 ^ j))) (generator s j))
    parts a l =
        ap s.of (sym (split a (2 ^ j))) ∙ from_parts (a / 2 ^ (2 ^ j)) (a % 2 ^ (2 ^ j)) (shr_lt (2 ^ j) (2 ^ j) l) (mod-lt a (pow_pos (2 ^ j)))

    added : (c d : ℕ) → c < 2 ^ (2 ^ j) → d < 2 ^ (2 ^ j) → s.plus (s.of c) (s.of d) ≡ s.of (bit_xor c d)
    added c d k l = sym (of_xor s c d (within j h k) (within j h l))

  -- u_0 .. u_(j-1) is numbered 2 ^ (2 ^ j - 1)
  all_number : (j : ℕ) → j ≤ m → all_generators s j ≡ s.of (2 ^ (2 ^ j - 1))
  all_number zero h = sym (of_one s)
  all_number (suc j) h =
      let twice = two-pow-succ j in
      let pos : 0 < 2 ^ j = pow_pos j in
      let sum : (2 ^ j - 1) + 2 ^ j ≡ 2 ^ suc j - 1 = omega arith in
      ap (λ w. s.times w (generator s j)) (all_number j (omega arith)) ∙ sym (lifted j h (2 ^ (2 ^ j - 1)) (pow-lt (ones_lt j)))
      ∙ ap s.of (sym (pow-add 2 (2 ^ j - 1) (2 ^ j)) ∙ ap (λ n. 2 ^ n) sum)

  -- on the numbers below 2 ^ (2 ^ j), p is the product of elements, and stays below
  abbrev Agrees : ℕ → (ℕ → ℕ → ℕ) → Type 0
  Agrees j p = (a b : ℕ) → a < 2 ^ (2 ^ j) → b < 2 ^ (2 ^ j) → (s.times (s.of a) (s.of b) ≡ s.of (p a b)) × (p a b < 2 ^ (2 ^ j))

  module _ (j : ℕ) (h : j < m) (p : ℕ → ℕ → ℕ) (known : Agrees j p) (a0 a1 b0 b1 : ℕ)
      (la0 : a0 < 2 ^ (2 ^ j)) (la1 : a1 < 2 ^ (2 ^ j)) (lb0 : b0 < 2 ^ (2 ^ j)) (lb1 : b1 < 2 ^ (2 ^ j)) where
    abbrev V : ℕ
    V = 2 ^ (2 ^ j - 1)

    VLt : V < 2 ^ (2 ^ j)
    VLt = pow-lt (ones_lt j)

    top_lt : p a1 b1 < 2 ^ (2 ^ j)
    top_lt = (known a1 b1 la1 lb1).1

    low_lt : bit_xor (p a0 b0) (p (p a1 b1) V) < 2 ^ (2 ^ j)
    low_lt = xor_lt (2 ^ j) (p a0 b0) (p (p a1 b1) V) (known a0 b0 la0 lb0).1 (known (p a1 b1) V top_lt VLt).1

    cross_lt : bit_xor (p a0 b1) (p a1 b0) < 2 ^ (2 ^ j)
    cross_lt = xor_lt (2 ^ j) (p a0 b1) (p a1 b0) (known a0 b1 la0 lb1).1 (known a1 b0 la1 lb0).1

    high_lt : bit_xor (bit_xor (p a0 b1) (p a1 b0)) (p a1 b1) < 2 ^ (2 ^ j)
    high_lt = xor_lt (2 ^ j) (bit_xor (p a0 b1) (p a1 b0)) (p a1 b1) cross_lt top_lt

    joined_lt : joined p (2 ^ (2 ^ j)) V a0 a1 b0 b1 < 2 ^ (2 ^ j + 2 ^ j)
    joined_lt = rw (pow-add 2 (2 ^ j) (2 ^ j)) (digits_lt high_lt low_lt)

    low_is : s.plus (s.times (s.of a0) (s.of b0)) (s.times (s.times (s.of a1) (s.of b1)) (all_generators s j)) ≡ s.of (bit_xor (p a0 b0) (p (p a1 b1) V))
    low_is =
        ap₂ s.plus (known a0 b0 la0 lb0).0
        (ap₂ s.times (known a1 b1 la1 lb1).0 (all_number j (omega arith)) ∙ (known (p a1 b1) V top_lt VLt).0)
        ∙ added j h (p a0 b0) (p (p a1 b1) V) (known a0 b0 la0 lb0).1 (known (p a1 b1) V top_lt VLt).1

    high_is : s.plus (s.plus (s.times (s.of a0) (s.of b1)) (s.times (s.of a1) (s.of b0))) (s.times (s.of a1) (s.of b1)) ≡ s.of (bit_xor (bit_xor (p a0 b1) (p a1 b0)) (p a1 b1))
    high_is =
        ap₂ s.plus
        (ap₂ s.plus (known a0 b1 la0 lb1).0 (known a1 b0 la1 lb0).0 ∙ added j h (p a0 b1) (p a1 b0) (known a0 b1 la0 lb1).1 (known a1 b0 la1 lb0).1)
        (known a1 b1 la1 lb1).0
        ∙ added j h (bit_xor (p a0 b1) (p a1 b0)) (p a1 b1) cross_lt top_lt

    joined_is : s.times (s.plus (s.of a0) (s.times (s.of a1) (generator s j))) (s.plus (s.of b0) (s.times (s.of b1) (generator s j))) ≡ s.of (joined p (2 ^ (2 ^ j)) V a0 a1 b0 b1)
    joined_is =
        expanded s.ring (s.of a0) (s.of a1) (s.of b0) (s.of b1) (generator s j) (all_generators s j) (t.squares j h)
        ∙ ap₂ (λ lo hi. s.plus lo (s.times hi (generator s j))) low_is high_is
        ∙ sym (from_parts j h (bit_xor (bit_xor (p a0 b1) (p a1 b0)) (p a1 b1)) (bit_xor (p a0 b0) (p (p a1 b1) V)) high_lt low_lt)

  agrees : (j : ℕ) → j ≤ m → Agrees j (tower_product j)
  agrees zero h zero b l k =
      (ap (λ w. s.times w (s.of b)) (of_zero s) ∙ zero_times s.ring (s.of b) ∙ sym (ap s.of (zero-mul b) ∙ of_zero s), omega (arith, zero-mul b))
  agrees zero h (suc zero) b l k =
      (ap (λ w. s.times w (s.of b)) (of_one s) ∙ one_times s.ring (s.of b) ∙ ap s.of (sym (one-mul b)), omega (arith, one-mul b))
  agrees zero h (suc (suc a)) b l k = let f : ⊥ = omega arith in absurd f
  agrees (suc j) h a b l k =
      let twice : 2 ^ (2 ^ suc j) ≡ 2 ^ (2 ^ j + 2 ^ j) = ap (λ n. 2 ^ n) (two-pow-succ j) in
      let la : a < 2 ^ (2 ^ j + 2 ^ j) = subst (λ n. a < n) twice l in
      let lb : b < 2 ^ (2 ^ j + 2 ^ j) = subst (λ n. b < n) twice k in
      let q : ℕ = 2 ^ (2 ^ j) in
      let known = agrees j (omega arith) in
      let a0 : a % q < q = mod-lt a (pow_pos (2 ^ j)) in
      let a1 : a / q < q = shr_lt (2 ^ j) (2 ^ j) la in
      let b0 : b % q < q = mod-lt b (pow_pos (2 ^ j)) in
      let b1 : b / q < q = shr_lt (2 ^ j) (2 ^ j) lb in (
        ap₂ s.times (parts j h a la) (parts j h b lb) ∙ joined_is j h (tower_product j) known (a % q) (a / q) (b % q) (b / q) a0 a1 b0 b1,
        subst (λ n. tower_product (suc j) a b < n) (sym twice) (joined_lt j h (tower_product j) known (a % q) (a / q) (b % q) (b / q) a0 a1 b0 b1),
      )

  pub fixed : Fixed s m
  fixed a b l k =
      let e : size s ≡ 2 ^ (2 ^ m) = ap (λ n. 2 ^ n) t.bits_are in
      let both = agrees m (omega arith) a b (subst (λ n. a < n) e l) (subst (λ n. b < n) e k) in
      ap s.value both.0 ∙ s.value_of (tower_product m a b) (subst (λ n. tower_product m a b < n) (sym e) both.1)
