-- What an elimination tells of the system at its end: dependent columns, no solution, or the one solution. Assumes nothing.
use mathlib.Core.Path.{◌≡◌, refl, sym, ap, ap₂, ◌∙◌}
use mathlib.Core.Bool.{cond}
use Prim.Native.Nat.{ℕ, ◌<◌, ◌≤◌}
use native.Mathlib.Decide.{ℕ_discrete, dec_lt}
use native.Mathlib.Omega.{arith}
use lib.Dec.{eqb, ltb}
use borrow.Author.Tests.{eq-eqb, ne_eqb, lt-ltb, le-ltb}
use Rattle.ring2.proofs.Laws.{times_zero, zero_times, zero_plus, one_times, equal}
use Rattle.field.specs.Structure.{Structure}
use Rattle.codeword.specs.Sums.{total}
use Rattle.codeword.proofs.Sums.{total_ext, total_plus, total_zero, total_one}
use Rattle.systems.specs.Systems.{Solves, Independent, Unsolvable, Solution}
use Rattle.systems.specs.Rows.{Vanish, Same, Units, Augmented}

module _ {K : Type 0} (s : Structure K) where
  one_not_zero : s.one ≡ s.zero → ⊥
  one_not_zero e = let m : ◌≡◌ {A = ℕ} 1 0 = sym s.value_one ∙ ap s.value e ∙ s.value_zero in omega arith

  -- solutions of a table's system, and of the system with zeros on the right
  solves_one : (t : ℕ → ℕ → K) (m : ℕ) (x : ℕ → K) → Vanish s t m x s.one → Solves s t (λ r. t r 4) m x
  solves_one t m x v r h =
      equal s.ring (total s (λ j. s.times (t r j) (x j)) m) (s.times (t r 4) s.one) (v r h) ∙ s.ring.times_one (t r 4)

  vanish_one : (t : ℕ → ℕ → K) (m : ℕ) (x : ℕ → K) → Solves s t (λ r. t r 4) m x → Vanish s t m x s.one
  vanish_one t m x v r h = ap₂ s.plus (v r h) (s.ring.times_one (t r 4)) ∙ s.ring.plus_self (t r 4)

  solves_zero : (t : ℕ → ℕ → K) (m : ℕ) (x : ℕ → K) → Vanish s t m x s.zero → Solves s t (λ r. s.zero) m x
  solves_zero t m x v r h =
      equal s.ring (total s (λ j. s.times (t r j) (x j)) m) (s.times (t r 4) s.zero) (v r h) ∙ times_zero s.ring (t r 4)

  vanish_zero : (t : ℕ → ℕ → K) (m : ℕ) (x : ℕ → K) → Solves s t (λ r. s.zero) m x → Vanish s t m x s.zero
  vanish_zero t m x v r h = ap₂ s.plus (v r h) (times_zero s.ring (t r 4)) ∙ s.ring.plus_zero s.zero

  -- two systems with equal entries
  solves_ext : (a a' : ℕ → ℕ → K) (b b' : ℕ → K) (m : ℕ) (x : ℕ → K)
      → ((r j : ℕ) → r < 4 → j < m → a r j ≡ a' r j) → ((r : ℕ) → r < 4 → b r ≡ b' r) → Solves s a b m x → Solves s a' b' m x
  solves_ext a a' b b' m x e f v r h =
      total_ext s (λ j. s.times (a' r j) (x j)) (λ j. s.times (a r j) (x j)) m (λ j l. ap (λ w. s.times w (x j)) (sym (e r j h l)))
      ∙ v r h ∙ f r h

  independent_same : (m : ℕ) (a b : ℕ → ℕ → K) → Same s m a b → Independent s b m → Independent s a m
  independent_same m a b e i x v = i x (solves_zero b m x (e.there x s.zero (vanish_zero a m x v)))

  independent_back : (m : ℕ) (a b : ℕ → ℕ → K) → Same s m a b → Independent s a m → Independent s b m
  independent_back m a b e i x v = i x (solves_zero a m x (e.back x s.zero (vanish_zero b m x v)))

  solves_same : (m : ℕ) (a b : ℕ → ℕ → K) → Same s m a b → (x : ℕ → K) → Solves s a (λ r. a r 4) m x → Solves s b (λ r. b r 4) m x
  solves_same m a b e x v = solves_one b m x (e.there x s.one (vanish_one a m x v))

  solves_back : (m : ℕ) (a b : ℕ → ℕ → K) → Same s m a b → (x : ℕ → K) → Solves s b (λ r. b r 4) m x → Solves s a (λ r. a r 4) m x
  solves_back m a b e x v = solves_one a m x (e.back x s.one (vanish_one b m x v))

  -- a row of a table whose columns below m are unit columns: a row below m keeps one unknown, and a row after it none
  module _ (t : ℕ → ℕ → K) (m : ℕ) (few : m ≤ 4) (u : Units s t m) (x : ℕ → K) where
    row_one : (r : ℕ) → r < m → total s (λ j. s.times (t r j) (x j)) m ≡ x r
    row_one r h =
        total_one s (λ j. s.times (t r j) (x j)) r m h
        (λ j l n. ap (λ w. s.times w (x j)) (u.off r j (omega arith) l (λ e. n (sym e))) ∙ zero_times s.ring (x j))
        ∙ ap (λ w. s.times w (x r)) (u.diagonal r h) ∙ one_times s.ring (x r)

    row_none : (r : ℕ) → m ≤ r → r < 4 → total s (λ j. s.times (t r j) (x j)) m ≡ s.zero
    row_none r h k =
        total_zero s (λ j. s.times (t r j) (x j)) m
        (λ j l. ap (λ w. s.times w (x j)) (u.off r j k l (omega arith)) ∙ zero_times s.ring (x j))

  units_independent : (t : ℕ → ℕ → K) (m : ℕ) → m ≤ 4 → Units s t m → Independent s t m
  units_independent t m few u x v j l = sym (row_one t m few u x j l) ∙ v j (omega arith)

  -- an element at one place, zero at the others
  spike : ℕ → K → ℕ → K
  spike k y i = cond (eqb i k) y s.zero

  spike_at : (k : ℕ) (y : K) → spike k y k ≡ y
  unfolding spike
  spike_at k y = ap (λ w. cond w y s.zero) (eq-eqb k k refl)

  spike_off : (k : ℕ) (y : K) (i : ℕ) → (i ≡ k → ⊥) → spike k y i ≡ s.zero
  unfolding spike
  spike_off k y i n = ap (λ w. cond w y s.zero) (ne_eqb i k n)

  total_spike : (k m : ℕ) (y : K) → k < m → total s (spike k y) m ≡ y
  total_spike k m y h = total_one s (spike k y) k m h (λ i l n. spike_off k y i n) ∙ spike_at k y

  -- Where column n has no pivot, it is a sum of the columns before it: x is one at n, and at each place before it what stands there in column n.
  module _ (t : ℕ → ℕ → K) (n m : ℕ) (few : m ≤ 4) (h : n < m) (u : Units s t n)
      (none : (r : ℕ) → n ≤ r → r < 4 → t r n ≡ s.zero) where
    x : ℕ → K
    x i = cond (eqb i n) s.one (cond (ltb i n) (t i n) s.zero)

    x_at : x n ≡ s.one
    unfolding x
    x_at = ap (λ w. cond w s.one (cond (ltb n n) (t n n) s.zero)) (eq-eqb n n refl)

    x_before : (i : ℕ) → i < n → x i ≡ t i n
    unfolding x
    x_before i l =
        ap (λ w. cond w s.one (cond (ltb i n) (t i n) s.zero)) (ne_eqb i n (omega arith))
        ∙ ap (λ w. cond w (t i n) s.zero) (lt-ltb i n l)

    x_after : (i : ℕ) → n < i → x i ≡ s.zero
    unfolding x
    x_after i l =
        ap (λ w. cond w s.one (cond (ltb i n) (t i n) s.zero)) (ne_eqb i n (omega arith))
        ∙ ap (λ w. cond w (t i n) s.zero) (le-ltb i n (omega arith))

    row_after : (r : ℕ) → n ≤ r → r < 4 → total s (λ j. s.times (t r j) (x j)) m ≡ s.zero
    row_after r l k = total_zero s (λ j. s.times (t r j) (x j)) m (λ j lj. elim (ℕ_discrete j n) [
      | yes e ↦ ap (λ w. s.times (t r w) (x j)) e ∙ ap (λ w. s.times w (x j)) (none r l k) ∙ zero_times s.ring (x j)
      | no d ↦ elim (dec_lt j n) [
        | yes b ↦ ap (λ w. s.times w (x j)) (u.off r j k b (omega arith)) ∙ zero_times s.ring (x j)
        | no b ↦ ap (s.times (t r j)) (x_after j (omega arith)) ∙ times_zero s.ring (t r j)
      ]
    ])

    row_before : (r : ℕ) → r < n → total s (λ j. s.times (t r j) (x j)) m ≡ s.zero
    row_before r l =
        total_ext s (λ j. s.times (t r j) (x j)) (λ j. s.plus (spike r (t r n) j) (spike n (t r n) j)) m parts
        ∙ total_plus s (spike r (t r n)) (spike n (t r n)) m
        ∙ ap₂ s.plus (total_spike r m (t r n) (omega arith)) (total_spike n m (t r n) h)
        ∙ s.ring.plus_self (t r n)
      where
        parts : (j : ℕ) → j < m → s.times (t r j) (x j) ≡ s.plus (spike r (t r n) j) (spike n (t r n) j)
        parts j lj = elim (ℕ_discrete j r) [
          | yes e ↦
              ap (λ w. s.times (t r w) (x w)) e
              ∙ ap₂ s.times (u.diagonal r l) (x_before r l) ∙ one_times s.ring (t r n)
              ∙ sym (ap₂ s.plus (ap (spike r (t r n)) e ∙ spike_at r (t r n)) (spike_off n (t r n) j (omega arith)) ∙ s.ring.plus_zero (t r n))
          | no d ↦ elim (ℕ_discrete j n) [
            | yes e ↦
                ap (λ w. s.times (t r w) (x w)) e
                ∙ ap (s.times (t r n)) x_at ∙ s.ring.times_one (t r n)
                ∙ sym (ap₂ s.plus (spike_off r (t r n) j d) (ap (spike n (t r n)) e ∙ spike_at n (t r n)) ∙ zero_plus s.ring (t r n))
            | no o ↦
                gone j lj d o ∙ sym (ap₂ s.plus (spike_off r (t r n) j d) (spike_off n (t r n) j o) ∙ s.ring.plus_zero s.zero)
          ]
        ]
          where
            gone : (j : ℕ) → j < m → (j ≡ r → ⊥) → (j ≡ n → ⊥) → s.times (t r j) (x j) ≡ s.zero
            gone j lj d o = elim (dec_lt j n) [
              | yes b ↦ ap (λ w. s.times w (x j)) (u.off r j (omega arith) b (λ e. d (sym e))) ∙ zero_times s.ring (x j)
              | no b ↦ ap (s.times (t r j)) (x_after j (omega arith)) ∙ times_zero s.ring (t r j)
            ]

    no_pivot : Independent s t m → ⊥
    no_pivot i = one_not_zero (sym x_at ∙ i x (λ r k. elim (dec_lt r n) [
      | yes b ↦ row_before r b
      | no b ↦ row_after r (omega arith) k
    ]) n h)

  -- the same of a table with the same solutions
  pub dependent : (a t : ℕ → ℕ → K) (n m : ℕ) → m ≤ 4 → n < m → Same s m a t → Units s t n
      → ((r : ℕ) → n ≤ r → r < 4 → t r n ≡ s.zero) → Independent s a m → ⊥
  dependent a t n m few h e u none i = no_pivot t n m few h u none (independent_back m a t e i)

  -- The end of an elimination without a missing pivot: t is made from the table of the coefficients a and the right hand sides b.
  module _ (a : ℕ → ℕ → K) (b : ℕ → K) (t₀ t : ℕ → ℕ → K) (m : ℕ) (few : m ≤ 4) (g : Augmented s a b t₀) where
    pub independent_augmented : Independent s a m → Independent s t₀ m
    independent_augmented i x v = i x (solves_ext t₀ a (λ r. s.zero) (λ r. s.zero) m x (λ r j h l. g.coefficients r j h (omega arith)) (λ r h. refl) v)

    into : (x : ℕ → K) → Solves s a b m x → Solves s t₀ (λ r. t₀ r 4) m x
    into x = solves_ext a t₀ b (λ r. t₀ r 4) m x (λ r j h l. sym (g.coefficients r j h (omega arith))) (λ r h. sym (g.right r h))

    out : (x : ℕ → K) → Solves s t₀ (λ r. t₀ r 4) m x → Solves s a b m x
    out x = solves_ext t₀ a (λ r. t₀ r 4) b m x (λ r j h l. g.coefficients r j h (omega arith)) (λ r h. g.right r h)

    module _ (e : Same s m t₀ t) (u : Units s t m) where
      pub independent : Independent s a m
      independent x v =
          independent_same m t₀ t e (units_independent t m few u) x
          (solves_ext a t₀ (λ r. s.zero) (λ r. s.zero) m x (λ r j h l. sym (g.coefficients r j h (omega arith))) (λ r h. refl) v)

      pub unsolvable : (r : ℕ) → m ≤ r → r < 4 → (t r 4 ≡ s.zero → ⊥) → Unsolvable s a b m
      unsolvable r h k n x v = n (sym (solves_same m t₀ t e x (into x v) r k) ∙ row_none t m few u x r h k)

      pub solution : (x : ℕ → K) → ((r : ℕ) → m ≤ r → r < 4 → t r 4 ≡ s.zero)
          → ((j : ℕ) → j < m → x j ≡ t j 4) → ((j : ℕ) → m ≤ j → x j ≡ s.zero) → Solution s a b m x
      solution x left here after = record {
        solves = out x (solves_back m t₀ t e x (λ r k. elim (dec_lt r m) [
          | yes l ↦ row_one t m few u x r l ∙ here r l
          | no l ↦ row_none t m few u x r (omega arith) k ∙ sym (left r (omega arith) k)
        ]));
        only = λ y v j l. sym (row_one t m few u y j l) ∙ solves_same m t₀ t e y (into y v) j (omega arith) ∙ sym (here j l);
        after = after;
      }

  -- more unknowns than four, whose coefficients are zero
  pub too_many : (a : ℕ → ℕ → K) (m : ℕ) → 4 < m → ((r : ℕ) → r < 4 → a r 4 ≡ s.zero) → Independent s a m → ⊥
  too_many a m h z i = one_not_zero (sym (spike_at 4 s.one) ∙ i (spike 4 s.one) (λ r k. total_zero s (λ j. s.times (a r j) (spike 4 s.one j)) m
      (λ j l. elim (ℕ_discrete j 4) [
        | yes e ↦ ap (λ w. s.times w (spike 4 s.one j)) (ap (a r) e ∙ z r k) ∙ zero_times s.ring (spike 4 s.one j)
        | no d ↦ ap (s.times (a r j)) (spike_off 4 s.one j d) ∙ times_zero s.ring (a r j)
      ])) 4 h)
