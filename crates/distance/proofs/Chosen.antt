-- Choosing some of the numbers below a bound by a test: how many, the chosen ones in their order, and sums over them. Assumes nothing.
use Rattle.std.proofs.Common.{◌≡◌, ℕ, zero, suc, ◌+◌, ◌-◌, ◌<◌, ◌≤◌, Bool, true, false, cond, eqb, ltb, sym, refl, ap, ◌∙◌, subst, ap₂, arith, le-ltb, lt-ltb, eq-eqb, ne_eqb}
use native.Mathlib.Decide.{ℕ_discrete, dec_lt, dec_le}
use borrow.Author.Tests.{eqb-false, clash}
use Rattle.ring2.proofs.Laws.{times_zero}
use Rattle.field.specs.Structure.{Structure}
use Rattle.codeword.specs.Sums.{total, count}
use Rattle.codeword.proofs.Counts.{count_none, count_suc, count_ext, count_le, count_place, count_never}
use Rattle.codeword.proofs.Sums.{total_none, total_suc, total_ext, total_plus, total_zero, total_one}

-- the test below n, and b at n
abbrev put : (ℕ → Bool) → ℕ → Bool → ℕ → Bool
put test n b i = cond (ltb i n) (test i) b

put_below : (test : ℕ → Bool) (n : ℕ) (b : Bool) (i : ℕ) → i < n → put test n b i ≡ test i
put_below test n b i h = rw (lt-ltb i n h)

put_at : (test : ℕ → Bool) (n : ℕ) (b : Bool) → put test n b n ≡ b
put_at test n b = rw (le-ltb n n (omega arith))

count_put : (test : ℕ → Bool) (n : ℕ) (b : Bool) → count (put test n b) (suc n) ≡ cond b 1 0 + count test n
count_put test n b =
    count_suc (put test n b) n
    ∙ ap₂ (λ c k. cond c 1 0 + k) (put_at test n b) (count_ext (put test n b) test n (put_below test n b))

-- a test that chooses k numbers below n, and those of the first test among them
abbrev pub Larger : (ℕ → Bool) → ℕ → ℕ → Type 0
Larger test n k = (big : ℕ → Bool) × (count big n ≡ k) × ((i : ℕ) → i < n → big i ≡ false → test i ≡ false)

put_larger : (test : ℕ → Bool) (n k : ℕ) (b : Bool) → (b ≡ false → test n ≡ false) → Larger test n k → Larger test (suc n) (cond b 1 0 + k)
put_larger test n k b last (big, counted, within) = (
  put big n b,
  count_put big n b ∙ ap (λ c. cond b 1 0 + c) counted,
  λ i h e. elim (ℕ_discrete i n) [
    | yes m ↦ ap test m ∙ last (sym (ap (put big n b) m ∙ put_at big n b) ∙ e)
    | no d ↦ within i (omega arith) (sym (put_below big n b i (omega arith)) ∙ e)
  ],
)

pub larger : (test : ℕ → Bool) (n k : ℕ) → count test n ≤ k → k ≤ n → Larger test n k
larger test zero k h l = (test, count_none test ∙ omega arith, λ i m e. absurd (omega arith))
larger test (suc n) k h l = go (test n) refl (larger test n)
  where
    go : (b : Bool) → test n ≡ b → ((j : ℕ) → count test n ≤ j → j ≤ n → Larger test n j) → Larger test (suc n) k
    go true e rec =
        let c : count test (suc n) ≡ 1 + count test n = count_suc test n ∙ ap (λ b. cond b 1 0 + count test n) e in
        subst (Larger test (suc n)) (omega arith) (put_larger test n (k - 1) true (λ f. absurd (clash (sym f))) (rec (k - 1) (omega arith) (omega arith)))
    go false e rec =
        let c : count test (suc n) ≡ 0 + count test n = count_suc test n ∙ ap (λ b. cond b 1 0 + count test n) e in
        elim (dec_le k n) [
          | yes m ↦ subst (Larger test (suc n)) (omega arith) (put_larger test n k false (λ f. e) (rec k (omega arith) m))
          | no m ↦ subst (Larger test (suc n)) (omega arith) (put_larger test n (k - 1) true (λ f. e) (rec (k - 1) (omega (arith, count_le test n)) (omega arith)))
        ]

-- the first m values of f, and then c
abbrev appended : (ℕ → ℕ) → ℕ → ℕ → ℕ → ℕ
appended f m c j = cond (ltb j m) (f j) c

appended_early : (f : ℕ → ℕ) (m c j : ℕ) → j < m → appended f m c j ≡ f j
appended_early f m c j h = rw (lt-ltb j m h)

appended_late : (f : ℕ → ℕ) (m c j : ℕ) → m ≤ j → appended f m c j ≡ c
appended_late f m c j h = rw (le-ltb j m h)

module _ {K : Type 0} (s : Structure K) where
  -- the m chosen numbers below n in their order; a sum whose other terms are zero is the sum over them
  pub record Listed (test : ℕ → Bool) (n m : ℕ) : Type 0 where
    pub nth : ℕ → ℕ
    pub below : (j : ℕ) → j < m → nth j < n
    pub chosen : (j : ℕ) → j < m → test (nth j) ≡ true
    pub rising : (i j : ℕ) → i < j → j < m → nth i < nth j
    pub complete : (i : ℕ) → i < n → test i ≡ true → (j : ℕ) × (j < m) × (nth j ≡ i)
    pub sum : (f : ℕ → K) → ((i : ℕ) → i < n → test i ≡ false → f i ≡ s.zero) → total s f n ≡ total s (λ j. f (nth j)) m

  -- one number more, that is not chosen, and that is
  listed_past : (test : ℕ → Bool) (n m : ℕ) → test n ≡ false → Listed test n m → Listed test (suc n) m
  listed_past test n m e l = record {
    nth = l.nth;
    below = λ j h. let k = l.below j h in omega arith;
    chosen = l.chosen;
    rising = l.rising;
    complete = λ i h p. elim (ℕ_discrete i n) [
      | yes q ↦ absurd (clash (sym e ∙ ap test (sym q) ∙ p))
      | no d ↦ l.complete i (omega arith) p
    ];
    sum = λ f none.
        total_suc s f n ∙ ap₂ s.plus (l.sum f (λ i h. none i (omega arith))) (none n (omega arith) e) ∙ s.ring.plus_zero (total s (λ j. f (l.nth j)) m);
  }

  listed_with : (test : ℕ → Bool) (n m : ℕ) → test n ≡ true → Listed test n m → Listed test (suc n) (suc m)
  listed_with test n m e l = record {
    nth = next;
    below = λ j h. elim (dec_lt j m) [
      | yes k ↦ let b = l.below j k in rw (early j k) (omega arith)
      | no k ↦ rw (late j (omega arith)) (omega arith)
    ];
    chosen = λ j h. elim (dec_lt j m) [
      | yes k ↦ ap test (early j k) ∙ l.chosen j k
      | no k ↦ ap test (late j (omega arith)) ∙ e
    ];
    rising = λ i j h k. elim (dec_lt j m) [
      | yes p ↦ rw (early i (omega arith), early j p) (l.rising i j h p)
      | no p ↦ rw (early i (omega arith), late j (omega arith)) (l.below i (omega arith))
    ];
    complete = λ i h p. elim (ℕ_discrete i n) [
      | yes q ↦ (m, omega arith, late m (omega arith) ∙ sym q)
      | no d ↦ let (j, k, f) = l.complete i (omega arith) p in (j, omega arith, early j k ∙ f)
    ];
    sum = λ f none.
        total_suc s f n
        ∙ ap₂ s.plus (l.sum f (λ i h. none i (omega arith)) ∙ total_ext s (λ j. f (l.nth j)) (λ j. f (next j)) m (λ j h. ap f (sym (early j h)))) (ap f (sym (late m (omega arith))))
        ∙ sym (total_suc s (λ j. f (next j)) m);
  }
    where
      next : ℕ → ℕ
      next = appended l.nth m n

      early : (j : ℕ) → j < m → next j ≡ l.nth j
      early j h = appended_early l.nth m n j h

      late : (j : ℕ) → m ≤ j → next j ≡ n
      late j h = appended_late l.nth m n j h

  pub listed : (test : ℕ → Bool) (n : ℕ) → Listed test n (count test n)
  listed test zero = subst (Listed test 0) (sym (count_none test)) (record {
    nth = λ j. 0;
    below = λ j h. absurd (omega arith);
    chosen = λ j h. absurd (omega arith);
    rising = λ i j h k. absurd (omega arith);
    complete = λ i h p. absurd (omega arith);
    sum = λ f none. total_none s f ∙ sym (total_none s (λ j. f 0));
  })
  listed test (suc n) = go (test n) refl (listed test n)
    where
      go : (b : Bool) → test n ≡ b → Listed test n (count test n) → Listed test (suc n) (count test (suc n))
      go true e l = subst (Listed test (suc n)) (sym (count_suc test n ∙ ap (λ b. cond b 1 0 + count test n) e ∙ omega arith)) (listed_with test n (count test n) e l)
      go false e l = subst (Listed test (suc n)) (sym (count_suc test n ∙ ap (λ b. cond b 1 0 + count test n) e ∙ omega arith)) (listed_past test n (count test n) e l)

  -- the values x at the m places b, and zero elsewhere
  abbrev here : (ℕ → ℕ) → (ℕ → K) → ℕ → ℕ → K
  here b x i j = cond (eqb i (b j)) (x j) s.zero

  pub spread : (ℕ → ℕ) → (ℕ → K) → ℕ → ℕ → K
  spread b x m i = total s (here b x i) m

  here_at : (b : ℕ → ℕ) (x : ℕ → K) (i j : ℕ) → i ≡ b j → here b x i j ≡ x j
  here_at b x i j e = rw (eq-eqb i (b j) e)

  here_off : (b : ℕ → ℕ) (x : ℕ → K) (i j : ℕ) → (i ≡ b j → ⊥) → here b x i j ≡ s.zero
  here_off b x i j e = rw (ne_eqb i (b j) e)

  module _ (b : ℕ → ℕ) (x : ℕ → K) where
    pub spread_off : (m i : ℕ) → ((j : ℕ) → j < m → i ≡ b j → ⊥) → spread b x m i ≡ s.zero
    unfolding spread
    spread_off m i off = total_zero s (here b x i) m (λ j h. here_off b x i j (off j h))

    pub spread_at : (m : ℕ) → ((i j : ℕ) → i < j → j < m → b i < b j) → (j : ℕ) → j < m → spread b x m (b j) ≡ x j
    unfolding spread
    spread_at m rising j h =
        total_one s (here b x (b j)) j m h (λ i l ne. here_off b x (b j) i (λ e. elim (dec_lt i j) [
          | yes k ↦ omega (arith, rising i j k h)
          | no k ↦ omega (arith, rising j i (omega arith) l)
        ]))
        ∙ here_at b x (b j) j refl

    pub spread_sum : (g : ℕ → K) (n m : ℕ) → ((j : ℕ) → j < m → b j < n)
        → total s (λ i. s.times (g i) (spread b x m i)) n ≡ total s (λ j. s.times (g (b j)) (x j)) m
    unfolding spread
    spread_sum g n zero small =
        total_zero s (λ i. s.times (g i) (spread b x 0 i)) n (λ i h. ap (s.times (g i)) (total_none s (here b x i)) ∙ times_zero s.ring (g i))
        ∙ sym (total_none s (λ j. s.times (g (b j)) (x j)))
    spread_sum g n (suc m) small =
        total_ext s (λ i. s.times (g i) (spread b x (suc m) i)) (λ i. s.plus (s.times (g i) (spread b x m i)) (s.times (g i) (here b x i m))) n
        (λ i h. ap (s.times (g i)) (total_suc s (here b x i) m) ∙ s.ring.times_plus (g i) (spread b x m i) (here b x i m))
        ∙ total_plus s (λ i. s.times (g i) (spread b x m i)) (λ i. s.times (g i) (here b x i m)) n
        ∙ ap₂ s.plus (spread_sum g n m (λ j h. small j (omega arith)))
        (total_one s (λ i. s.times (g i) (here b x i m)) (b m) n (small m (omega arith))
        (λ i h ne. ap (s.times (g i)) (here_off b x i m ne) ∙ times_zero s.ring (g i))
        ∙ ap (s.times (g (b m))) (here_at b x (b m) m refl))
        ∙ sym (total_suc s (λ j. s.times (g (b j)) (x j)) m)

-- whether i is one of the m places b
pub hit : (ℕ → ℕ) → ℕ → ℕ → Bool
hit b zero i = false
hit b (suc m) i = cond (eqb i (b m)) true (hit b m i)

pub not_hit : (b : ℕ → ℕ) (m i : ℕ) → hit b m i ≡ false → (j : ℕ) → j < m → i ≡ b j → ⊥
unfolding hit
not_hit b zero i e j h k = omega arith
not_hit b (suc m) i e j h k = go (eqb i (b m)) refl e (λ f l. not_hit b m i f j l k)
  where
    go : (t : Bool) → eqb i (b m) ≡ t → cond t true (hit b m i) ≡ false → (hit b m i ≡ false → j < m → ⊥) → ⊥
    go true q f rec = clash (sym f)
    go false q f rec = elim (ℕ_discrete j m) [
      | yes p ↦ eqb-false i (b m) q (k ∙ ap b p)
      | no p ↦ rec f (omega arith)
    ]

pub count_hit : (b : ℕ → ℕ) (m n : ℕ) → count (hit b m) n ≤ m
unfolding hit
count_hit b zero n = count_never n
count_hit b (suc m) n = omega (arith, count_place (b m) (hit b m) n, count_hit b m n)
