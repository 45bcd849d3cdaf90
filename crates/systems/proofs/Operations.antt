-- Row operations keep the solutions. Assumes nothing.
use mathlib.Core.Path.{◌≡◌, sym, ap, ap₂, ◌∙◌}
use mathlib.Core.List.{[], ◌∷◌}
use Prim.Native.Nat.{ℕ, ◌<◌, ◌≤◌}
use native.Mathlib.Decide.{ℕ_discrete}
use native.Mathlib.Omega.{arith}
use lib.Dec.{lit<}
use Rattle.ring2.proofs.Laws.{exchange, plus_times, times_zero, one_times, moved}
use Rattle.ring2.proofs.Solve.{reading, solved}
use Rattle.field.specs.Structure.{Structure}
use Rattle.codeword.specs.Sums.{total}
use Rattle.codeword.proofs.Sums.{total_ext, total_plus, total_times}
use Rattle.systems.specs.Rows.{value, Vanish, Same, Exchanged, Scaled, Added}

module _ {K : Type 0} (s : Structure K) where
  module _ (m : ℕ) (h : m ≤ 4) (x : ℕ → K) (t : K) where
    value_ext : (f g : ℕ → K) → ((j : ℕ) → j < 5 → f j ≡ g j) → value s m x t f ≡ value s m x t g
    value_ext f g same =
        ap₂ s.plus (total_ext s (λ j. s.times (f j) (x j)) (λ j. s.times (g j) (x j)) m (λ j l. ap (λ w. s.times w (x j)) (same j (omega arith))))
        (ap (λ w. s.times w t) (same 4 (lit< tt)))

    value_plus : (f g : ℕ → K) → value s m x t (λ j. s.plus (f j) (g j)) ≡ s.plus (value s m x t f) (value s m x t g)
    value_plus f g =
        ap₂ s.plus
        (total_ext s (λ j. s.times (s.plus (f j) (g j)) (x j)) (λ j. s.plus (s.times (f j) (x j)) (s.times (g j) (x j))) m (λ j l. plus_times s.ring (f j) (g j) (x j))
        ∙ total_plus s (λ j. s.times (f j) (x j)) (λ j. s.times (g j) (x j)) m)
        (plus_times s.ring (f 4) (g 4) t)
        ∙ exchange s.ring (total s (λ j. s.times (f j) (x j)) m) (total s (λ j. s.times (g j) (x j)) m) (s.times (f 4) t) (s.times (g 4) t)

    value_times : (c : K) (f : ℕ → K) → value s m x t (λ j. s.times c (f j)) ≡ s.times c (value s m x t f)
    value_times c f =
        ap₂ s.plus
        (total_ext s (λ j. s.times (s.times c (f j)) (x j)) (λ j. s.times c (s.times (f j) (x j))) m (λ j l. s.ring.times_assoc c (f j) (x j))
        ∙ total_times s c (λ j. s.times (f j) (x j)) m)
        (s.ring.times_assoc c (f 4) t)
        ∙ sym (s.ring.times_plus c (total s (λ j. s.times (f j) (x j)) m) (s.times (f 4) t))

  -- a row that is made of two rows of a table
  record Mix (a : ℕ → ℕ → K) (row : ℕ → K) : Type 0 where
    p : ℕ
    q : ℕ
    p_in : p < 4
    q_in : q < 4
    c : K
    d : K
    is : (j : ℕ) → j < 5 → row j ≡ s.plus (s.times c (a p j)) (s.times d (a q j))

  -- the general row operation: each row is made of two rows of the table before
  Mixed : (ℕ → ℕ → K) → (ℕ → ℕ → K) → Type 0
  Mixed a b = (r : ℕ) → r < 4 → Mix a (b r)

  vanish_mixed : (m : ℕ) → m ≤ 4 → (a b : ℕ → ℕ → K) → Mixed a b → (x : ℕ → K) (t : K) → Vanish s a m x t → Vanish s b m x t
  unfolding Mixed
  vanish_mixed m h a b mix x t v r l =
      let e = mix r l in
      value_ext m h x t (b r) (λ j. s.plus (s.times e.c (a e.p j)) (s.times e.d (a e.q j))) e.is
      ∙ value_plus m h x t (λ j. s.times e.c (a e.p j)) (λ j. s.times e.d (a e.q j))
      ∙ ap₂ s.plus
      (value_times m h x t e.c (a e.p) ∙ ap (s.times e.c) (v e.p e.p_in) ∙ times_zero s.ring e.c)
      (value_times m h x t e.d (a e.q) ∙ ap (s.times e.d) (v e.q e.q_in) ∙ times_zero s.ring e.d)
      ∙ s.ring.plus_zero s.zero

  same_mixed : (m : ℕ) → m ≤ 4 → (a b : ℕ → ℕ → K) → Mixed a b → Mixed b a → Same s m a b
  same_mixed m h a b there back = record { there = vanish_mixed m h a b there; back = vanish_mixed m h b a back }

  -- a row that is a row of the table, or a multiple of one
  multiple : (a : ℕ → ℕ → K) (row : ℕ → K) (c : K) (p : ℕ) → p < 4 → ((j : ℕ) → j < 5 → row j ≡ s.times c (a p j)) → Mix a row
  multiple a row c p l e =
      record {
        p = p;
        q = p;
        p_in = l;
        q_in = l;
        c = c;
        d = s.zero;
        is = λ j k. e j k ∙ solved s.ring (c ∷ a p j ∷ []) (search reading depth 9) (search reading depth 9) tt;
      }

  kept : (a : ℕ → ℕ → K) (row : ℕ → K) (p : ℕ) → p < 4 → ((j : ℕ) → j < 5 → row j ≡ a p j) → Mix a row
  kept a row p l e = multiple a row s.one p l (λ j k. e j k ∙ sym (one_times s.ring (a p j)))

  mixed_exchanged : (a b : ℕ → ℕ → K) (p q : ℕ) → p < 4 → q < 4 → Exchanged s a p q b → Mixed a b
  unfolding Mixed
  mixed_exchanged a b p q hp hq e r l = elim (ℕ_discrete r p) [
    | yes i ↦ kept a (b r) q hq (λ j k. ap (λ w. b w j) i ∙ e.first j k)
    | no n ↦ elim (ℕ_discrete r q) [
      | yes i ↦ kept a (b r) p hp (λ j k. ap (λ w. b w j) i ∙ e.second j k)
      | no o ↦ kept a (b r) r l (λ j k. e.others r j l k n o)
    ]
  ]

  pub same_exchanged : (m : ℕ) → m ≤ 4 → (a b : ℕ → ℕ → K) (p q : ℕ) → p < 4 → q < 4 → Exchanged s a p q b → Same s m a b
  same_exchanged m h a b p q hp hq e =
      same_mixed m h a b (mixed_exchanged a b p q hp hq e) (mixed_exchanged b a p q hp hq (record {
        first = λ j k. sym (e.second j k);
        second = λ j k. sym (e.first j k);
        others = λ r j l k n o. sym (e.others r j l k n o);
      }))

  mixed_scaled : (a b : ℕ → ℕ → K) (p : ℕ) (c : K) → p < 4 → Scaled s a p c b → Mixed a b
  unfolding Mixed
  mixed_scaled a b p c hp e r l = elim (ℕ_discrete r p) [
    | yes i ↦ multiple a (b r) c p hp (λ j k. ap (λ w. b w j) i ∙ e.row j k)
    | no n ↦ kept a (b r) r l (λ j k. e.others r j l k n)
  ]

  -- a row multiplied by c, where d c is one
  pub same_scaled : (m : ℕ) → m ≤ 4 → (a b : ℕ → ℕ → K) (p : ℕ) (c d : K) → s.times d c ≡ s.one → p < 4 → Scaled s a p c b → Same s m a b
  same_scaled m h a b p c d unit hp e =
      same_mixed m h a b (mixed_scaled a b p c hp e) (mixed_scaled b a p d hp (record {
        row = λ j k.
            sym (ap (s.times d) (e.row j k) ∙ sym (s.ring.times_assoc d c (a p j)) ∙ ap (λ w. s.times w (a p j)) unit ∙ one_times s.ring (a p j));
        others = λ r j l k n. sym (e.others r j l k n);
      }))

  mixed_added : (a b : ℕ → ℕ → K) (p : ℕ) (c : ℕ → K) → p < 4 → Added s a p c b → Mixed a b
  unfolding Mixed
  mixed_added a b p c hp e r l = elim (ℕ_discrete r p) [
    | yes i ↦ kept a (b r) p hp (λ j k. ap (λ w. b w j) i ∙ e.row j k)
    | no n ↦ record {
      p = r;
      q = p;
      p_in = l;
      q_in = hp;
      c = s.one;
      d = c r;
      is = λ j k. e.others r j l k n ∙ ap (λ w. s.plus w (s.times (c r) (a p j))) (sym (one_times s.ring (a r j)));
    }
  ]

  pub same_added : (m : ℕ) → m ≤ 4 → (a b : ℕ → ℕ → K) (p : ℕ) (c : ℕ → K) → p < 4 → Added s a p c b → Same s m a b
  same_added m h a b p c hp e =
      same_mixed m h a b (mixed_added a b p c hp e) (mixed_added b a p c hp (record {
        row = λ j k. sym (e.row j k);
        others = λ r j l k n.
            moved s.ring (a r j) (s.times (c r) (a p j)) (b r j) (sym (e.others r j l k n))
            ∙ ap (λ w. s.plus (b r j) (s.times (c r) w)) (sym (e.row j k));
      }))

  pub same_trans : (m : ℕ) (a b c : ℕ → ℕ → K) → Same s m a b → Same s m b c → Same s m a c
  same_trans m a b c e f = record {
    there = λ x t v. f.there x t (e.there x t v);
    back = λ x t v. e.back x t (f.back x t v);
  }
