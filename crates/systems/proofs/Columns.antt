-- One unknown of an elimination: its column becomes a unit column, the columns before it stay, and so do the solutions. Assumes nothing.
use mathlib.Core.Path.{◌≡◌, sym, ap, ◌∙◌}
use mathlib.Core.List.{[], ◌∷◌}
use Prim.Native.Nat.{ℕ, ◌+◌, ◌<◌, ◌≤◌}
use native.Mathlib.Decide.{ℕ_discrete}
use native.Mathlib.Omega.{arith}
use Rattle.ring2.proofs.Laws.{times_zero}
use Rattle.ring2.proofs.Solve.{reading, solved}
use Rattle.field.specs.Structure.{Structure}
use Rattle.systems.specs.Rows.{Same, Exchanged, Scaled, Added, Units}
use Rattle.systems.proofs.Operations.{same_exchanged, same_scaled, same_added, same_trans}

module _ {K : Type 0} (s : Structure K) where
  pub same_self : (m : ℕ) (a : ℕ → ℕ → K) → Same s m a a
  same_self m a = record { there = λ x t v. v; back = λ x t v. v }

  pub units_none : (a : ℕ → ℕ → K) → Units s a 0
  units_none a = record { diagonal = λ j h. absurd (omega arith); off = λ r j l h n. absurd (omega arith) }

  -- rows at and below the diagonal are zero in the columns before
  units_exchanged : (a b : ℕ → ℕ → K) (n p : ℕ) → n ≤ p → p < 4 → Exchanged s a n p b → Units s a n → Units s b n
  units_exchanged a b n p h k e u = record {
    diagonal = λ j l. e.others j j (omega arith) (omega arith) (omega arith) (omega arith) ∙ u.diagonal j l;
    off = λ r j lr l d. elim (ℕ_discrete r n) [
      | yes i ↦ ap (λ w. b w j) i ∙ e.first j (omega arith) ∙ u.off p j k l (omega arith)
      | no o ↦ elim (ℕ_discrete r p) [
        | yes i ↦ ap (λ w. b w j) i ∙ e.second j (omega arith) ∙ u.off n j (omega arith) l (omega arith)
        | no q ↦ e.others r j lr (omega arith) o q ∙ u.off r j lr l d
      ]
    ];
  }

  units_scaled : (a b : ℕ → ℕ → K) (n : ℕ) (c : K) → n < 4 → Scaled s a n c b → Units s a n → Units s b n
  units_scaled a b n c h e u = record {
    diagonal = λ j l. e.others j j (omega arith) (omega arith) (omega arith) ∙ u.diagonal j l;
    off = λ r j lr l d. elim (ℕ_discrete r n) [
      | yes i ↦ ap (λ w. b w j) i ∙ e.row j (omega arith) ∙ ap (s.times c) (u.off n j h l (omega arith)) ∙ times_zero s.ring c
      | no o ↦ e.others r j lr (omega arith) o ∙ u.off r j lr l d
    ];
  }

  -- what clearing adds to a column where the pivot row is zero, and to the pivot's own column
  nothing : (x c z : K) → z ≡ s.zero → s.plus x (s.times c z) ≡ x
  nothing x c z e = ap (λ w. s.plus x (s.times c w)) e ∙ solved s.ring (x ∷ c ∷ []) (search reading depth 9) (search reading depth 9) tt

  itself : (x z : K) → z ≡ s.one → s.plus x (s.times x z) ≡ s.zero
  itself x z e = ap (λ w. s.plus x (s.times x w)) e ∙ solved s.ring (x ∷ []) (search reading depth 9) (search reading depth 9) tt

  units_added : (a b : ℕ → ℕ → K) (n : ℕ) → n < 4 → a n n ≡ s.one → Added s a n (λ r. a r n) b → Units s a n → Units s b (n + 1)
  units_added a b n h one e u = record {
    diagonal = λ j l. elim (ℕ_discrete j n) [
      | yes i ↦ ap (λ w. b w w) i ∙ e.row n (omega arith) ∙ one
      | no o ↦
          e.others j j (omega arith) (omega arith) o
          ∙ nothing (a j j) (a j n) (a n j) (u.off n j h (omega arith) (omega arith)) ∙ u.diagonal j (omega arith)
    ];
    off = λ r j lr l d. elim (ℕ_discrete j n) [
      | yes i ↦ ap (b r) i ∙ e.others r n lr (omega arith) (omega arith) ∙ itself (a r n) (a n n) one
      | no o ↦ elim (ℕ_discrete r n) [
        | yes i ↦ ap (λ w. b w j) i ∙ e.row j (omega arith) ∙ u.off n j h (omega arith) (omega arith)
        | no q ↦
            e.others r j lr (omega arith) q
            ∙ nothing (a r j) (a r n) (a n j) (u.off n j h (omega arith) (omega arith)) ∙ u.off r j lr (omega arith) d
      ]
    ];
  }

  -- the round of the unknown n, with the pivot in row p: rows exchanged, the pivot row scaled, the column cleared
  module _ (m n p : ℕ) (few : m ≤ 4) (near : n < 4) (below : n ≤ p) (inside : p < 4) (a b c d : ℕ → ℕ → K)
      (nonzero : a p n ≡ s.zero → ⊥) (e : Exchanged s a n p b) (f : Scaled s b n (s.inverse (b n n)) c) (g : Added s c n (λ r. c r n) d) where
    pivot : b n n ≡ s.zero → ⊥
    pivot z = nonzero (sym (e.first n (omega arith)) ∙ z)

    unit : s.times (b n n) (s.inverse (b n n)) ≡ s.one
    unit = s.times_inverse (b n n) pivot

    pub round_units : Units s a n → Units s d (n + 1)
    round_units u =
        units_added c d n near (f.row n (omega arith) ∙ s.ring.times_comm (s.inverse (b n n)) (b n n) ∙ unit) g
        (units_scaled b c n (s.inverse (b n n)) near f (units_exchanged a b n p below inside e u))

    pub round_same : Same s m a d
    round_same =
        same_trans s m a b d (same_exchanged s m few a b n p near inside e)
        (same_trans s m b c d (same_scaled s m few b c n (s.inverse (b n n)) (b n n) unit near f) (same_added s m few c d n (λ r. c r n) near g))
