-- The determinant of the columns of four bays is not zero. Assumes nothing.
use Rattle.std.proofs.Common.{◌≡◌, ℕ, zero, suc, ◌+◌, ◌-◌, ◌<◌, ◌≤◌, refl, subst, arith}
use native.Mathlib.Decide.{dec_lt}
use Rattle.field.specs.Structure.{Structure, ops, size}
use Rattle.extension.specs.declared.ext.Ext.{Ext}
use Rattle.extension.specs.Extend.{extend}
use Rattle.codeword.specs.Codeword.{point}
use Rattle.distance.specs.Column.{column}
use Rattle.distance.proofs.Minors.{det, three_sums, four, three_0, three_1, three_2, three_3, two_01, two_02, two_03, two_12, two_13, two_23, one_0, one_1, one_2, one_3, none}
use Rattle.distance.proofs.Points.{Nonzero, one_nonzero, times_nonzero, equal_nonzero, three_sums_nonzero, four_sums_nonzero, point_nonzero, points_differ, sum3_nonzero, pairs3_nonzero, trinomial_nonzero}

-- the bay of item i
abbrev pub item : ℕ → ℕ
item i = suc (suc (suc (suc i)))

-- a bay above the check bays is an item's
back : (b : ℕ) → 4 ≤ b → item (b - 4) ≡ b
back b h = omega arith

kept : (b : ℕ) → b ≡ b
kept b = refl

module _ {K : Type 0} (s : Structure K) where
  -- the determinant of the columns of four bays
  abbrev pub bays_det : ℕ → ℕ → ℕ → ℕ → Ext K
  bays_det a b c d = det (ops (extend s)) (column s a) (column s b) (column s c) (column s d)

  abbrev NZ : Ext K → Type 0
  NZ x = Nonzero (extend s) x

  same_bays : {a b c d a' b' c' d' : ℕ} → a ≡ a' → b ≡ b' → c ≡ c' → d ≡ d' → NZ (bays_det a b c d) → NZ (bays_det a' b' c' d')
  same_bays p q r t n = subst NZ (λ i. bays_det (p i) (q i) (r i) (t i)) n

  times : {x y : Ext K} → NZ x → NZ y → NZ ((extend s).times x y)
  times p q = times_nonzero (extend s) p q

  by : {x y : Ext K} → x ≡ y → NZ y → NZ x
  by e n = equal_nonzero (extend s) e n

  -- four items, and then with one, two and three check bays
  no_check : (i j k l : ℕ) → i < j → j < k → k < l → l < size s → NZ (bays_det (item i) (item j) (item k) (item l))
  no_check i j k l a b c d =
      by (four (extend s).ring (point s i) (point s j) (point s k) (point s l))
      (four_sums_nonzero (extend s) (points_differ s i j a (omega arith)) (points_differ s i k (omega arith) (omega arith)) (points_differ s j k b (omega arith))
      (points_differ s i l (omega arith) d) (points_differ s j l (omega arith) d) (points_differ s k l c d))

  one_check : (a i j k : ℕ) → a < 4 → i < j → j < k → k < size s → NZ (bays_det a (item i) (item j) (item k))
  one_check a i j k p q r t = go a p
    where
      sums : NZ (three_sums (ops (extend s)) (point s i) (point s j) (point s k))
      sums = three_sums_nonzero (extend s) (points_differ s i j q (omega arith)) (points_differ s i k (omega arith) t) (points_differ s j k r t)

      go : (a : ℕ) → a < 4 → NZ (bays_det a (item i) (item j) (item k))
      go zero p = by (three_0 (extend s).ring (point s i) (point s j) (point s k)) (times sums (times (point_nonzero s i) (times (point_nonzero s j) (point_nonzero s k))))
      go (suc zero) p = by (three_1 (extend s).ring (point s i) (point s j) (point s k)) (times sums (pairs3_nonzero s i j k))
      go (suc (suc zero)) p = by (three_2 (extend s).ring (point s i) (point s j) (point s k)) (times sums (sum3_nonzero s i j k))
      go (suc (suc (suc zero))) p = by (three_3 (extend s).ring (point s i) (point s j) (point s k)) sums
      go (suc (suc (suc (suc a)))) p = absurd (omega arith)

  two_checks : (a b i j : ℕ) → a < b → b < 4 → i < j → j < size s → NZ (bays_det a b (item i) (item j))
  two_checks a b i j p q r t = go a b p q
    where
      sum : NZ ((extend s).plus (point s i) (point s j))
      sum = points_differ s i j r t

      xy : NZ ((extend s).times (point s i) (point s j))
      xy = times (point_nonzero s i) (point_nonzero s j)

      go : (a b : ℕ) → a < b → b < 4 → NZ (bays_det a b (item i) (item j))
      go a zero p q = absurd (omega arith)
      go zero (suc zero) p q = by (two_01 (extend s).ring (point s i) (point s j)) (times xy (times xy sum))
      go (suc a) (suc zero) p q = absurd (omega arith)
      go zero (suc (suc zero)) p q = by (two_02 (extend s).ring (point s i) (point s j)) (times xy (times sum sum))
      go (suc zero) (suc (suc zero)) p q = by (two_12 (extend s).ring (point s i) (point s j)) (times sum (trinomial_nonzero s i j))
      go (suc (suc a)) (suc (suc zero)) p q = absurd (omega arith)
      go zero (suc (suc (suc zero))) p q = by (two_03 (extend s).ring (point s i) (point s j)) (times xy sum)
      go (suc zero) (suc (suc (suc zero))) p q = by (two_13 (extend s).ring (point s i) (point s j)) (times sum sum)
      go (suc (suc zero)) (suc (suc (suc zero))) p q = by (two_23 (extend s).ring (point s i) (point s j)) sum
      go (suc (suc (suc a))) (suc (suc (suc zero))) p q = absurd (omega arith)
      go a (suc (suc (suc (suc b)))) p q = absurd (omega arith)

  three_checks : (a b c i : ℕ) → a < b → b < c → c < 4 → NZ (bays_det a b c (item i))
  three_checks a b c i p q r = elim (dec_lt c 3) [
    | yes h ↦ at 0 1 2 (omega arith) (omega arith) (omega arith) (by (one_3 (extend s).ring (point s i)) (times x (times x x)))
    | no h ↦ elim (dec_lt b 2) [
      | yes k ↦ at 0 1 3 (omega arith) (omega arith) (omega arith) (by (one_2 (extend s).ring (point s i)) (times x x))
      | no k ↦ elim (dec_lt a 1) [
        | yes l ↦ at 0 2 3 (omega arith) (omega arith) (omega arith) (by (one_1 (extend s).ring (point s i)) x)
        | no l ↦ at 1 2 3 (omega arith) (omega arith) (omega arith) (by (one_0 (extend s).ring (point s i)) (one_nonzero (extend s)))
      ]
    ]
  ]
    where
      x : NZ (point s i)
      x = point_nonzero s i

      at : (a' b' c' : ℕ) → a' ≡ a → b' ≡ b → c' ≡ c → NZ (bays_det a' b' c' (item i)) → NZ (bays_det a b c (item i))
      at a' b' c' e f g n = same_bays e f g (kept (item i)) n

  -- of any four bays in their order; the check bays stand first
  pub det_nonzero : (n : ℕ) → n ≤ size s → (a b c d : ℕ) → a < b → b < c → c < d → d < n + 4 → NZ (bays_det a b c d)
  det_nonzero n m a b c d p q r t = elim (dec_lt a 4) [
    | no h ↦
        same_bays (back a (omega arith)) (back b (omega arith)) (back c (omega arith)) (back d (omega arith))
        (no_check (a - 4) (b - 4) (c - 4) (d - 4) (omega arith) (omega arith) (omega arith) (omega arith))
    | yes h ↦ elim (dec_lt b 4) [
      | no k ↦
          same_bays (kept a) (back b (omega arith)) (back c (omega arith)) (back d (omega arith))
          (one_check a (b - 4) (c - 4) (d - 4) h (omega arith) (omega arith) (omega arith))
      | yes k ↦ elim (dec_lt c 4) [
        | no l ↦
            same_bays (kept a) (kept b) (back c (omega arith)) (back d (omega arith))
            (two_checks a b (c - 4) (d - 4) p k (omega arith) (omega arith))
        | yes l ↦ elim (dec_lt d 4) [
          | no o ↦ same_bays (kept a) (kept b) (kept c) (back d (omega arith)) (three_checks a b c (d - 4) p q l)
          | yes o ↦ same_bays {a = 0} {b = 1} {c = 2} {d = 3} {a' = a} {b' = b} {c' = c} {d' = d} (omega arith) (omega arith) (omega arith) (omega arith) (by (none (extend s).ring) (one_nonzero (extend s)))
        ]
      ]
    ]
  ]
