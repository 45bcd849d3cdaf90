-- Runs by halves: which terms and bits they depend on, and the steps from 2^m items to 2^(m + 1). Assumes nothing.
use Rattle.std.proofs.Common.{◌≡◌, ℕ, zero, suc, ◌+◌, ◌^◌, ◌<◌, Bool, true, false, cond, eqb, sym, refl, ap, ◌∙◌, ap₂, pow-suc, arith, eq-eqb, ne_eqb}
use Rattle.ring2.proofs.Laws.{plus_times}
use Rattle.field.specs.Structure.{Structure}
use Rattle.codeword.specs.Sums.{total}
use Rattle.codeword.proofs.Sums.{total_suc, total_ext, total_plus}
use Rattle.halves.specs.Runs.{none, one, two, upper, run}
use Rattle.halves.specs.Gathered.{run_by}

pub twice : (m : ℕ) → 2 ^ suc m ≡ 2 ^ m + 2 ^ m
twice m = pow-suc 2 m ∙ omega arith

pub same : (t : Bool) → cond t true false ≡ t
same true = refl
same false = refl

-- a run by any sum depends on its 2^m items alone
pub run_by_ext : {K : Type 0} (plus : K → K → K) (set : ℕ → Bool) (m : ℕ) (f g : ℕ → K)
    → ((i : ℕ) → i < 2 ^ m → f i ≡ g i) → run_by plus set m f ≡ run_by plus set m g
unfolding run_by
run_by_ext plus set zero f g e = e 0 (omega arith)
run_by_ext plus set (suc m) f g e =
    ap₂ (λ a b. cond (set m) b (plus a b)) (run_by_ext plus set m f g (λ i h. e i (omega (arith, twice m))))
    (run_by_ext plus set m (upper m f) (upper m g) (λ i h. e (2 ^ m + i) (omega (arith, twice m))))

module _ {K : Type 0} (s : Structure K) where
  pub run_word : (set : ℕ → Bool) (f : ℕ → K) → run s set 0 f ≡ f 0
  unfolding run
  run_word set f = refl

  pub run_upper : (set : ℕ → Bool) (m : ℕ) (f : ℕ → K) → set m ≡ true → run s set (suc m) f ≡ run s set m (upper m f)
  unfolding run
  run_upper set m f e = rw e

  pub run_both : (set : ℕ → Bool) (m : ℕ) (f : ℕ → K) → set m ≡ false → run s set (suc m) f ≡ s.plus (run s set m f) (run s set m (upper m f))
  unfolding run
  run_both set m f e = rw e

  -- a run is the run by the structure's sum
  pub run_is : (set : ℕ → Bool) (m : ℕ) (f : ℕ → K) → run s set m f ≡ run_by s.plus set m f
  unfolding run run_by
  run_is set zero f = refl
  run_is set (suc m) f = ap₂ (λ a b. cond (set m) b (s.plus a b)) (run_is set m f) (run_is set m (upper m f))

  -- so it depends on its 2^m items alone
  pub run_ext : (set : ℕ → Bool) (m : ℕ) (f g : ℕ → K) → ((i : ℕ) → i < 2 ^ m → f i ≡ g i) → run s set m f ≡ run s set m g
  run_ext set m f g e = run_is set m f ∙ run_by_ext s.plus set m f g e ∙ sym (run_is set m g)

  -- and on the set's bits below m
  pub run_set : (a b : ℕ → Bool) (m : ℕ) (f : ℕ → K) → ((i : ℕ) → i < m → a i ≡ b i) → run s a m f ≡ run s b m f
  unfolding run
  run_set a b zero f e = refl
  run_set a b (suc m) f e =
      ap (λ t. cond t (run s a m (upper m f)) (s.plus (run s a m f) (run s a m (upper m f)))) (e m (omega arith))
      ∙ ap₂ (λ x y. cond (b m) y (s.plus x y)) (run_set a b m f (λ i h. e i (omega arith))) (run_set a b m (upper m f) (λ i h. e i (omega arith)))

  pub run_zero : (set : ℕ → Bool) (m : ℕ) (f : ℕ → K) → ((i : ℕ) → i < 2 ^ m → f i ≡ s.zero) → run s set m f ≡ s.zero
  unfolding run
  run_zero set zero f e = e 0 (omega arith)
  run_zero set (suc m) f e =
      ap₂ (λ a b. cond (set m) b (s.plus a b)) (run_zero set m f (λ i h. e i (omega (arith, twice m))))
      (run_zero set m (upper m f) (λ i h. e (2 ^ m + i) (omega (arith, twice m)))) ∙ either (set m)
    where
      either : (t : Bool) → cond t s.zero (s.plus s.zero s.zero) ≡ s.zero
      either true = refl
      either false = s.ring.plus_zero s.zero

  module _ (m : ℕ) (f : ℕ → K) where
    pub none_step : run s none (suc m) f ≡ s.plus (run s none m f) (run s none m (upper m f))
    none_step = run_both none m f refl

    pub one_low : (j : ℕ) → j < m → run s (one j) (suc m) f ≡ s.plus (run s (one j) m f) (run s (one j) m (upper m f))
    one_low j h = run_both (one j) m f (ne_eqb m j (λ e. omega arith))

    pub one_top : run s (one m) (suc m) f ≡ run s none m (upper m f)
    one_top = run_upper (one m) m f (eq-eqb m m refl) ∙ run_set (one m) none m (upper m f) (λ i h. ne_eqb i m (λ e. omega arith))

    pub two_low : (j k : ℕ) → j < k → k < m → run s (two j k) (suc m) f ≡ s.plus (run s (two j k) m f) (run s (two j k) m (upper m f))
    two_low j k h l =
        run_both (two j k) m f (ap (λ t. cond t true (eqb m k)) (ne_eqb m j (λ e. omega arith)) ∙ ne_eqb m k (λ e. omega arith))

    pub two_top : (j : ℕ) → j < m → run s (two j m) (suc m) f ≡ run s (one j) m (upper m f)
    two_top j h =
        run_upper (two j m) m f (ap (λ t. cond t true (eqb m m)) (ne_eqb m j (λ e. omega arith)) ∙ eq-eqb m m refl)
        ∙ run_set (two j m) (one j) m (upper m f) (λ i l. ap (cond (eqb i j) true) (ne_eqb i m (λ e. omega arith)) ∙ same (eqb i j))

  -- the sums over bits and over pairs of bits, by halves
  pub singles_step : (c : ℕ → K) (m : ℕ) (f : ℕ → K)
      → total s (λ j. s.times (run s (one j) (suc m) f) (c j)) (suc m)
      ≡ s.plus (s.plus (total s (λ j. s.times (run s (one j) m f) (c j)) m) (total s (λ j. s.times (run s (one j) m (upper m f)) (c j)) m))
      (s.times (run s none m (upper m f)) (c m))
  singles_step c m f =
      total_suc s (λ j. s.times (run s (one j) (suc m) f) (c j)) m
      ∙ ap₂ s.plus
      (total_ext s (λ j. s.times (run s (one j) (suc m) f) (c j))
      (λ j. s.plus (s.times (run s (one j) m f) (c j)) (s.times (run s (one j) m (upper m f)) (c j))) m
      (λ j h. ap (λ x. s.times x (c j)) (one_low m f j h) ∙ plus_times s.ring (run s (one j) m f) (run s (one j) m (upper m f)) (c j))
      ∙ total_plus s (λ j. s.times (run s (one j) m f) (c j)) (λ j. s.times (run s (one j) m (upper m f)) (c j)) m)
      (ap (λ x. s.times x (c m)) (one_top m f))

  pub pairs_step : (c : ℕ → ℕ → K) (m : ℕ) (f : ℕ → K)
      → total s (λ k. total s (λ j. s.times (run s (two j k) (suc m) f) (c j k)) k) (suc m)
      ≡ s.plus (s.plus (total s (λ k. total s (λ j. s.times (run s (two j k) m f) (c j k)) k) m)
      (total s (λ k. total s (λ j. s.times (run s (two j k) m (upper m f)) (c j k)) k) m))
      (total s (λ j. s.times (run s (one j) m (upper m f)) (c j m)) m)
  pairs_step c m f =
      total_suc s (λ k. total s (λ j. s.times (run s (two j k) (suc m) f) (c j k)) k) m
      ∙ ap₂ s.plus
      (total_ext s (λ k. total s (λ j. s.times (run s (two j k) (suc m) f) (c j k)) k)
      (λ k. s.plus (total s (λ j. s.times (run s (two j k) m f) (c j k)) k) (total s (λ j. s.times (run s (two j k) m (upper m f)) (c j k)) k)) m
      (λ k h.
      total_ext s (λ j. s.times (run s (two j k) (suc m) f) (c j k))
      (λ j. s.plus (s.times (run s (two j k) m f) (c j k)) (s.times (run s (two j k) m (upper m f)) (c j k))) k
      (λ j l. ap (λ x. s.times x (c j k)) (two_low m f j k l h) ∙ plus_times s.ring (run s (two j k) m f) (run s (two j k) m (upper m f)) (c j k))
      ∙ total_plus s (λ j. s.times (run s (two j k) m f) (c j k)) (λ j. s.times (run s (two j k) m (upper m f)) (c j k)) k)
      ∙ total_plus s (λ k. total s (λ j. s.times (run s (two j k) m f) (c j k)) k) (λ k. total s (λ j. s.times (run s (two j k) m (upper m f)) (c j k)) k) m)
      (total_ext s (λ j. s.times (run s (two j m) (suc m) f) (c j m)) (λ j. s.times (run s (one j) m (upper m f)) (c j m)) m
      (λ j h. ap (λ x. s.times x (c j m)) (two_top m f j h)))
