-- Sums of d·(c + w)^l by those of d·w^l, for l from 0 to 3. Assumes nothing.
use Rattle.std.proofs.Common.{◌≡◌, ℕ, [], ◌∷◌, ap, ◌∙◌, ap₂}
use Rattle.ring2.proofs.Solve.{reading, solved}
use Rattle.field.specs.Structure.{Structure}
use Rattle.codeword.specs.Sums.{total, power}
use Rattle.codeword.proofs.Sums.{total_ext, total_plus, total_times}

module _ {K : Type 0} (s : Structure K) (d w : ℕ → K) (c : K) where
  abbrev pub at : ℕ → ℕ → K
  at l i = s.times (d i) (power s (w i) l)

  abbrev pub moved_at : ℕ → ℕ → K
  moved_at l i = s.times (d i) (power s (s.plus c (w i)) l)

  pub shift1 : (n : ℕ) → total s (moved_at 1) n ≡ s.plus (total s (at 1) n) (s.times c (total s (at 0) n))
  shift1 n =
      total_ext s (moved_at 1) (λ i. s.plus (at 1 i) (s.times c (at 0 i))) n
      (λ i h. solved s.ring (d i ∷ w i ∷ c ∷ []) (search reading depth 12) (search reading depth 12) tt)
      ∙ total_plus s (at 1) (λ i. s.times c (at 0 i)) n ∙ ap (s.plus (total s (at 1) n)) (total_times s c (at 0) n)

  pub shift2 : (n : ℕ) → total s (moved_at 2) n ≡ s.plus (total s (at 2) n) (s.times (s.times c c) (total s (at 0) n))
  shift2 n =
      total_ext s (moved_at 2) (λ i. s.plus (at 2 i) (s.times (s.times c c) (at 0 i))) n
      (λ i h. solved s.ring (d i ∷ w i ∷ c ∷ []) (search reading depth 12) (search reading depth 12) tt)
      ∙ total_plus s (at 2) (λ i. s.times (s.times c c) (at 0 i)) n
      ∙ ap (s.plus (total s (at 2) n)) (total_times s (s.times c c) (at 0) n)

  pub shift3 : (n : ℕ) → total s (moved_at 3) n
      ≡ s.plus (s.plus (total s (at 3) n) (s.times c (total s (at 2) n)))
      (s.plus (s.times (s.times c c) (total s (at 1) n)) (s.times (s.times (s.times c c) c) (total s (at 0) n)))
  shift3 n =
      let cc2 : K = s.times c c in
      let ccc : K = s.times (s.times c c) c in
      total_ext s (moved_at 3)
      (λ i. s.plus (s.plus (at 3 i) (s.times c (at 2 i))) (s.plus (s.times (s.times c c) (at 1 i)) (s.times (s.times (s.times c c) c) (at 0 i)))) n
      (λ i h. solved s.ring (d i ∷ w i ∷ c ∷ []) (search reading depth 12) (search reading depth 12) tt)
      ∙ total_plus s (λ i. s.plus (at 3 i) (s.times c (at 2 i))) (λ i. s.plus (s.times cc2 (at 1 i)) (s.times ccc (at 0 i))) n
      ∙ ap₂ s.plus
      (total_plus s (at 3) (λ i. s.times c (at 2 i)) n ∙ ap (s.plus (total s (at 3) n)) (total_times s c (at 2) n))
      (total_plus s (λ i. s.times cc2 (at 1 i)) (λ i. s.times ccc (at 0 i)) n ∙ ap₂ s.plus (total_times s cc2 (at 1) n) (total_times s ccc (at 0) n))
