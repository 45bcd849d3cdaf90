-- How many of the first numbers pass a test when one number is left out. Assumes nothing.
use Rattle.std.proofs.Common.{◌≡◌, ℕ, zero, suc, ◌+◌, ◌<◌, ◌≤◌, Bool, true, false, not, cond, ◌&&◌, eqb, ap, ◌∙◌, inl, inr, arith}
use Rattle.std.proofs.lemmas.Bool.{cases_eq}
use Rattle.std.proofs.lemmas.Bool.Decides.{nat_tests}
use Rattle.codeword.specs.Sums.{count}
use Rattle.codeword.proofs.Counts.{count_ext, count_suc}

module _ (p : ℕ → Bool) (c : ℕ) where
  -- it is not among the first n
  pub count_but_out : (n : ℕ) → n ≤ c → count (λ i. p i && not (eqb i c)) n ≡ count p n
  count_but_out n h = count_ext (λ i. p i && not (eqb i c)) p n (λ i less. grind (arith, nat_tests, h, less))

  -- it does not pass
  pub count_but_off : (n : ℕ) → p c ≡ false → count (λ i. p i && not (eqb i c)) n ≡ count p n
  count_but_off n off = count_ext (λ i. p i && not (eqb i c)) p n (λ i less. elim (cases_eq i c) [
    | inl same ↦ grind (arith, nat_tests, ap p same ∙ off)
    | inr other ↦ grind (arith, nat_tests, other)
  ])

  -- it is among them and passes
  pub count_but_on : (n : ℕ) → c < n → p c ≡ true → count (λ i. p i && not (eqb i c)) n + 1 ≡ count p n
  count_but_on zero less on = absurd (omega (arith, less))
  count_but_on (suc n) less on =
      let test : ℕ → Bool = λ i. p i && not (eqb i c) in
      let skips : (n ≡ c) → test n ≡ false = λ same. grind (arith, nat_tests, same) in
      elim (cases_eq n c) [
        | inl same ↦
            let out : count test n ≡ count p n = count_but_out n (omega (arith, same)) in
            let none : ◌≡◌ {A = ℕ} (cond (test n) 1 0) 0 = ap (λ b. cond b 1 0) (skips same) in
            let one : ◌≡◌ {A = ℕ} (cond (p n) 1 0) 1 = ap (λ b. cond b 1 0) (ap p same ∙ on) in
            omega (arith, count_suc test n, count_suc p n, out, none, one)
        | inr other ↦
            let same : test n ≡ p n = grind (arith, nat_tests, other) in
            let both : ◌≡◌ {A = ℕ} (cond (test n) 1 0) (cond (p n) 1 0) = ap (λ b. cond b 1 0) same in
            let rest : count test n + 1 ≡ count p n = count_but_on n (omega (arith, less, other)) on in
            omega (arith, count_suc test n, count_suc p n, both, rest)
      ]
