-- A rule at each number below a bound, by one test that computes. Assumes nothing.
use Rattle.std.specs.Prelude.{◌≡◌, ℕ, zero, suc, ◌<◌, Bool, true, ◌&&◌, T, nat_eq, nat_lt}
use Rattle.std.proofs.Common.{subst, sym, arith, eqb→eq, ltb→lt}
use Rattle.std.proofs.Math.Decide.{ℕ_discrete}
use Rattle.ring2.proofs.Solve.{both_left, both_right}

-- the test passes at each number below n
abbrev pub every : ℕ → (ℕ → Bool) → Bool
every zero P = true
every (suc n) P = P n && every n P

pub every_at : (n : ℕ) (P : ℕ → Bool) → T (every n P) → (k : ℕ) → k < n → T (P k)
every_at zero P t k h = let f : ⊥ = omega arith in absurd f
every_at (suc n) P t k h = elim (ℕ_discrete k n) [
  | yes e ↦ subst (λ m. T (P m)) (sym e) (both_left (P n) (every n P) t)
  | no d ↦ every_at n P (both_right (P n) (every n P) t) k (omega arith)
]

-- two functions agree below n, of one, two and three numbers
pub agree : (n : ℕ) (f g : ℕ → ℕ) → T (every n (λ a. nat_eq (f a) (g a))) → (a : ℕ) → a < n → f a ≡ g a
agree n f g t a h = eqb→eq (f a) (g a) (every_at n (λ k. nat_eq (f k) (g k)) t a h)

pub agree2 : (n : ℕ) (f g : ℕ → ℕ → ℕ) → T (every n (λ a. every n (λ b. nat_eq (f a b) (g a b)))) → (a b : ℕ) → a < n → b < n → f a b ≡ g a b
agree2 n f g t a b h k = agree n (f a) (g a) (every_at n (λ i. every n (λ j. nat_eq (f i j) (g i j))) t a h) b k

pub agree3 : (n : ℕ) (f g : ℕ → ℕ → ℕ → ℕ) → T (every n (λ a. every n (λ b. every n (λ c. nat_eq (f a b c) (g a b c)))))
    → (a b c : ℕ) → a < n → b < n → c < n → f a b c ≡ g a b c
agree3 n f g t a b c h k l =
    agree2 n (f a) (g a) (every_at n (λ i. every n (λ j. every n (λ m. nat_eq (f i j m) (g i j m)))) t a h) b c k l

-- a function stays below a bound, below n
pub below : (n m : ℕ) (f : ℕ → ℕ) → T (every n (λ a. nat_lt (f a) m)) → (a : ℕ) → a < n → f a < m
below n m f t a h = ltb→lt (f a) m (every_at n (λ k. nat_lt (f k) m) t a h)
