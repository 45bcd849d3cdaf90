-- Runs by any sum, and the lists that have the sums of all runs at their places. Assumes nothing.
use Rattle.std.specs.Prelude.{◌≡◌, ℕ, zero, suc, ◌+◌, ◌^◌, ◌≤◌, Bool, cond, List, bit_xor, slice_index}
use Rattle.codeword.specs.Sums.{count}
use Rattle.halves.specs.Runs.{upper}

-- R(set) of 2^m values that are added by `plus`; over a structure it is `run` (Rattle.halves.proofs.Halving.run_is).
unfoldable pub run_by : {K : Type 0} → (K → K → K) → (ℕ → Bool) → ℕ → (ℕ → K) → K
run_by plus set zero f = f 0
run_by plus set (suc m) f = cond (set m) (run_by plus set m (upper m f)) (plus (run_by plus set m f) (run_by plus set m (upper m f)))

-- the number below 2^m whose bits are the set
unfoldable pub place : (ℕ → Bool) → ℕ → ℕ
place set zero = 0
place set (suc m) = cond (set m) (2 ^ m + place set m) (place set m)

-- The list `sums` has, at the place of every set of at most `most` bits, R(set) of the 2^m words. Words add by exclusive or.
abbrev pub Gathered : ℕ → ℕ → List ℕ → List ℕ → Type 0
Gathered m most words sums =
    (set : ℕ → Bool) → count set m ≤ most → slice_index sums (place set m) ≡ run_by bit_xor set m (λ i. slice_index words i)
