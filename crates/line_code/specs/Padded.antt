-- The run of words in which the sums R(S) of a line are gathered. Assumes nothing.
use Rattle.std.specs.Prelude.{ℕ, ◌-◌, ◌^◌, ◌<◌, List, ◌++◌, length, replicate, slice_index}

-- every word has at most b bits
abbrev pub Below : ℕ → List ℕ → Type 0
Below b words = (i : ℕ) → slice_index words i < 2 ^ b

-- a line with zero words behind it, 256 words in all
abbrev pub padded : List ℕ → List ℕ
padded words = words ++ replicate (256 - length words) 0
