-- The order of the extension, and the quotients of its numbers, by the order of the base field. Assumes nothing.
use Rattle.std.proofs.Common.{◌≡◌, ℕ, ◌*◌, ◌/◌, ◌<◌, sym, pow-add, shr_lt}
use Rattle.field.specs.Structure.{Structure, size}
use Rattle.extension.specs.Extend.{extend}

module _ {K : Type 0} (s : Structure K) where
  pub order_is : size s * size s ≡ size (extend s)
  unfolding extend
  order_is = sym (pow-add 2 s.bits s.bits)

  pub high_lt : (n : ℕ) → n < size (extend s) → n / size s < size s
  unfolding extend
  high_lt n h = shr_lt s.bits s.bits h
