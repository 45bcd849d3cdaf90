-- The words of a line as numbers. Assumes nothing.
use Prim.Native.Nat.{◌+◌, ◌^◌, ◌≤◌, ◌<◌}
use native.Mathlib.Omega.{arith}
use lib.Pow.{pow_mono}
use Rattle.field.specs.Structure.{Structure}
use Rattle.extension.specs.declared.ext.Ext.{Ext}
use Rattle.extension.specs.Extend.{extend}

-- over a field of at most 256 elements the number of an element of the extension has at most 16 bits
pub word_fits : {K : Type 0} (s : Structure K) → s.bits ≤ 8 → (x : Ext K) → (extend s).value x < 2 ^ 16
unfolding extend
word_fits s small x =
    let bits : s.bits + s.bits ≤ 16 = omega arith in
    let most : 2 ^ (s.bits + s.bits) ≤ 2 ^ 16 = pow_mono bits in
    omega (arith, (extend s).value_lt x)
