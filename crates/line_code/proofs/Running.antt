-- The four sums, item by item. Assumes nothing.
use Rattle.std.proofs.Common.{◌≡◌, ℕ, ◌+◌, List, get_or, sym, ap, ◌∙◌}
use Rattle.field.specs.Structure.{Structure}
use Rattle.extension.specs.declared.ext.Ext.{Ext}
use Rattle.extension.specs.Extend.{extend}
use Rattle.codeword.specs.Codeword.{element, point}
use Rattle.codeword.proofs.Sums.{total_more}
use Rattle.line_code.specs.declared.sums.Sums.{Sums}
use Rattle.line_code.specs.Sums.{term, sums_of, sums_with}

pub sums_path : {K : Type 0} (x y : Sums K) → x.zeroth ≡ y.zeroth → x.first ≡ y.first → x.second ≡ y.second → x.third ≡ y.third → x ≡ y
sums_path x y a b c d = λ i. record { zeroth = a i; first = b i; second = c i; third = d i }

module _ {K : Type 0} (s : Structure K) (items : List ℕ) where
  pub sums_more : (i : ℕ) → sums_with s (sums_of s items i) (element s (get_or items i 0)) (point s i) ≡ sums_of s items (i + 1)
  sums_more i =
      sums_path (sums_with s (sums_of s items i) (element s (get_or items i 0)) (point s i)) (sums_of s items (i + 1))
      (sym (total_more (extend s) (term s items 0) i))
      (sym (total_more (extend s) (term s items 1) i))
      (sym (total_more (extend s) (term s items 2) i))
      (sym (total_more (extend s) (term s items 3) i))

  -- the same of values that are equal to the item's word, its point and the sums so far
  pub sums_next : (i : ℕ) (t : Sums K) (d h : Ext K) → t ≡ sums_of s items i → d ≡ element s (get_or items i 0) → h ≡ point s i
      → sums_with s t d h ≡ sums_of s items (i + 1)
  sums_next i t d h a b c =
      ap (λ x. sums_with s x d h) a ∙ ap (λ x. sums_with s (sums_of s items i) x h) b
      ∙ ap (sums_with s (sums_of s items i) (element s (get_or items i 0))) c ∙ sums_more i
