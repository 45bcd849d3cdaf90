-- The sums t0 to t3 of a line, and the check sums that they give. Assumes nothing.
use Rattle.std.specs.Prelude.{ℕ, List}
use Rattle.field.specs.Structure.{Structure}
use Rattle.extension.specs.declared.ext.Ext.{Ext}
use Rattle.extension.specs.Formulas.{embed}
use Rattle.extension.specs.Extend.{extend}
use Rattle.codeword.specs.Sums.{total}
use Rattle.halves.specs.Runs.{one, two, run}
use Rattle.halves.specs.Moments.{bit, bit2, bit3, mixed, t0, t1, t2, t3, items_of, shifted1, shifted2, shifted3}
use Rattle.line_code.specs.declared.sums.Sums.{Sums}

module _ {K : Type 0} (s : Structure K) where
  -- t0 to t3 of a line padded to 2^n words
  abbrev pub moments_of : List ℕ → ℕ → Sums K
  moments_of items n = record {
    zeroth = t0 s n (items_of s items);
    first = t1 s n (items_of s items);
    second = t2 s n (items_of s items);
    third = t3 s n (items_of s items);
  }

  -- R(j) by a factor, and R(j, k) by the mixed factor, of a line padded to 2^n words
  abbrev pub single : (ℕ → K) → List ℕ → ℕ → ℕ → Ext K
  single c items n j = (extend s).times (run (extend s) (one j) n (items_of s items)) (embed s (c j))

  -- an element by v_k to the powers 0 to 3
  abbrev pub shares_of : Ext K → ℕ → Sums K
  shares_of x k = record {
    zeroth = x;
    first = (extend s).times x (embed s (bit s k));
    second = (extend s).times x (embed s (bit2 s k));
    third = (extend s).times x (embed s (bit3 s k));
  }

  abbrev pub pair_term : List ℕ → ℕ → ℕ → ℕ → Ext K
  pair_term items n k j = (extend s).times (run (extend s) (two j k) n (items_of s items)) (embed s (mixed s j k))

  abbrev pub pair_row : List ℕ → ℕ → ℕ → Ext K
  pair_row items n k = total (extend s) (pair_term items n k) k

  -- the check sums from t0 to t3
  abbrev pub shifted_sums : Sums K → Sums K
  shifted_sums t = record {
    zeroth = t.zeroth;
    first = shifted1 s t.zeroth t.first;
    second = shifted2 s t.zeroth t.second;
    third = shifted3 s t.zeroth t.first t.second t.third;
  }
