-- The four sums that make a line's check words, and one item's share in them. Assumes nothing.
use Rattle.std.specs.Prelude.{ℕ, ◌<◌, List, ◌∷◌, length, drop, slice_index}
use Rattle.field.specs.Structure.{Structure, size}
use Rattle.extension.specs.declared.ext.Ext.{Ext}
use Rattle.extension.specs.Extend.{extend}
use Rattle.codeword.specs.Sums.{total, power}
use Rattle.codeword.specs.Codeword.{element, point, check}
use Rattle.line_code.specs.declared.sums.Sums.{Sums}

module _ {K : Type 0} (s : Structure K) where
  -- the terms of check word l: item i adds d·h^l
  abbrev pub term : List ℕ → ℕ → ℕ → Ext K
  term items l i = (extend s).times (element s (slice_index items i)) (power (extend s) (point s i) l)

  -- the sums over the first n items
  abbrev pub sums_of : List ℕ → ℕ → Sums K
  sums_of items n = record {
    zeroth = total (extend s) (term items 0) n;
    first = total (extend s) (term items 1) n;
    second = total (extend s) (term items 2) n;
    third = total (extend s) (term items 3) n;
  }

  -- the four check words as elements
  abbrev pub check_sums : List ℕ → Sums K
  check_sums items = record {
    zeroth = check s items 0;
    first = check s items 1;
    second = check s items 2;
    third = check s items 3;
  }

  -- the sums after one more item: its word d, its point h
  abbrev pub sums_with : Sums K → Ext K → Ext K → Sums K
  sums_with t d h = record {
    zeroth = (extend s).plus t.zeroth ((extend s).times d (power (extend s) h 0));
    first = (extend s).plus t.first ((extend s).times d (power (extend s) h 1));
    second = (extend s).plus t.second ((extend s).times d (power (extend s) h 2));
    third = (extend s).plus t.third ((extend s).times d (power (extend s) h 3));
  }

  -- the numbers of the four sums, and then the list from place 4 on
  abbrev pub written : Sums K → List ℕ → List ℕ
  written t checks =
      (extend s).value t.zeroth ∷ (extend s).value t.first ∷ (extend s).value t.second ∷ (extend s).value t.third ∷ drop 4 checks

  -- every word is below q·q
  abbrev pub Small : List ℕ → Type 0
  Small items = (i : ℕ) → i < length items → slice_index items i < size (extend s)
