-- The sums over bits and over pairs of bits, bit by bit. Assumes nothing.
use Rattle.std.proofs.Common.{◌≡◌, ℕ, ◌+◌, List, sym, ap, ◌∙◌, subst, ap₂}
use Rattle.field.specs.Structure.{Structure}
use Rattle.extension.specs.declared.ext.Ext.{Ext}
use Rattle.extension.specs.Extend.{extend}
use Rattle.codeword.specs.Sums.{total}
use Rattle.codeword.proofs.Sums.{total_none, total_more}
use Rattle.halves.specs.Runs.{none, one, run}
use Rattle.halves.specs.Moments.{bit, bit2, bit3, items_of}
use Rattle.line_code.specs.declared.sums.Sums.{Sums}
use Rattle.line_code.specs.ByHalves.{single, pair_row, shares_of, moments_of}
use Rattle.line_code.proofs.Running.{sums_path}

module _ {K : Type 0} (s : Structure K) (line : List ℕ) (n : ℕ) where
  -- over the bits below k
  pub record SoFar (k : ℕ) (first second cubes pairs : Ext K) : Type 0 where
    pub first_is : first ≡ total (extend s) (single s (bit s) line n) k
    pub second_is : second ≡ total (extend s) (single s (bit2 s) line n) k
    pub cubes_is : cubes ≡ total (extend s) (single s (bit3 s) line n) k
    pub pairs_is : pairs ≡ total (extend s) (pair_row s line n) k

  pub so_far_none : (a b c d : Ext K) → a ≡ (extend s).zero → b ≡ (extend s).zero → c ≡ (extend s).zero → d ≡ (extend s).zero → SoFar 0 a b c d
  so_far_none a b c d ea eb ec ed = record {
    first_is = ea ∙ sym (total_none (extend s) (single s (bit s) line n));
    second_is = eb ∙ sym (total_none (extend s) (single s (bit2 s) line n));
    cubes_is = ec ∙ sym (total_none (extend s) (single s (bit3 s) line n));
    pairs_is = ed ∙ sym (total_none (extend s) (pair_row s line n));
  }

  pub so_far_more : (k : ℕ) (a b c d : Ext K) (share : Sums K) (part row a' b' c' d' : Ext K) → SoFar k a b c d
      → share ≡ shares_of s part k → part ≡ run (extend s) (one k) n (items_of s line) → row ≡ pair_row s line n k
      → a' ≡ (extend s).plus a share.first → b' ≡ (extend s).plus b share.second → c' ≡ (extend s).plus c share.third → d' ≡ (extend s).plus d row
      → SoFar (k + 1) a' b' c' d'
  so_far_more k a b c d share part row a' b' c' d' h e p r ea eb ec ed =
      let x : share ≡ shares_of s (run (extend s) (one k) n (items_of s line)) k = e ∙ ap (λ y. shares_of s y k) p in
      record {
        first_is = ea ∙ ap₂ (extend s).plus h.first_is (ap (λ y. y.first) x) ∙ sym (total_more (extend s) (single s (bit s) line n) k);
        second_is = eb ∙ ap₂ (extend s).plus h.second_is (ap (λ y. y.second) x) ∙ sym (total_more (extend s) (single s (bit2 s) line n) k);
        cubes_is = ec ∙ ap₂ (extend s).plus h.cubes_is (ap (λ y. y.third) x) ∙ sym (total_more (extend s) (single s (bit3 s) line n) k);
        pairs_is = ed ∙ ap₂ (extend s).plus h.pairs_is r ∙ sym (total_more (extend s) (pair_row s line n) k);
      }

  pub so_far_all : (k : ℕ) (a b c d z third : Ext K) → k ≡ n → SoFar k a b c d → z ≡ run (extend s) none n (items_of s line) → third ≡ (extend s).plus c d
      → record { zeroth = z; first = a; second = b; third = third } ≡ moments_of s line n
  so_far_all k a b c d z third end so_far e t =
      let h : SoFar n a b c d = subst (λ m. SoFar m a b c d) end so_far in
      sums_path (record { zeroth = z; first = a; second = b; third = third }) (moments_of s line n) e h.first_is h.second_is
      (t ∙ ap₂ (extend s).plus h.cubes_is h.pairs_is)
