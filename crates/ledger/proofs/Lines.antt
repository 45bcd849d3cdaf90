-- The posted lines: they are lines of counts, the words of their codewords are count words, and the line that is restored
-- from bays that hold words of such a line is that line. Assumes nothing.
use Rattle.std.proofs.Common.{◌≡◌, ℕ, zero, suc, ◌+◌, ◌-◌, ◌*◌, ◌%◌, ◌<◌, ◌≤◌, Bool, true, not, List, length, get_or, set, sym, refl, ap, ◌∙◌, inl, inr, mod-eq_of_lt, arith, length-set, get_or-set_other, get_or-set_same, ext_get_or}
use Rattle.std.proofs.lemmas.Bool.{cases_eq, cases_lt, not-false, and_parts}
use Rattle.field.specs.Structure.{Structure, size}
use Rattle.extension.specs.Extend.{extend}
use Rattle.extension.proofs.Parts.{order_is}
use Rattle.codeword.specs.Sums.{count, power}
use Rattle.codeword.specs.Codeword.{words, element, point, check, codeword, Line}
use Rattle.codeword.proofs.Sums.{total_zero}
use Rattle.ring2.proofs.Laws.{zero_times}
use Rattle.distance.proofs.Syndromes.{codeword_item, codeword_check}
use Rattle.distance.proofs.Theorem.{one_at_most}
use Rattle.worksheet.specs.Present.{highest}
use Rattle.worksheet.specs.Lines.{RestoredLine}
use Rattle.worksheet.proofs.Highest.{count_others, count_highest}
use Rattle.rules.specs.Known.{put}
use Rattle.ledger.specs.Ledger.{Ledger}
use Rattle.ledger.specs.Stands.{row, posted, Sound}
use Rattle.rules.proofs.Knowing.{put_same, put_other}

pub length_row : (f : ℕ → ℕ) (n : ℕ) → length (row f n) ≡ n
unfolding row
length_row f zero = refl
length_row f (suc n) = ap suc (length_row (λ i. f (suc i)) n)

pub get_or_row : (f : ℕ → ℕ) (n i : ℕ) → i < n → get_or (row f n) i 0 ≡ f i
unfolding row
get_or_row f zero i h = absurd (omega arith)
get_or_row f (suc n) zero h = refl
get_or_row f (suc n) (suc i) h = get_or_row (λ j. f (suc j)) n i (omega arith)

-- a list of n numbers that has f i at place i
pub is_row : (f : ℕ → ℕ) (n : ℕ) (items : List ℕ) → length items ≡ n → ((i : ℕ) → i < n → get_or items i 0 ≡ f i) → items ≡ row f n
is_row f n items long at =
    ext_get_or 0 items (row f n) (long ∙ sym (length_row f n)) (λ i h. at i (omega arith) ∙ sym (get_or_row f n i (omega arith)))

pub row_ext : (f g : ℕ → ℕ) (n : ℕ) → ((i : ℕ) → i < n → f i ≡ g i) → row f n ≡ row g n
row_ext f g n same = is_row g n (row f n) (length_row f n) (λ i h. get_or_row f n i h ∙ same i h)

pub set_row : (f : ℕ → ℕ) (n i w : ℕ) → i < n → set (row f n) i w ≡ row (put f i w) n
set_row f n i w h = is_row (put f i w) n (set (row f n) i w) (length-set (row f n) i w ∙ length_row f n) (λ j k.
    elim (cases_eq j i) [
      | inl e ↦ rw e (get_or-set_same (row f n) i w 0 (rw (length_row f n) h) ∙ sym (put_same f i w))
      | inr d ↦ get_or-set_other (row f n) i j w 0 d ∙ get_or_row f n j k ∙ sym (put_other f i w j d)
    ])

pub posted_item : (l : Ledger) (item line : ℕ) → item < l.items → get_or (posted l line) item 0 ≡ l.count item line
posted_item l item line h = get_or_row (λ i. l.count i line) l.items item h

module _ {K : Type 0} (s : Structure K) where
  pub codeword_small : (n : ℕ) (items : List ℕ) → Line s n items → (bay : ℕ) → bay < n + 4 → get_or (codeword s items) bay 0 < words s
  codeword_small n items line bay h =
      elim (cases_lt bay 4) [
        | inl low ↦ rw (codeword_check s items bay low) ((extend s).value_lt (check s items bay))
        | inr high ↦
            let e : bay ≡ bay - 4 + 4 = omega arith in
            let item : get_or (codeword s items) bay 0 ≡ get_or items (bay - 4) 0 = ap (λ b. get_or (codeword s items) b 0) e ∙ codeword_item s items (bay - 4) in
            rw item (line.small (bay - 4) (omega arith))
      ]

  -- the codeword of a line of zeros is all zeros
  pub codeword_zeros : (n bay : ℕ) → bay < n + 4 → get_or (codeword s (row (λ _. 0) n)) bay 0 ≡ 0
  codeword_zeros n bay h =
      elim (cases_lt bay 4) [
        | inl low ↦
            codeword_check s (row (λ _. 0) n) bay low
            ∙ ap (extend s).value (total_zero (extend s) (λ i. (extend s).times (element s (get_or (row (λ _. 0) n) i 0)) (power (extend s) (point s i) bay)) (length (row (λ _. 0) n)) none)
            ∙ (extend s).value_zero
        | inr high ↦
            let e : bay ≡ bay - 4 + 4 = omega arith in
            ap (λ b. get_or (codeword s (row (λ _. 0) n)) b 0) e ∙ codeword_item s (row (λ _. 0) n) (bay - 4) ∙ get_or_row (λ _. 0) n (bay - 4) (omega arith)
      ]
    where
      zero_of : element s 0 ≡ (extend s).zero
      zero_of = ap (extend s).of (sym (extend s).value_zero) ∙ (extend s).of_value (extend s).zero

      none : (i : ℕ) → i < length (row (λ _. 0) n) → (extend s).times (element s (get_or (row (λ _. 0) n) i 0)) (power (extend s) (point s i) bay) ≡ (extend s).zero
      none i k =
          ap (λ w. (extend s).times (element s w) (power (extend s) (point s i) bay)) (get_or_row (λ _. 0) n i (rw (length_row (λ _. 0) n) at k))
          ∙ ap (λ x. (extend s).times x (power (extend s) (point s i) bay)) zero_of
          ∙ zero_times (extend s).ring (power (extend s) (point s i) bay)

  -- the words of two lines are the same in the bay of an item, where their counts are
  pub codeword_same : (a b : List ℕ) (bay : ℕ) → 4 ≤ bay → get_or a (bay - 4) 0 ≡ get_or b (bay - 4) 0 → get_or (codeword s a) bay 0 ≡ get_or (codeword s b) bay 0
  codeword_same a b bay high same =
      let e : bay ≡ bay - 4 + 4 = omega arith in
      ap (λ j. get_or (codeword s a) j 0) e ∙ codeword_item s a (bay - 4) ∙ same ∙ sym (ap (λ j. get_or (codeword s b) j 0) e ∙ codeword_item s b (bay - 4))

  -- The bays that pass hold words of a line, and at most four do not pass: then the line that is restored is that line.
  pub restored_is : (n : ℕ) → n ≤ size s → (here : ℕ → Bool) (word : ℕ → ℕ) → count (λ bay. not (here bay)) (n + 4) ≤ 4 → (line items : List ℕ) → Line s n line
      → ((bay : ℕ) → bay < n + 4 → here bay ≡ true → word bay ≡ get_or (codeword s line) bay 0) → RestoredLine s n here word items → items ≡ line
  restored_is n fits here word few line items is-line holds restored =
      let all : count (λ bay. not (here bay)) (n + 4) + count here (n + 4) ≡ n + 4 = count_others (λ bay. not (here bay)) here (n + 4) (λ i _. refl) in
      let four : count (λ bay. not (highest n here bay)) (n + 4) + count (highest n here) (n + 4) ≡ n + 4
      = count_others (λ bay. not (highest n here bay)) (highest n here) (n + 4) (λ i _. refl) in
      let many : count (highest n here) (n + 4) ≡ count here (n + 4) - (count here (n + 4) - n) = count_highest n here (n + 4) (omega arith) in
      one_at_most s n fits (λ bay. not (highest n here bay)) (omega arith) (codeword s line) items line restored.line is-line
      (λ bay h e.
      let high : highest n here bay ≡ true = not-false (highest n here bay) e in
      restored.fits bay h high ∙ holds bay h (and_parts _ _ high).0)
      (λ bay h e. refl)

  module _ (l : Ledger) (sound : Sound s l) where
    pub square : l.size * l.size ≡ words s
    square = ap (λ q. q * q) sound.field ∙ order_is s

    pub posted_line : (line : ℕ) → Line s l.items (posted l line)
    posted_line line = record {
      long = length_row (λ item. l.count item line) l.items;
      small = λ i h. rw (get_or_row (λ item. l.count item line) l.items i h, ← square) (sound.small i line);
    }

    pub posted_small : (line bay : ℕ) → bay < l.items + 4 → get_or (codeword s (posted l line)) bay 0 % words s ≡ get_or (codeword s (posted l line)) bay 0
    posted_small line bay h = mod-eq_of_lt (codeword_small l.items (posted l line) (posted_line line) bay h)
