-- How many items of a list pass a test, as a count of numbers. Assumes nothing.
use Rattle.std.proofs.Common.{◌≡◌, ℕ, zero, suc, ◌+◌, ◌≤◌, ◌-◌, min, Bool, false, List, length, get_or, take, sym, ap, ◌∙◌, inl, inr, arith}
use Rattle.std.proofs.Math.Nat.{min-le_right, min-eq_left, min-eq_right}
use Rattle.std.proofs.Math.Seq.{take-length}
use Rattle.std.proofs.lemmas.List.{get_or_past}
use Rattle.std.specs.List.{range_with_len, count_by}
use Rattle.std.proofs.lemmas.Bool.{cases_Bool, cases_lt}
use Rattle.std.proofs.lemmas.List.Sums.{count_by_more_yes, count_by_more_no}
use Rattle.std.proofs.lemmas.List.FromFn.{length-range_with_len, get_or-range_with_len}
use Rattle.codeword.specs.Sums.{count}
use Rattle.worksheet.specs.Lines.{marked}
use Rattle.codeword.proofs.Counts.{count_none, count_skip, count_take, count_ext}

-- of the first n items
pub count_of_items : {X : Type 0} (p : X → Bool) (xs : List X) (d : X) (n : ℕ) → n ≤ length xs → count_by p (take n xs) ≡ count (λ i. p (get_or xs i d)) n
count_of_items p xs d zero h = sym (count_none (λ i. p (get_or xs i d)))
count_of_items p xs d (suc n) h =
    let test = λ (i : ℕ). p (get_or xs i d) in
    let so = count_of_items p xs d n (omega arith) in
    let more : suc n ≡ n + 1 = omega arith in
    rw more (elim (cases_Bool (test n)) [
      | inl on ↦ count_by_more_yes p xs n d (omega arith) on ∙ ap (λ k. k + 1) so ∙ sym (count_take test n on)
      | inr off ↦ count_by_more_no p xs n d (omega arith) off ∙ so ∙ sym (count_skip test n off)
    ])

-- where no number from m on passes, none is counted from there
pub count_beyond : (test : ℕ → Bool) (m k : ℕ) → ((i : ℕ) → m ≤ i → test i ≡ false) → count test (m + k) ≡ count test m
count_beyond test m zero none = ap (count test) (omega arith)
count_beyond test m (suc k) none =
    let more : m + suc k ≡ (m + k) + 1 = omega arith in
    ap (count test) more ∙ count_skip test (m + k) (none (m + k) (omega arith)) ∙ count_beyond test m k none

-- of the first n marks of a set, or of all of them where there are fewer
pub marks_counted : (marks : List Bool) (n : ℕ) → count_by (λ b. b) (take (min n (length marks)) marks) ≡ count (marked marks) n
marks_counted marks n =
    let least = min n (length marks) in
    let first = count_of_items (λ b. b) marks false least (min-le_right n (length marks)) in
    elim (cases_lt n (length marks)) [
      | inl few ↦ first ∙ ap (count (marked marks)) (min-eq_left (omega (arith, few)))
      | inr many ↦
          let all : least ≡ length marks = min-eq_right (omega (arith, many)) in
          let rest : length marks + (n - length marks) ≡ n = omega (arith, many) in
          first ∙ ap (count (marked marks)) all
          ∙ sym (ap (count (marked marks)) (sym rest) ∙ count_beyond (marked marks) (length marks) (n - length marks) (λ i h. get_or_past marks i false h))
    ]

-- of the first n numbers
pub count_of_numbers : (p : ℕ → Bool) (n : ℕ) → count_by p (range_with_len 0 n) ≡ count p n
count_of_numbers p n =
    let numbers = range_with_len 0 n in
    let long : length numbers ≡ n = length-range_with_len 0 n in
    ap (count_by p) (sym (take-length numbers)) ∙ ap (λ k. count_by p (take k numbers)) long ∙ count_of_items p numbers 0 n (omega arith)
    ∙ count_ext (λ i. p (get_or numbers i 0)) p n (λ i h. ap p (get_or-range_with_len 0 n i 0 h ∙ omega arith))
