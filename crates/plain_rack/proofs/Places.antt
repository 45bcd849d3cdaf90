-- What a change of the words, or of a switch and a row of words, does to what a plain rack means. Assumes nothing.
use Rattle.std.proofs.Common.{◌≡◌, ℕ, ◌+◌, ◌*◌, ◌^◌, ◌<◌, ◌≤◌, Bool, true, false, cond, ◌&&◌, eqb, leb, ltb, List, length, get_or, set, replicate, refl, arith, get_or-set_other, get_or-set_same}
use borrow.Rule.Slice.PartMut.{put_mid}
use lib.ListN.{get_or-replicate}
use Rattle.std.proofs.lemmas.Bool.Decides.{nat_tests}
use Rattle.std.proofs.lemmas.List.{places}
use Rattle.std.proofs.lemmas.Nat.{row_fits}
use Rattle.rack.specs.Meaning.{most_bays}
use Rattle.rack.specs.Calls.{with_word, with_bay}
use Rattle.rack.proofs.Laws.{same_meaning}
use Rattle.plain_rack.specs.Plain.{place_of, word_in, rack_of}
use Rattle.plain_rack.specs.Shape.{fresh}

-- The words of a bay end before those of a later bay begin, and those of the last bay before the end.
pub row_below : (lines a b : ℕ) → a < b → a * lines + lines ≤ b * lines
row_below lines a b h = row_fits a lines b lines h (omega arith)

pub place_within : (bays lines bay line : ℕ) → bay < bays → line < lines → place_of lines bay line < bays * lines
place_within bays lines bay line h k = omega (arith, row_below lines bay bays h)

-- Each bay and line has a place of its own.
place_test : (lines b l bay line : ℕ) → l < lines → line < lines → eqb (place_of lines b l) (place_of lines bay line) ≡ (eqb b bay && eqb l line)
place_test lines b l bay line h k = grind (arith, nat_tests, row_below lines b bay, row_below lines bay b)

-- The places of a bay's words are those of its row.
row_test : (lines b l bay : ℕ) → l < lines → (leb (bay * lines) (place_of lines b l) && ltb (place_of lines b l) (bay * lines + lines)) ≡ eqb b bay
row_test lines b l bay h = grind (arith, nat_tests, row_below lines b bay, row_below lines bay b)

-- What a list holds after one place is set.
get_or_set : {A : Type 0} (xs : List A) (i j : ℕ) (a d : A) → i < length xs → get_or (set xs i a) j d ≡ cond (eqb j i) a (get_or xs j d)
get_or_set xs i j a d h = grind (arith, nat_tests, places, get_or-set_same, get_or-set_other)

-- What a list holds after n places from one on are set to a.
get_or_filled : (xs : List ℕ) (from n k a : ℕ) → from + n ≤ length xs → get_or (put_mid from n xs (replicate n a)) k 0 ≡ cond (leb from k && ltb k (from + n)) a (get_or xs k 0)
get_or_filled xs from n k a h = grind (arith, nat_tests, places)

module _ (bays lines : ℕ) (ws : List ℕ) where
  pub all_on : bays ≤ most_bays → rack_of bays lines (replicate most_bays true) ws ≡ fresh bays lines ws
  all_on few = same_meaning (rack_of bays lines (replicate most_bays true) ws) (fresh bays lines ws) refl refl (λ b. grind (arith, nat_tests, get_or-replicate most_bays b true false)) (λ b l. refl)

module _ (bays lines : ℕ) (ss : List Bool) (ws : List ℕ) where
  pub set_word : (bay line w : ℕ) → bay < bays → line < lines → w < 2 ^ 16 → length ws ≡ bays * lines → rack_of bays lines ss (set ws (place_of lines bay line) w) ≡ with_word (rack_of bays lines ss ws) bay line w
  set_word bay line w h k small full =
      same_meaning (rack_of bays lines ss (set ws (place_of lines bay line) w)) (with_word (rack_of bays lines ss ws) bay line w) refl refl (λ b. refl) word_at
    where
      word_at : (b l : ℕ) → word_in bays lines (set ws (place_of lines bay line) w) b l ≡ cond (eqb b bay && eqb l line) w (word_in bays lines ws b l)
      word_at b l =
          let p : place_of lines bay line < length ws = omega (arith, place_within bays lines bay line h k) in
          grind (arith, nat_tests, get_or_set ws (place_of lines bay line) (place_of lines b l) w 0 p, place_test lines b l bay line)

  -- A bay that is switched on and holds v in each line.
  pub set_bay : (bay v : ℕ) → bay < bays → bays ≤ length ss → v < 2 ^ 16 → length ws ≡ bays * lines → rack_of bays lines (set ss bay true) (put_mid (place_of lines bay 0) lines ws (replicate lines v)) ≡ with_bay (rack_of bays lines ss ws) bay (λ l. v)
  set_bay bay v h k small full =
      same_meaning (rack_of bays lines (set ss bay true) (put_mid (place_of lines bay 0) lines ws (replicate lines v))) (with_bay (rack_of bays lines ss ws) bay (λ l. v)) refl refl switch_at word_at
    where
      switch_at : (b : ℕ) → (ltb b bays && get_or (set ss bay true) b false) ≡ cond (eqb b bay) true (ltb b bays && get_or ss b false)
      switch_at b = let p : bay < length ss = omega arith in grind (arith, nat_tests, get_or_set ss bay b true false p)

      word_at : (b l : ℕ) → word_in bays lines (put_mid (place_of lines bay 0) lines ws (replicate lines v)) b l ≡ cond (eqb b bay && ltb l lines) v (word_in bays lines ws b l)
      word_at b l =
          let end : place_of lines bay 0 + lines ≤ length ws = omega (arith, row_below lines bay bays h) in
          grind (arith, nat_tests, get_or_filled ws (place_of lines bay 0) lines (place_of lines b l) v end, row_test lines b l bay)
