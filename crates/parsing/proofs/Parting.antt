-- Bytes parted at a mark, and what has no mark. Assumes nothing.
use Rattle.std.proofs.Common.{◌≡◌, ℕ, zero, suc, ◌+◌, ◌<◌, ◌≤◌, Bool, true, false, cond, not, ◌&&◌, eqb, leb, ltb, List, [], ◌∷◌, ◌++◌, length, get_or, take, drop, Some, None, Option, sym, refl, ap, ◌∙◌, add-one, arith}
use Rattle.std.proofs.lemmas.List.Quantifiers.{position-Some}
use Rattle.std.proofs.lemmas.List.Sums.{fails_before_first}
use Rattle.std.proofs.lemmas.Bool.Decides.{nat_tests}
use Rattle.std.specs.List.{position, position_or_len}
use Rattle.parsing.specs.Splits.{front_of, back_of, behind}

-- No byte is the mark.
abbrev pub clear : ℕ → List ℕ → Bool
clear mark [] = true
clear mark (byte ∷ bytes) = not (eqb byte mark) && clear mark bytes

itself : (n : ℕ) → eqb n n ≡ true
itself n = grind (arith, nat_tests)

module _ (mark : ℕ) where
  -- The parts are the whole again.
  pub parts_whole : (bytes : List ℕ) → bytes ≡ front_of mark bytes ++ behind mark (back_of mark bytes)
  parts_whole [] = refl
  parts_whole (byte ∷ bytes) = by (eqb byte mark) refl (parts_whole bytes)
    where
      by : (b : Bool) → eqb byte mark ≡ b → bytes ≡ front_of mark bytes ++ behind mark (back_of mark bytes) → byte ∷ bytes ≡ cond b [] (byte ∷ front_of mark bytes) ++ behind mark (cond b (Some bytes) (back_of mark bytes))
      by true e more = let same : byte ≡ mark = grind (arith, nat_tests) in ap (λ n. n ∷ bytes) same
      by false e more = ap (λ (l : List ℕ). byte ∷ l) more

  -- What has no mark is the front of whatever it is followed by.
  pub front_clear : (bytes : List ℕ) (rest : Option (List ℕ)) → clear mark bytes ≡ true → front_of mark (bytes ++ behind mark rest) ≡ bytes
  front_clear [] None e = refl
  front_clear [] (Some rest) e = ap (λ b. cond b [] (mark ∷ front_of mark rest)) (itself mark)
  front_clear (byte ∷ bytes) rest e = by (eqb byte mark) (front_clear bytes rest) e
    where
      by : (b : Bool) → (clear mark bytes ≡ true → front_of mark (bytes ++ behind mark rest) ≡ bytes) → (not b && clear mark bytes) ≡ true → cond b [] (byte ∷ front_of mark (bytes ++ behind mark rest)) ≡ byte ∷ bytes
      by true more h = absurd (grind arith)
      by false more h = ap (λ (l : List ℕ). byte ∷ l) (more h)

  pub back_clear : (bytes : List ℕ) (rest : Option (List ℕ)) → clear mark bytes ≡ true → back_of mark (bytes ++ behind mark rest) ≡ rest
  back_clear [] None e = refl
  back_clear [] (Some rest) e = ap (λ b. cond b (Some rest) (back_of mark rest)) (itself mark)
  back_clear (byte ∷ bytes) rest e = by (eqb byte mark) (back_clear bytes rest) e
    where
      by : (b : Bool) → (clear mark bytes ≡ true → back_of mark (bytes ++ behind mark rest) ≡ rest) → (not b && clear mark bytes) ≡ true → cond b (Some (bytes ++ behind mark rest)) (back_of mark (bytes ++ behind mark rest)) ≡ rest
      by true more h = absurd (grind arith)
      by false more h = more h

  abbrev pub is_mark : ℕ → Bool
  is_mark byte = eqb byte mark

  -- The first mark parts the bytes, and where there is none, they stay whole.
  parted : (bytes : List ℕ) (i : ℕ) → i < length bytes → is_mark (get_or bytes i 0) ≡ true → ((k : ℕ) → k < i → is_mark (get_or bytes k 0) ≡ false)
      → (take i bytes ≡ front_of mark bytes) × (Some (drop (suc i) bytes) ≡ back_of mark bytes)
  parted [] i h e none = absurd (omega arith)
  parted (byte ∷ bytes) zero h e none = (sym (ap (λ b. cond b [] (byte ∷ front_of mark bytes)) e), sym (ap (λ b. cond b (Some bytes) (back_of mark bytes)) e))
  parted (byte ∷ bytes) (suc i) h e none =
      let first = none 0 (omega arith) in
      let more = parted bytes i (omega arith) e (λ k below. none (suc k) (omega arith)) in (
        ap (λ (l : List ℕ). byte ∷ l) more.0 ∙ sym (ap (λ b. cond b [] (byte ∷ front_of mark bytes)) first),
        more.1 ∙ sym (ap (λ b. cond b (Some bytes) (back_of mark bytes)) first),
      )

  unparted : (bytes : List ℕ) → ((k : ℕ) → k < length bytes → is_mark (get_or bytes k 0) ≡ false) → (bytes ≡ front_of mark bytes) × (None ≡ back_of mark bytes)
  unparted [] none = (refl, refl)
  unparted (byte ∷ bytes) none =
      let first = none 0 (omega arith) in
      let more = unparted bytes (λ k below. none (suc k) (omega arith)) in (
        ap (λ (l : List ℕ). byte ∷ l) more.0 ∙ sym (ap (λ b. cond b [] (byte ∷ front_of mark bytes)) first),
        more.1 ∙ sym (ap (λ b. cond b (Some bytes) (back_of mark bytes)) first),
      )

  past_end : (n long : ℕ) → cond (ltb n long) (Some n) None ≡ None → long ≤ n
  past_end n long e = grind (arith, nat_tests)

  -- What `position` finds.
  pub parted_at : (bytes : List ℕ) (i : ℕ) → position is_mark bytes ≡ Some i → (take i bytes ≡ front_of mark bytes) × (Some (drop (i + 1) bytes) ≡ back_of mark bytes)
  parted_at bytes i e =
      let found = position-Some is_mark bytes i 0 e in
      let p = parted bytes i found.0 found.1 found.2 in
      (p.0, ap (λ k. Some (drop k bytes)) (add-one i) ∙ p.1)

  pub parted_nowhere : (bytes : List ℕ) → position is_mark bytes ≡ None → (bytes ≡ front_of mark bytes) × (None ≡ back_of mark bytes)
  parted_nowhere bytes e =
      let past = past_end (position_or_len is_mark bytes) (length bytes) e in
      unparted bytes (λ k below. fails_before_first is_mark bytes k 0 (omega (arith, past, below)))

module _ (low high : ℕ) where
  pub within_first : (byte : ℕ) (more : Bool) → ((leb low byte && leb byte high) && more) ≡ true → (low ≤ byte) × (byte ≤ high) × (more ≡ true)
  within_first byte more e = grind (arith, nat_tests)
