-- What one step of a reader does to the rest of a round. Assumes nothing.
use Rattle.std.proofs.Common.{◌≡◌, ℕ, ◌+◌, ◌<◌, leb, ◌⊎◌, List, [], ◌∷◌, length, get_or, drop, Some, None, Option, Result, sym, refl, ap, ◌∙◌, subst, inl, inr, add-zero, arith, length-drop, length-take-le, get_or-drop, leb-true}
use Rattle.fault.specs.declared.fault.FileFault.{FileFault}
use Rattle.frame.specs.declared.frame.Frame.{Frame}
use Rattle.frame.specs.declared.reader.Reader.{Reader}
use Rattle.frame.specs.Format.{Whole, number, front, size}
use Rattle.frame.specs.Reading.{Answer as Heard, Step, step, taken, told, Steps, file_of, bytes_left}
use Rattle.frame.proofs.Fronts.{chosen, front_fits}
use Rattle.frame.specs.Laid.{Laid, ended}
use Rattle.frame.proofs.Laws.{Bytes, step_laid, step_ended}
use Rattle.round.specs.Replies.{end_of}

-- The length of a body is what the first two bytes say.
front_length : (bytes : List ℕ) (w : Whole) → front bytes ≡ Some w → length w.body ≡ number (get_or bytes 0 0) (get_or bytes 1 0)
front_length [] w e = absurd (grind arith)
front_length (x ∷ []) w e = absurd (grind arith)
front_length (x ∷ y ∷ []) w e = absurd (grind arith)
front_length (x ∷ y ∷ z ∷ []) w e = absurd (grind arith)
front_length (x ∷ y ∷ z ∷ v ∷ more) w e =
    let found = chosen (leb (number x y) (length more)) w _ e in
    sym (ap (λ (t : Whole). length t.body) found.1) ∙ length-take-le (number x y) more (leb-true (number x y) (length more) found.0)

module _ (offset after : ℕ) (bytes rest : List ℕ) (a : Heard) (same : after + length rest ≡ offset + length bytes) where
  place_found : (found : Option Whole) → found ≡ front bytes → record { answer = Some a; rest = rest } ≡ taken offset bytes found
      → (rest ≡ []) ⊎ (after ≡ offset + (4 + number (get_or bytes 0 0) (get_or bytes 1 0)))
  place_found None is e = inl (ap (λ (x : Step). x.rest) e)
  place_found (Some w) is e =
      let left : rest ≡ drop (size w) bytes = ap (λ (x : Step). x.rest) e in
      inr (omega (arith, same, ap length left, length-drop (size w) bytes, front_fits bytes w (sym is), front_length bytes w (sym is)))

place_after : (offset after : ℕ) (bytes rest : List ℕ) (a : Heard) → after + length rest ≡ offset + length bytes → record { answer = Some a; rest = rest } ≡ step offset bytes
    → (rest ≡ []) ⊎ (after ≡ offset + (4 + number (get_or bytes 0 0) (get_or bytes 1 0)))
place_after offset after [] rest a same e = let no : ◌≡◌ {A = Option Heard} (Some a) None = ap (λ (x : Step). x.answer) e in absurd (grind arith)
place_after offset after (x ∷ bytes) rest a same e = place_found offset after (x ∷ bytes) rest a same (front (x ∷ bytes)) refl e

module _ (s t : Reader) where
  same_end : file_of t ≡ file_of s → t.offset + length (bytes_left t) ≡ s.offset + length (bytes_left s)
  same_end same = omega (arith, length-drop t.offset (file_of t), length-drop s.offset (file_of s), ap length same, s.within, t.within)

  -- The next frame never begins before this one.
  pub onward : file_of t ≡ file_of s → length (bytes_left t) < length (bytes_left s) → s.offset < t.offset
  onward same less = omega (arith, same_end same, less)

  module _ (a : Result Frame FileFault) (one : Steps s (Some a) t) where
    pub reads_then : Bytes (file_of s) → (more : List Heard) → Laid t.offset (bytes_left t) more → Laid s.offset (bytes_left s) (told a ∷ more)
    reads_then small more l =
        let below : Bytes (bytes_left s) = λ i. subst (λ n. n < 256) (sym (get_or-drop s.offset (file_of s) i 0)) (small (s.offset + i)) in
        step_laid s.offset t.offset (bytes_left s) (bytes_left t) (told a) below (same_end one.0) one.1 more l

    pub reads_place : (bytes_left t ≡ []) ⊎ (t.offset ≡ end_of (file_of s) s.offset)
    reads_place =
        subst (λ n. (bytes_left t ≡ []) ⊎ (t.offset ≡ s.offset + (4 + n))) (λ i. number ((get_or-drop s.offset (file_of s) 0 0 ∙ ap (λ k. get_or (file_of s) k 0) (add-zero s.offset)) i) (get_or-drop s.offset (file_of s) 1 0 i))
        (place_after s.offset t.offset (bytes_left s) (bytes_left t) (told a) (same_end one.0) one.1)

  module _ (one : Steps s None t) where
    pub reads_end : Laid s.offset (bytes_left s) []
    reads_end = ended (step_ended s.offset (bytes_left s) (bytes_left t) one.1)

    -- At the end the reader stays.
    pub stays : t.offset ≡ s.offset
    stays =
        let none = step_ended s.offset (bytes_left s) (bytes_left t) one.1 in
        let left : bytes_left t ≡ [] = ap (λ (x : Step). x.rest) (one.1 ∙ ap (step s.offset) none) in
        omega (arith, same_end one.0, ap length none, ap length left)
