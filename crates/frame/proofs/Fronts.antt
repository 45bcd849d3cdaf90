-- The frame at the front of the bytes, by places, and what one step of reading leaves. Assumes nothing.
use Rattle.std.proofs.Common.{◌≡◌, ℕ, ◌+◌, ◌-◌, ◌<◌, ◌≤◌, Bool, true, false, cond, leb, List, [], ◌∷◌, length, get_or, take, drop, Some, None, Err, Option, sym, refl, ap, ◌∙◌, arith, length-take-le, le-leb, leb-true}
use Rattle.std.proofs.lemmas.Slice.{between_to_end}
use Rattle.std.specs.Option.{ok_or, option_map}
use Rattle.fault.specs.declared.fault.FileFault.{FileFault}
use Rattle.fault.specs.declared.fault.FileFault.TheVariants.{CutShort, BodyLength}
use Rattle.frame.specs.declared.frame.Frame.{Frame}
use Rattle.frame.specs.Format.{content, Whole, number, front, size, meant}
use Rattle.frame.specs.Reading.{Answer, step, taken, told}

-- The bytes from an offset to the end.
pub rest_of : (bytes : List ℕ) (offset : ℕ) → take (length bytes - offset) (drop offset bytes) ≡ drop offset bytes
rest_of bytes offset = between_to_end bytes offset (length bytes) (omega arith)

pub front_is : (bytes body : List ℕ) (n kind : ℕ) → 4 + n ≤ length bytes → n ≡ number (get_or bytes 0 0) (get_or bytes 1 0)
    → kind ≡ number (get_or bytes 2 0) (get_or bytes 3 0) → body ≡ take n (drop 4 bytes) → Some (record { kind = kind; body = body }) ≡ front bytes
front_is [] body n kind long e k b = absurd (omega arith)
front_is (x ∷ []) body n kind long e k b = absurd (omega arith)
front_is (x ∷ y ∷ []) body n kind long e k b = absurd (omega arith)
front_is (x ∷ y ∷ z ∷ []) body n kind long e k b = absurd (omega arith)
front_is (x ∷ y ∷ z ∷ w ∷ more) body n kind long e k b =
    let fits : leb (number x y) (length more) ≡ true = le-leb (number x y) (length more) (omega (arith, sym e)) in
    ap (λ (t : Whole). Some t) (λ i. record { kind = k i; body = (b ∙ ap (λ m. take m more) e) i })
    ∙ sym (ap (λ t. cond t (Some (record { kind = number z w; body = take (number x y) more })) None) fits)

pub chosen : (b : Bool) (w x : Whole) → cond b (Some x) None ≡ Some w → (b ≡ true) × (x ≡ w)
chosen true w x e = (refl, grind arith)
chosen false w x e = absurd (grind arith)

-- A whole frame lies inside the bytes.
pub front_fits : (bytes : List ℕ) (w : Whole) → front bytes ≡ Some w → size w ≤ length bytes
front_fits [] w e = absurd (grind arith)
front_fits (x ∷ []) w e = absurd (grind arith)
front_fits (x ∷ y ∷ []) w e = absurd (grind arith)
front_fits (x ∷ y ∷ z ∷ []) w e = absurd (grind arith)
front_fits (x ∷ y ∷ z ∷ v ∷ more) w e =
    let found = chosen (leb (number x y) (length more)) w _ e in
    let fits = leb-true (number x y) (length more) found.0 in
    let long = length-take-le (number x y) more fits in
    let same = ap (λ (t : Whole). length t.body) found.1 in
    omega arith

module _ (offset : ℕ) where
  -- Where a byte is left, a frame is answered.
  pub step_some : (bytes : List ℕ) → 0 < length bytes → step offset bytes ≡ taken offset bytes (front bytes)
  step_some [] some = absurd (omega arith)
  step_some (x ∷ bytes) some = refl

  pub step_none : (bytes rest : List ℕ) → length bytes ≡ 0 → rest ≡ bytes → record { answer = None; rest = rest } ≡ step offset bytes
  step_none [] rest none e = ap (λ (r : List ℕ). record { answer = None; rest = r }) e
  step_none (x ∷ bytes) rest none e = absurd (omega arith)

  pub step_cut : (bytes rest : List ℕ) → 0 < length bytes → None ≡ front bytes → rest ≡ [] → record { answer = Some (Err (CutShort offset)); rest = rest } ≡ step offset bytes
  step_cut bytes rest some cut e =
      ap (λ (r : List ℕ). record { answer = Some (Err (CutShort offset)); rest = r }) e ∙ ap (taken offset bytes) cut ∙ sym (step_some bytes some)

  pub step_whole : (bytes rest : List ℕ) (w : Whole) (a : Answer) → 0 < length bytes → Some w ≡ front bytes → a ≡ ok_or (meant w.kind w.body) (BodyLength offset) → rest ≡ drop (size w) bytes
      → record { answer = Some a; rest = rest } ≡ step offset bytes
  step_whole bytes rest w a some whole said e =
      (λ i. record { answer = Some (said i); rest = e i }) ∙ ap (taken offset bytes) whole ∙ sym (step_some bytes some)

pub told_okOr : (o : Option Frame) (e : FileFault) → told (ok_or o e) ≡ ok_or (option_map content o) e
told_okOr None e = refl
told_okOr (Some f) e = refl
