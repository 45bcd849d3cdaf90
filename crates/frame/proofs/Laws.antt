-- What is written is read back, and what is read was laid end to end. Assumes nothing.
use Rattle.std.proofs.Common.{◌≡◌, ℕ, ◌+◌, ◌/◌, ◌%◌, ◌<◌, true, leb, List, [], ◌∷◌, ◌++◌, length, get_or, take, drop, Some, None, Ok, Err, Option, Result, sym, refl, ap, ◌∙◌, subst, subst₂, append_assoc, append-nil, arith, length-append, length-drop, take-append-drop, length-take-le, get_or-drop, leb-true}
use Rattle.std.proofs.lemmas.List.{take_at, drop_at, drop-drop}
use Rattle.std.proofs.lemmas.Bool.Decides.{nat_tests}
use Rattle.std.specs.Option.{ok_or, option_map}
use Rattle.fault.specs.declared.fault.FileFault.{FileFault}
use Rattle.fault.specs.declared.fault.FileFault.TheVariants.{CutShort, BodyLength}
use Rattle.call.specs.declared.Call.TheVariants.{Post, Get, Off, On, Release, Seat, Mend}
use Rattle.frame.specs.declared.frame.Frame.{Frame}
use Rattle.frame.specs.declared.reader.Reader.{Reader}
use Rattle.frame.specs.Format.{Content, start, call, note, unknown, Whole, number, two, front, framed, size, meant, kind_of, body_of, bytes_of, proper}
use Rattle.frame.specs.Reading.{Answer, Step, step, taken, told, Steps, file_of}
use Rattle.frame.specs.Laid.{Cut, Laid, ended, cut, frame, Answered}
use Rattle.frame.specs.Writing.{ReadsBack}
use Rattle.frame.proofs.Fronts.{chosen, front_is, front_fits, step_whole}

number_two : (n : ℕ) → number (n % 256) (n / 256) ≡ n
number_two n = omega arith

module _ (kind : ℕ) (body rest : List ℕ) where
  front_framed : Some (record { kind = kind; body = body }) ≡ front (framed kind body ++ rest)
  front_framed =
      front_is (framed kind body ++ rest) body (length body) kind (omega (arith, length-append body rest))
      (sym (number_two (length body))) (sym (number_two kind)) (sym (take_at body rest _ refl))

  rest_framed : rest ≡ drop (4 + length body) (framed kind body ++ rest)
  rest_framed = sym (drop_at body rest _ refl) ∙ drop-drop (length body) 4 (framed kind body ++ rest)

-- What a frame says is what was to be said.
pub meant_back : (c : Content) → proper c ≡ true → Some c ≡ meant (kind_of c) (body_of c)
meant_back (start items lines field) p = sym (λ i. Some (start (number_two items i) (number_two lines i) (number_two field i)))
meant_back (call (Post item line word)) p = sym (λ i. Some (call (Post (number_two item i) (number_two line i) (number_two word i))))
meant_back (call (Get item line)) p = sym (λ i. Some (call (Get (number_two item i) (number_two line i))))
meant_back (call (Off bay)) p = ap (λ b. Some (call (Off b))) (sym (number_two bay))
meant_back (call (On bay)) p = ap (λ b. Some (call (On b))) (sym (number_two bay))
meant_back (call (Release bay)) p = ap (λ b. Some (call (Release b))) (sym (number_two bay))
meant_back (call Seat) p = refl
meant_back (call (Mend bay)) p = ap (λ b. Some (call (Mend b))) (sym (number_two bay))
meant_back (note text) p = grind (arith, nat_tests)
meant_back (unknown kind body) p = grind (arith, nat_tests)

pub reads_back : (c : Content) → proper c ≡ true → ReadsBack c (bytes_of c)
reads_back c p offset rest =
    let w : Whole = record { kind = kind_of c; body = body_of c } in
    sym (step_whole offset (bytes_of c ++ rest) rest w (Ok c) (omega arith) (front_framed (kind_of c) (body_of c) rest)
    (ap (λ o. ok_or o (BodyLength offset)) (meant_back c p)) (rest_framed (kind_of c) (body_of c) rest))

-- What `encode` promises of a frame's bytes.
pub written_back : (c : Content) (v : List ℕ) → proper c ≡ true → v ≡ bytes_of c → ReadsBack c v
written_back c v p e = subst (ReadsBack c) (sym e) (reads_back c p)

-- A byte is below 256.
abbrev pub Bytes : List ℕ → Type 0
Bytes bs = (i : ℕ) → get_or bs i 0 < 256

two_number : (low high : ℕ) → low < 256 → two (number low high) ≡ low ∷ high ∷ []
two_number low high small = λ i. (remainder i) ∷ (quotient i) ∷ []
  where
    remainder : number low high % 256 ≡ low
    remainder = omega arith

    quotient : number low high / 256 ≡ high
    quotient = omega arith

-- A frame that was read stands at the front of the bytes as it would be written.
front_laid : (bytes : List ℕ) (w : Whole) → Bytes bytes → Some w ≡ front bytes → bytes ≡ framed w.kind w.body ++ drop (size w) bytes
front_laid [] w small e = absurd (grind arith)
front_laid (x ∷ []) w small e = absurd (grind arith)
front_laid (x ∷ y ∷ []) w small e = absurd (grind arith)
front_laid (x ∷ y ∷ z ∷ []) w small e = absurd (grind arith)
front_laid (x ∷ y ∷ z ∷ v ∷ more) w small e =
    let found = chosen (leb (number x y) (length more)) w _ (sym e) in
    let fits = leb-true (number x y) (length more) found.0 in
    let n = number x y in
    let whole : Whole = record { kind = number z v; body = take n more } in
    let long : length (take n more) ≡ n = length-take-le n more fits in
    let head : framed (number z v) (take n more) ≡ x ∷ y ∷ z ∷ v ∷ take n more =
    (λ i. (two (long i) ++ (two (number z v) ++ take n more)))
    ∙ (λ i. two_number x y (small 0) i ++ (two_number z v (small 2) i ++ take n more)) in
    let tail : drop (size whole) (x ∷ y ∷ z ∷ v ∷ more) ≡ drop n more =
    ap (λ k. drop (4 + k) (x ∷ y ∷ z ∷ v ∷ more)) long ∙ sym (drop-drop n 4 (x ∷ y ∷ z ∷ v ∷ more)) in
    subst (λ (t : Whole). x ∷ y ∷ z ∷ v ∷ more ≡ framed t.kind t.body ++ drop (size t) (x ∷ y ∷ z ∷ v ∷ more)) found.1
    (sym ((λ i. head i ++ tail i) ∙ ap (λ (l : List ℕ). x ∷ y ∷ z ∷ v ∷ l) (take-append-drop n more)))

-- Where there is no whole frame, none stands there.
none_laid : (bytes : List ℕ) → (bytes ≡ [] → ⊥) → None ≡ front bytes → Cut bytes
none_laid bytes some e = record { some = some; short = λ kind body rest same. absurd (clash kind body rest same) }
  where
    clash : (kind : ℕ) (body rest : List ℕ) → bytes ≡ framed kind body ++ rest → ⊥
    clash kind body rest same =
        let both : ◌≡◌ {A = Option Whole} (Some (record { kind = kind; body = body })) None = front_framed kind body rest ∙ ap front (sym same) ∙ sym e in
        grind arith

pub laid_none : {offset : ℕ} {bytes : List ℕ} {xs : List Answer} → Laid offset bytes xs → bytes ≡ [] → xs ≡ []
laid_none (ended e) h = refl
laid_none (cut c) h = absurd (c.some h)
laid_none (frame kind body rest e l) h = let both : framed kind body ++ rest ≡ [] = sym e ∙ h in absurd (grind arith)

-- One frame can stand at the front in one way.
module _ (kind kind' : ℕ) (body body' rest rest' : List ℕ) (same : framed kind' body' ++ rest' ≡ framed kind body ++ rest) where
  frame_same : ◌≡◌ {A = Whole} (record { kind = kind'; body = body' }) (record { kind = kind; body = body })
  frame_same =
      let both : ◌≡◌ {A = Option Whole} (Some (record { kind = kind'; body = body' })) (Some (record { kind = kind; body = body })) =
      front_framed kind' body' rest' ∙ ap front same ∙ sym (front_framed kind body rest) in
      cc

  rest_same : rest' ≡ rest
  rest_same = rest_framed kind' body' rest' ∙ (λ i. drop (size (frame_same i)) (same i)) ∙ sym (rest_framed kind body rest)

  answers_same : (offset : ℕ) {xs ys : List Answer} → (Laid (offset + length (framed kind body)) rest ys → ys ≡ xs) → Laid (offset + length (framed kind' body')) rest' ys
      → ok_or (meant kind' body') (BodyLength offset) ∷ ys ≡ ok_or (meant kind body) (BodyLength offset) ∷ xs
  answers_same offset {xs} {ys} more laid =
      let rests = more (subst₂ (λ (w : Whole) (r : List ℕ). Laid (offset + length (framed w.kind w.body)) r ys) frame_same rest_same laid) in
      λ i. ok_or (meant (frame_same i).kind (frame_same i).body) (BodyLength offset) ∷ rests i

-- The answers are fixed by the bytes.
pub laid_same : {offset : ℕ} {bytes : List ℕ} {xs ys : List Answer} → Laid offset bytes xs → Laid offset bytes ys → ys ≡ xs
laid_same (ended e) l = laid_none l e
laid_same (cut c) (ended e) = absurd (c.some e)
laid_same (cut c) (cut d) = refl
laid_same (cut c) (frame kind body rest e l) = absurd (c.short kind body rest e)
laid_same (frame kind body rest e l) (ended f) = let both : framed kind body ++ rest ≡ [] = sym e ∙ f in absurd (grind arith)
laid_same (frame kind body rest e l) (cut c) = absurd (c.short kind body rest e)
laid_same {offset} (frame kind body rest e l) (frame kind' body' rest' e' l') =
    answers_same kind kind' body body' rest rest' (sym e' ∙ e) offset (laid_same l) l'

-- One step laid one frame more: `next` is where the bytes that it left begin.
module _ (offset next : ℕ) (bytes rest : List ℕ) (a : Answer) (small : Bytes bytes) (place : next + length rest ≡ offset + length bytes) (more : List Answer) (laid : Laid next rest more) where
  laid_frame : (found : Option Whole) → found ≡ front bytes → (bytes ≡ [] → ⊥) → record { answer = Some a; rest = rest } ≡ taken offset bytes found → Laid offset bytes (a ∷ more)
  laid_frame None is some e =
      let answer : ◌≡◌ {A = Option Answer} (Some a) (Some (Err (CutShort offset))) = ap (λ (x : Step). x.answer) e in
      let said : a ≡ Err (CutShort offset) = cc in
      let none : rest ≡ [] = ap (λ (x : Step). x.rest) e in
      rw (said, laid_none laid none) (cut (none_laid bytes some is))
  laid_frame (Some w) is some e =
      let answer : ◌≡◌ {A = Option Answer} (Some a) (Some (ok_or (meant w.kind w.body) (BodyLength offset))) = ap (λ (x : Step). x.answer) e in
      let said : a ≡ ok_or (meant w.kind w.body) (BodyLength offset) = cc in
      let left : rest ≡ drop (size w) bytes = ap (λ (x : Step). x.rest) e in
      let fits = front_fits bytes w (sym is) in
      let here : next ≡ offset + length (framed w.kind w.body) = omega (arith, place, ap length left, length-drop (size w) bytes, fits) in
      rw said (frame w.kind w.body rest (front_laid bytes w small is ∙ ap (λ l. framed w.kind w.body ++ l) (sym left)) (subst (λ n. Laid n rest more) here laid))

pub step_laid : (offset next : ℕ) (bytes rest : List ℕ) (a : Answer) → Bytes bytes → next + length rest ≡ offset + length bytes → record { answer = Some a; rest = rest } ≡ step offset bytes
    → (more : List Answer) → Laid next rest more → Laid offset bytes (a ∷ more)
step_laid offset next [] rest a small place e more laid = let no : ◌≡◌ {A = Option Answer} (Some a) None = ap (λ (x : Step). x.answer) e in absurd (grind arith)
step_laid offset next (x ∷ bytes) rest a small place e more laid =
    laid_frame offset next (x ∷ bytes) rest a small place more laid (front (x ∷ bytes)) refl (λ f. let no : ◌≡◌ {A = ℕ} 0 1 = cc in omega arith) e

answers_some : (offset : ℕ) (bytes : List ℕ) (found : Option Whole) → (taken offset bytes found).answer ≡ None → ⊥
answers_some offset bytes None e = grind arith
answers_some offset bytes (Some w) e = grind arith

pub step_ended : (offset : ℕ) (bytes rest : List ℕ) → record { answer = None; rest = rest } ≡ step offset bytes → bytes ≡ []
step_ended offset [] rest e = refl
step_ended offset (x ∷ bytes) rest e = absurd (answers_some offset (x ∷ bytes) (front (x ∷ bytes)) (sym (ap (λ (s : Step). s.answer) e)))

-- A reader of the file that has given the answers so far: the answers that are still to come make them whole.
pub record Sofar (file : List ℕ) (seen : List Answer) (s : Reader) : Type 0 where
  pub here : file_of s ≡ file
  pub front : (more : List Answer) → Laid s.offset (drop s.offset file) more → Laid 0 file (seen ++ more)

pub sofar_none : (file : List ℕ) (s : Reader) → file_of s ≡ file → s.offset ≡ 0 → Sofar file [] s
sofar_none file s here zeroth =
    let all : drop s.offset file ≡ file = ap (λ k. drop k file) zeroth in
    record { here = here; front = λ more l. subst₂ (λ k bytes. Laid k bytes more) zeroth all l }

module _ {file : List ℕ} {seen : List Answer} {s : Reader} (t : Reader) (sofar : Sofar file seen s) where
  step_here : (r : Option (Result Frame FileFault)) → Steps s r t → record { answer = option_map told r; rest = drop t.offset file } ≡ step s.offset (drop s.offset file)
  step_here r one =
      sym (ap (λ f. record { answer = option_map told r; rest = drop t.offset f }) (one.0 ∙ sofar.here))
      ∙ one.1 ∙ ap (λ f. step s.offset (drop s.offset f)) sofar.here

  pub sofar_more : Bytes file → (a : Result Frame FileFault) → Steps s (Some a) t → Sofar file (seen ++ (told a ∷ [])) t
  sofar_more small a one =
      let bytes = drop s.offset file in
      let rest = drop t.offset file in
      let here : file_of t ≡ file = one.0 ∙ sofar.here in
      let below : Bytes bytes = λ i. subst (λ n. n < 256) (sym (get_or-drop s.offset file i 0)) (small (s.offset + i)) in
      let place : t.offset + length rest ≡ s.offset + length bytes =
      omega (arith, length-drop t.offset file, length-drop s.offset file, ap length sofar.here, ap length here, s.within, t.within) in
      record {
        here = here;
        front = λ more l. rw append_assoc (sofar.front (told a ∷ more) (step_laid s.offset t.offset bytes rest (told a) below place (step_here (Some a) one) more l));
      }

  pub sofar_end : Steps s None t → Answered file seen
  sofar_end one =
      let laid = rw append-nil at (sofar.front [] (ended (step_ended s.offset (drop s.offset file) _ (step_here None one)))) in
      record { laid = laid; only = λ others l. laid_same laid l }
