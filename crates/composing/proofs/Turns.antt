-- What the loop over the lines of a text keeps. Assumes nothing.
use Rattle.std.proofs.Common.{◌≡◌, ℕ, ◌+◌, ◌<◌, ◌≤◌, true, false, cond, not, List, [], ◌∷◌, ◌++◌, map, length, take, get_or, Some, None, Ok, Err, Bor, Option, sym, refl, ap, ◌∙◌, subst, append-nil, arith}
use Rattle.std.proofs.lemmas.List.Elements.{filter-append}
use Rattle.std.proofs.ByRecursion.{All-push}
use Rattle.std.proofs.lemmas.List.{length-map, map_push, flat_map_more}
use Rattle.std.proofs.lemmas.Bool.Decides.{nat_tests}
use Rattle.std.specs.List.{flat_map, enumerate_from, AllByRecursion}
use Rattle.std.specs.Option.{ok_or}
use Rattle.std.specs.Iterator.{Yields}
use Rattle.std.proofs.lemmas.Iterator.{YieldsList}
use Rattle.std.proofs.lemmas.Iterator.Consumers.{YieldsList-so_far, YieldsList-turn, YieldsList-end}
use Rattle.fault.specs.declared.fault.FileFault.TheVariants.{BodyLength}
use Rattle.frame.specs.Format.{Content, start, call, note, unknown, kind_of, body_of, bytes_of, proper}
use Rattle.listing.specs.Text.{says}
use Rattle.frame.specs.Laid.{Laid, ended, frame, Answered}
use Rattle.frame.proofs.Laws.{meant_back, laid_same}
use Rattle.parsing.specs.Line.{Sayable, Says}
use Rattle.parsing.proofs.Telling.{says_only}
use Rattle.composing.specs.Composed.{lines_of, silent, kept, Told, Composed, Reached, Bad, Overlong, Made, Answers}
use Rattle.composing.specs.declared.ComposeError.{ComposeError}
use Rattle.composing.specs.declared.ComposeError.TheVariants.{Line, TooLong, Memory}

-- A frame that a line says can stand in a file.
sayable_proper : (c : Content) → Sayable c → proper c ≡ true
sayable_proper (start items lines field) s = refl
sayable_proper (call c) s = refl
sayable_proper (note text) s = let l = s.some in let h = s.short in grind (arith, nat_tests)
sayable_proper (unknown kind body) s = absurd s

-- The frames, one behind the other, are a file that answers with them.
laid_all : (contents : List Content) (offset : ℕ) → AllByRecursion Sayable contents → Laid offset (flat_map bytes_of contents) (map (λ c. Ok c) contents)
laid_all [] offset s = ended refl
laid_all (c ∷ contents) offset s =
    subst (λ o. Laid offset (bytes_of c ++ flat_map bytes_of contents) (ok_or o (BodyLength offset) ∷ map (λ c. Ok c) contents)) (sym (meant_back c (sayable_proper c s.0)))
    (frame (kind_of c) (body_of c) (flat_map bytes_of contents) refl (laid_all contents _ s.1))

answered_all : (file : List ℕ) (contents : List Content) → file ≡ flat_map bytes_of contents → AllByRecursion Sayable contents → Answered file (map (λ c. Ok c) contents)
answered_all file contents e s =
    let laid = subst (λ (l : List ℕ). Laid 0 l (map (λ c. Ok c) contents)) (sym e) (laid_all contents 0 s) in
    record { laid = laid; only = λ others l. laid_same laid l }

-- The frames are fixed by the lines.
texts_same : (contents others : List Content) → map says contents ≡ map says others → AllByRecursion Sayable contents → AllByRecursion Sayable others → others ≡ contents
texts_same [] [] e s t = refl
texts_same [] (d ∷ others) e s t = absurd (grind arith)
texts_same (c ∷ contents) [] e s t = absurd (grind arith)
texts_same (c ∷ contents) (d ∷ others) e s t =
    let first : says c ≡ says d = cc in
    let more : map says contents ≡ map says others = cc in
    let same = says_only (says c) d c (record { sayable = t.0; text = first }) (record { sayable = s.0; text = refl }) in
    λ i. same i ∷ texts_same contents others more s.1 t.1 i

-- The lines with their places: those before this one, this one, and what is left.
pub numbered : (n : ℕ) (lines : List (List ℕ)) (before : List (ℕ × List ℕ)) (place : ℕ) (line : List ℕ)
    → before ≡ take (length before) (enumerate_from n lines) → length before < length (enumerate_from n lines)
    → (place, line) ≡ get_or (enumerate_from n lines) (length before) (place, line)
    → (place ≡ n + length before) × (after : List (List ℕ)) × (lines ≡ map (λ p. p.1) before ++ (line ∷ after))
numbered n [] before place line t less e = absurd (omega arith)
numbered n (l ∷ lines) [] place line t less e = (omega (arith, ap (λ (p : ℕ × List ℕ). p.0) e), lines, λ i. sym (ap (λ (p : ℕ × List ℕ). p.1) e) i ∷ lines)
numbered n (l ∷ lines) (p ∷ before) place line t less e =
    let first : p ≡ (n, l) = cc in
    let more : before ≡ take (length before) (enumerate_from (n + 1) lines) = cc in
    let rest = numbered (n + 1) lines before place line more (omega arith) e in
    (omega (arith, rest.0), rest.1, λ i. sym (ap (λ (q : ℕ × List ℕ). q.1) first) i ∷ rest.2 i)

pub unnumbered : (n : ℕ) (lines : List (List ℕ)) → map (λ p. p.1) (enumerate_from n lines) ≡ lines
unnumbered n [] = refl
unnumbered n (l ∷ lines) = ap (λ (ls : List (List ℕ)). l ∷ ls) (unnumbered (n + 1) lines)

-- The lines that a loop has been given, with their places, and alone.
abbrev pub placed : List (ℕ × Bor (List ℕ)) → List (ℕ × List ℕ)
placed items = map (λ (p : ℕ × Bor (List ℕ)). (p.0, p.1.now)) items

abbrev pub seen_in : List (ℕ × Bor (List ℕ)) → List (List ℕ)
seen_in items = map (λ (p : ℕ × List ℕ). p.1) (placed items)

pub seen_in_more : (items : List (ℕ × Bor (List ℕ))) (item : ℕ × Bor (List ℕ)) → seen_in (items ++ (item ∷ [])) ≡ seen_in items ++ (item.1.now ∷ [])
seen_in_more items item = ap (map (λ (p : ℕ × List ℕ). p.1)) (map_push (λ (p : ℕ × Bor (List ℕ)). (p.0, p.1.now)) items item) ∙ map_push (λ (p : ℕ × List ℕ). p.1) (placed items) (item.0, item.1.now)

-- The iterator yields the lines of the text with their places.
abbrev pub Road : {S : Type 0} → (S → Option (ℕ × Bor (List ℕ)) → S → Type 0) → S → List ℕ → Type 0
Road steps s text = YieldsList {A = ℕ × Bor (List ℕ)} {B = ℕ × List ℕ} steps (λ p. (p.0, p.1.now)) s (enumerate_from 0 (lines_of text))

module _ {S : Type 0} {steps : S → Option (ℕ × Bor (List ℕ)) → S → Type 0} {s : S} (text : List ℕ) (road : Road steps s text) (items : List (ℕ × Bor (List ℕ))) (t : S) (y : Yields steps s items t) (r : Option (ℕ × Bor (List ℕ))) (u : S) (step : steps t r u) where
  pub here : (before : ℕ) (line : Bor (List ℕ)) → r ≡ Some (before, line) → (before ≡ length (seen_in items)) × (after : List (List ℕ)) × (lines_of text ≡ seen_in items ++ (line.now ∷ after))
  here before line is =
      let turn = YieldsList-turn road items t y r u (before, line) is step in
      let sofar = YieldsList-so_far road items t y in
      let long : length (placed items) ≡ length items = simp length-map in
      let many : length (seen_in items) ≡ length (placed items) = simp length-map in
      let found = numbered 0 (lines_of text) (placed items) before line.now
      (sofar ∙ ap (λ n. take n (enumerate_from 0 (lines_of text))) (sym long))
      (omega (arith, long, turn.0))
      (turn.1 ∙ ap (λ n. get_or (enumerate_from 0 (lines_of text)) n (before, line.now)) (sym long)) in
      (omega (arith, found.0, many), found.1, found.2)

  pub all_seen : r ≡ None → seen_in items ≡ lines_of text
  all_seen is = ap (map (λ (p : ℕ × List ℕ). p.1)) (YieldsList-end road items t y r u is step).0 ∙ unnumbered 0 (lines_of text)

-- After some lines: their frames, and the file so far.
pub record Turn (seen : List (List ℕ)) (file : List ℕ) : Type 0 where
  pub contents : List Content
  pub told : Told seen contents
  pub bytes : file ≡ flat_map bytes_of contents
  pub short : length file ≤ 32768

pub turn_none : (file : List ℕ) → file ≡ [] → Turn [] file
turn_none file e = record { contents = []; told = record { texts = refl; sayable = tt }; bytes = e; short = omega (arith, ap length e) }

pub turn_end : {text file : List ℕ} {seen : List (List ℕ)} → Turn seen file → seen ≡ lines_of text → Composed text file
turn_end turn is =
    let told = subst (λ (ls : List (List ℕ)). Told ls turn.contents) is turn.told in
    record {
      contents = turn.contents;
      told = told;
      only = λ others t. texts_same turn.contents others (sym told.texts ∙ t.texts) told.sayable t.sayable;
      answered = answered_all _ turn.contents turn.bytes turn.told.sayable;
      short = turn.short;
    }

-- One line more.
module _ {file : List ℕ} {seen : List (List ℕ)} (turn : Turn seen file) (line : List ℕ) where
  pub turn_quiet : silent line ≡ true → Turn (seen ++ (line ∷ [])) file
  turn_quiet quiet = record {
    contents = turn.contents;
    told = record {
      texts = filter-append (λ l. not (silent l)) seen (line ∷ [])
          ∙ ap (λ t. kept seen ++ cond (not t) (line ∷ []) []) quiet
          ∙ append-nil (kept seen) ∙ turn.told.texts;
      sayable = turn.told.sayable;
    };
    bytes = turn.bytes;
    short = turn.short;
  }

  module _ (loud : silent line ≡ false) where
    pub turn_more : (c : Content) (file' : List ℕ) → Says line c → file' ≡ file ++ bytes_of c → length file' ≤ 32768 → Turn (seen ++ (line ∷ [])) file'
    turn_more c file' s pushed short = record {
      contents = turn.contents ++ (c ∷ []);
      told = record {
        texts = filter-append (λ l. not (silent l)) seen (line ∷ [])
            ∙ ap (λ t. kept seen ++ cond (not t) (line ∷ []) []) loud
            ∙ (λ i. turn.told.texts i ++ (s.text i ∷ []))
            ∙ sym (map_push says turn.contents c);
        sayable = All-push Sayable turn.contents c turn.told.sayable s.sayable;
      };
      bytes = pushed ∙ ap (λ (l : List ℕ). l ++ bytes_of c) turn.bytes ∙ flat_map_more bytes_of [] turn.contents c;
      short = short;
    }

    module _ (text : List ℕ) (number : ℕ) (after : List (List ℕ)) (whole : lines_of text ≡ seen ++ (line ∷ after)) (count : number ≡ length seen + 1) where
      abbrev reached : Reached text number
      reached = record {
        before = seen;
        line = line;
        after = after;
        whole = whole;
        count = count;
        loud = loud;
        contents = turn.contents;
        told = turn.told;
        room = omega (arith, turn.short, ap length turn.bytes);
      }

      pub turn_bad : ((c : Content) → Says line c → ⊥) → Bad text number
      turn_bad bad = record { reached = reached; bad = bad }

      -- What refuses a line refuses the text.
      pub turn_refused : (e : ComposeError) → Made line number (Err e) → Answers text (Err e)
      turn_refused (Line at reason) made = subst (Bad text) (sym made.0) (turn_bad made.1)
      turn_refused (TooLong at) made = absurd made
      turn_refused Memory made = tt

      pub turn_overlong : (c : Content) → Says line c → 32768 < length file + length (bytes_of c) → Overlong text number
      turn_overlong c s long = record { reached = reached; content = c; says = s; long = omega (arith, long, ap length turn.bytes) }
