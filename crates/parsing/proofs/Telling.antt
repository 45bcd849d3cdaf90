-- A name and what stands behind it, and the frames that they say. Assumes nothing.
use Rattle.std.proofs.Common.{◌≡◌, ℕ, true, cond, eqb, List, [], ◌∷◌, ◌++◌, map, get_or, Some, None, codes, decimal, Option, sym, refl, ap, ◌∙◌, subst, subst₂, append-nil, arith}
use Rattle.std.proofs.lemmas.Bool.Decides.{nat_tests}
use Rattle.call.specs.declared.Call.TheVariants as call
use Rattle.frame.specs.Format.{Content, start, call, note, unknown}
use Rattle.listing.specs.Text.{visible, says}
use Rattle.parsing.specs.declared.name.Name.{Name}
use Rattle.parsing.specs.declared.name.Name.TheVariants.{Start, Post, Get, Off, On, Release, Seat, Mend, Note}
use Rattle.parsing.specs.Line.{Sayable, Says, Noted}
use Rattle.parsing.specs.Names.{spelled}
use Rattle.parsing.specs.Numbers.{spaced, Numbers}
use Rattle.parsing.specs.Splits.{front_of, back_of, behind, within}
use Rattle.parsing.proofs.Figures.{inside, numbers_same}
use Rattle.parsing.proofs.Parting.{clear, parts_whole, front_clear, back_clear, within_first}

-- The first two letters tell the names apart.
abbrev by_letters : ℕ → ℕ → Name
by_letters a b =
    cond (eqb a 112) Post (cond (eqb a 103) Get (cond (eqb a 114) Release (cond (eqb a 109) Mend
    (cond (eqb b 116) Start (cond (eqb b 101) Seat (cond (eqb b 102) Off (cond (eqb a 111) On Note)))))))

abbrev by_word : List ℕ → Name
by_word word = by_letters (get_or word 0 0) (get_or word 1 0)

by_spelled : (n : Name) → by_word (spelled n) ≡ n
by_spelled Start = refl
by_spelled Post = refl
by_spelled Get = refl
by_spelled Off = refl
by_spelled On = refl
by_spelled Release = refl
by_spelled Seat = refl
by_spelled Mend = refl
by_spelled Note = refl

spelled_clear : (n : Name) → clear 32 (spelled n) ≡ true
spelled_clear Start = refl
spelled_clear Post = refl
spelled_clear Get = refl
spelled_clear Off = refl
spelled_clear On = refl
spelled_clear Release = refl
spelled_clear Seat = refl
spelled_clear Mend = refl
spelled_clear Note = refl

-- The name of a frame, and the numbers of its line.
abbrev pub name_of : Content → Name
name_of (start items lines field) = Start
name_of (call (call.Post item line word)) = Post
name_of (call (call.Get item line)) = Get
name_of (call (call.Off bay)) = Off
name_of (call (call.On bay)) = On
name_of (call (call.Release bay)) = Release
name_of (call call.Seat) = Seat
name_of (call (call.Mend bay)) = Mend
name_of (note text) = Note
name_of (unknown kind body) = Note

abbrev pub numbers_of : Content → List ℕ
numbers_of (start items lines field) = items ∷ lines ∷ field ∷ []
numbers_of (call (call.Post item line word)) = item ∷ line ∷ word ∷ []
numbers_of (call (call.Get item line)) = item ∷ line ∷ []
numbers_of (call (call.Off bay)) = bay ∷ []
numbers_of (call (call.On bay)) = bay ∷ []
numbers_of (call (call.Release bay)) = bay ∷ []
numbers_of (call call.Seat) = []
numbers_of (call (call.Mend bay)) = bay ∷ []
numbers_of (note text) = []
numbers_of (unknown kind body) = []

-- What a line has behind the name.
abbrev pub rest_of : Content → Option (List ℕ)
rest_of (start items lines field) = spaced (items ∷ lines ∷ field ∷ [])
rest_of (call c) = spaced (numbers_of (call c))
rest_of (note text) = Some text
rest_of (unknown kind body) = None

printed_same : (text : List ℕ) → within 32 126 text ≡ true → map visible text ≡ text
printed_same [] e = refl
printed_same (byte ∷ text) e =
    let p = within_first 32 126 byte (within 32 126 text) e in
    let l = p.0 in
    let h = p.1 in
    let same : visible byte ≡ byte = grind (arith, nat_tests) in
    λ i. same i ∷ printed_same text p.2 i

-- The last number of a line.
last : (before : List ℕ) (n : ℕ) → before ++ decimal n ≡ before ++ (decimal n ++ [])
last before n = ap (λ (l : List ℕ). before ++ l) (sym (append-nil (decimal n)))

says_parts : (c : Content) → Sayable c → says c ≡ spelled (name_of c) ++ behind 32 (rest_of c)
says_parts (start items lines field) s = ap (λ (l : List ℕ). codes "start " ++ (decimal items ++ (codes " " ++ (decimal lines ++ l)))) (last (codes " ") field)
says_parts (call (call.Post item line word)) s = ap (λ (l : List ℕ). codes "post " ++ (decimal item ++ (codes " " ++ (decimal line ++ l)))) (last (codes " ") word)
says_parts (call (call.Get item line)) s = ap (λ (l : List ℕ). codes "get " ++ (decimal item ++ l)) (last (codes " ") line)
says_parts (call (call.Off bay)) s = last (codes "off ") bay
says_parts (call (call.On bay)) s = last (codes "on ") bay
says_parts (call (call.Release bay)) s = last (codes "release ") bay
says_parts (call call.Seat) s = refl
says_parts (call (call.Mend bay)) s = last (codes "mend ") bay
says_parts (note text) s = ap (λ (l : List ℕ). spelled Note ++ (32 ∷ l)) (printed_same text s.printable)
says_parts (unknown kind body) s = absurd s

-- The line of a frame.
pub frame_says : (c : Content) (n : Name) (rest : Option (List ℕ)) → n ≡ name_of c → rest ≡ rest_of c → Sayable c → Says (spelled n ++ behind 32 rest) c
frame_says c n rest name same s = record { sayable = s; text = (λ i. spelled (name i) ++ behind 32 (same i)) ∙ sym (says_parts c s) }

-- What stands behind a name makes it this frame.
abbrev Made : Name → Option (List ℕ) → Content → Type 0
Made Start rest c = (ns : List ℕ) × Numbers 3 rest ns × (c ≡ start (get_or ns 0 0) (get_or ns 1 0) (get_or ns 2 0))
Made Post rest c = (ns : List ℕ) × Numbers 3 rest ns × (c ≡ call (call.Post (get_or ns 0 0) (get_or ns 1 0) (get_or ns 2 0)))
Made Get rest c = (ns : List ℕ) × Numbers 2 rest ns × (c ≡ call (call.Get (get_or ns 0 0) (get_or ns 1 0)))
Made Off rest c = (ns : List ℕ) × Numbers 1 rest ns × (c ≡ call (call.Off (get_or ns 0 0)))
Made On rest c = (ns : List ℕ) × Numbers 1 rest ns × (c ≡ call (call.On (get_or ns 0 0)))
Made Release rest c = (ns : List ℕ) × Numbers 1 rest ns × (c ≡ call (call.Release (get_or ns 0 0)))
Made Seat rest c = c ≡ call call.Seat
Made Mend rest c = (ns : List ℕ) × Numbers 1 rest ns × (c ≡ call (call.Mend (get_or ns 0 0)))
Made Note rest c = (text : List ℕ) × Noted rest text × (c ≡ note text)

made : (c : Content) → Sayable c → Made (name_of c) (rest_of c) c
made (start items lines field) s = (items ∷ lines ∷ field ∷ [], record { many = refl; small = (s.0, (s.1, (s.2, tt))); text = refl }, refl)
made (call (call.Post item line word)) s = (item ∷ line ∷ word ∷ [], record { many = refl; small = (s.0, (s.1, (s.2, tt))); text = refl }, refl)
made (call (call.Get item line)) s = (item ∷ line ∷ [], record { many = refl; small = (s.0, (s.1, tt)); text = refl }, refl)
made (call (call.Off bay)) s = (bay ∷ [], record { many = refl; small = (s, tt); text = refl }, refl)
made (call (call.On bay)) s = (bay ∷ [], record { many = refl; small = (s, tt); text = refl }, refl)
made (call (call.Release bay)) s = (bay ∷ [], record { many = refl; small = (s, tt); text = refl }, refl)
made (call call.Seat) s = refl
made (call (call.Mend bay)) s = (bay ∷ [], record { many = refl; small = (s, tt); text = refl }, refl)
made (note text) s = (text, (s, refl), refl)
made (unknown kind body) s = absurd s

-- A frame that is made of the numbers behind a name is fixed by them.
of_numbers : {count : ℕ} (rest : Option (List ℕ)) (frame : List ℕ → Content) (c d : Content) → (ns : List ℕ) × Numbers count rest ns × (c ≡ frame ns) → (ns : List ℕ) × Numbers count rest ns × (d ≡ frame ns) → c ≡ d
of_numbers rest frame c d m k = m.2 ∙ ap frame (numbers_same rest m.0 k.0 m.1 k.1) ∙ sym k.2

made_same : (n : Name) (rest : Option (List ℕ)) (c d : Content) → Made n rest c → Made n rest d → c ≡ d
made_same Start rest c d m k = of_numbers rest (λ ns. start (get_or ns 0 0) (get_or ns 1 0) (get_or ns 2 0)) c d m k
made_same Post rest c d m k = of_numbers rest (λ ns. call (call.Post (get_or ns 0 0) (get_or ns 1 0) (get_or ns 2 0))) c d m k
made_same Get rest c d m k = of_numbers rest (λ ns. call (call.Get (get_or ns 0 0) (get_or ns 1 0))) c d m k
made_same Off rest c d m k = of_numbers rest (λ ns. call (call.Off (get_or ns 0 0))) c d m k
made_same On rest c d m k = of_numbers rest (λ ns. call (call.On (get_or ns 0 0))) c d m k
made_same Release rest c d m k = of_numbers rest (λ ns. call (call.Release (get_or ns 0 0))) c d m k
made_same Seat rest c d m k = m ∙ sym k
made_same Mend rest c d m k = of_numbers rest (λ ns. call (call.Mend (get_or ns 0 0))) c d m k
made_same Note rest c d m k = m.2 ∙ ap note (inside _ _ (sym m.1.1 ∙ k.1.1)) ∙ sym k.2

module _ (line : List ℕ) (c : Content) (s : Says line c) where
  parts_said : line ≡ spelled (name_of c) ++ behind 32 (rest_of c)
  parts_said = s.text ∙ says_parts c s.sayable

  pub word_said : front_of 32 line ≡ spelled (name_of c)
  word_said = ap (front_of 32) parts_said ∙ front_clear 32 (spelled (name_of c)) (rest_of c) (spelled_clear (name_of c))

  rest_said : back_of 32 line ≡ rest_of c
  rest_said = ap (back_of 32) parts_said ∙ back_clear 32 (spelled (name_of c)) (rest_of c) (spelled_clear (name_of c))

-- The frame that a name and what stands behind it say.
said_made : (n : Name) (rest : Option (List ℕ)) (c : Content) → Says (spelled n ++ behind 32 rest) c → Made n rest c
said_made n rest c s =
    let line = spelled n ++ behind 32 rest in
    let name : name_of c ≡ n = sym (by_spelled (name_of c)) ∙ ap by_word (sym (word_said line c s) ∙ front_clear 32 (spelled n) rest (spelled_clear n)) ∙ by_spelled n in
    let same : rest_of c ≡ rest = sym (rest_said line c s) ∙ back_clear 32 (spelled n) rest (spelled_clear n) in
    subst₂ (λ (m : Name) (r : Option (List ℕ)). Made m r c) name same (made c s.sayable)

-- Where what a name takes does not stand behind it, no frame is said.
pub no_frame : (n m : Name) (rest : Option (List ℕ)) → n ≡ m → ((c : Content) → Made m rest c → ⊥) → (c : Content) → Says (spelled n ++ behind 32 rest) c → ⊥
no_frame n m rest is none c s = none c (subst (λ k. Made k rest c) is (said_made n rest c s))

-- A line says one frame at most.
pub says_only : (line : List ℕ) (c d : Content) → Says line c → Says line d → c ≡ d
says_only line c d s t =
    let e = parts_said line c s in
    made_same (name_of c) (rest_of c) c d (made c s.sayable) (said_made (name_of c) (rest_of c) d (subst (λ (l : List ℕ). Says l d) e t))

-- The parts of a line, where the word is a name.
pub line_again : (line word front : List ℕ) (back : Option (List ℕ)) → front ≡ front_of 32 line → back ≡ back_of 32 line → front ≡ word → word ++ behind 32 back ≡ line
line_again line word front back f b is = (λ i. (sym is ∙ f) i ++ behind 32 (b i)) ∙ sym (parts_whole 32 line)
