-- Numbers as they are printed. Assumes nothing.
use Rattle.std.proofs.Common.{◌≡◌, ℕ, zero, suc, ◌+◌, ◌-◌, ◌*◌, ◌^◌, ◌<◌, ◌≤◌, Bool, true, false, cond, eqb, leb, ltb, inl, inr, ◌⊎◌, leb-true, List, [], ◌∷◌, ◌++◌, map, length, get_or, take, is_some, Some, None, Ok, Err, decimal, Bor, Option, Result, IsOk, IsErr, IsErrAnd, MatchOption, MatchResult, sym, refl, ap, ◌∙◌, subst, append_assoc, append-nil, arith, length-append, rules}
use Rattle.std.proofs.lemmas.Fmt.{digits_decimal, digits_value-decimal, decimal-digits_value, decimal_nonempty, decimal_digit, first_decimal, decimal_injective}
use Rattle.std.specs.Str.{IsUtf8}
use Rattle.std.proofs.lemmas.List.{get_or_past, map_push}
use Rattle.std.proofs.lemmas.Str.{IsUtf8-from_ascii}
use Rattle.std.proofs.lemmas.Str.Parse.{IsNumeralModel, numerals_by_value, parse_digits, digits_value-take-le}
use Rattle.std.proofs.lemmas.Int.Digits.{digits_value_push, digits_value_more}
use Rattle.std.proofs.lemmas.Fn.{chained_keeps}
use Rattle.std.proofs.lemmas.Iterator.{YieldsList}
use Rattle.std.proofs.lemmas.Iterator.Consumers.{YieldsList-so_far, YieldsList-turn, YieldsList-end}
use Rattle.std.specs.Fn.{Called}
use Rattle.std.specs.Iterator.{Yields, TryFoldTurn, TryFoldsItems}
use Rattle.std.specs.List.{FoldsTo}
use Rattle.std.specs.Char.{digit_value}
use Rattle.std.specs.declared.ops.ControlFlow.{ControlFlow}
use Rattle.std.specs.ControlFlow.{continue_value}
use denote.Param.Members.{Mut}
use Rattle.std.proofs.ByRecursion.{All-push}
use Rattle.std.specs.List.{AllByRecursion}
use Rattle.std.specs.Result.{OkIff}
use Rattle.std.proofs.lemmas.Bool.Decides.{nat_tests}
use Rattle.std.specs.Str.Parse.{digits_value, ParsesUnsigned}
use Rattle.std.specs.Option.{option_map, ok_or}
use Rattle.parsing.specs.Numbers.{Settles, seen, numeral, Field, spaced, Numbers}
use Rattle.parsing.specs.Splits.{front_of, back_of, behind, within}
use Rattle.parsing.proofs.Parting.{clear, parts_whole, front_clear, back_clear, within_first}

pub own : IsNumeralModel (λ ds. within 48 57 ds ≡ true) (digits_value 10)
own = numerals_by_value _ (search rules)

pub within_at : (low high : ℕ) (bytes : List ℕ) (i : ℕ) → within low high bytes ≡ true → i < length bytes → (low ≤ get_or bytes i 0) × (get_or bytes i 0 ≤ high)
within_at low high [] i e h = absurd (omega arith)
within_at low high (byte ∷ bytes) zero e h = let p = within_first low high byte (within low high bytes) e in (p.0, p.1)
within_at low high (byte ∷ bytes) (suc i) e h = within_at low high bytes i (within_first low high byte (within low high bytes) e).2 (omega arith)

within_take : (low high : ℕ) (bytes : List ℕ) (i : ℕ) → within low high bytes ≡ true → within low high (take i bytes) ≡ true
within_take low high bytes zero e = refl
within_take low high [] (suc i) e = refl
within_take low high (byte ∷ bytes) (suc i) e =
    let p = within_first low high byte (within low high bytes) e in
    let more = within_take low high bytes i p.2 in
    let l = p.0 in
    let h = p.1 in
    grind (arith, nat_tests)

pub inside : {X : Type 0} (x y : X) → ◌≡◌ {A = Option X} (Some x) (Some y) → x ≡ y
inside x y e = cc

-- Digits hold no space.
pub digits_clear : (ds : List ℕ) → within 48 57 ds ≡ true → clear 32 ds ≡ true
digits_clear [] e = refl
digits_clear (d ∷ ds) e =
    let p = within_first 48 57 d (within 48 57 ds) e in
    let more = digits_clear ds p.2 in
    let l = p.0 in
    grind (arith, nat_tests)

wide : (n : ℕ) → n < 65536 → n < 2 ^ 64
wide n h = omega arith

pub decimal_clear : (n : ℕ) → n < 65536 → clear 32 (decimal n) ≡ true
decimal_clear n h = digits_clear (decimal n) (digits_decimal own n (wide n h))

-- What is printed is a numeral of at most five digits.
pub numeral_decimal : (n : ℕ) → n < 65536 → numeral (decimal n) ≡ true
numeral_decimal n h = by (eqb n 0) refl
  where
    by : (b : Bool) → eqb n 0 ≡ b → numeral (decimal n) ≡ true
    by true e =
        let none : n ≡ 0 = grind (arith, nat_tests) in
        ap (λ m. numeral (decimal m)) none ∙ ap numeral (decimal_digit 0 (omega arith))
    by false e =
        let some : 0 < n = grind (arith, nat_tests) in
        let first = first_decimal n some (wide n h) in
        let long = decimal_nonempty n (wide n h) in
        let figures = digits_decimal own n (wide n h) in
        grind (arith, nat_tests)

module _ (field : List ℕ) where
  pub field_is : numeral field ≡ true → digits_value 10 field < 65536 → Field field (digits_value 10 field)
  field_is e small =
      let long : 0 < length field = grind (arith, nat_tests) in
      let alone : get_or field 0 0 ≡ 48 → length field ≡ 1 = λ z. grind (arith, nat_tests) in
      let figures : within 48 57 field ≡ true = grind (arith, nat_tests) in
      (small, sym (decimal-digits_value own field figures long alone (wide _ small)))

  pub no_numeral : numeral field ≡ false → (n : ℕ) → Field field n → ⊥
  no_numeral e n f = let is = ap numeral f.1 ∙ numeral_decimal n f.0 in grind arith

  pub too_large : 65535 < digits_value 10 field → (n : ℕ) → Field field n → ⊥
  too_large h n f = let e = ap (digits_value 10) f.1 ∙ digits_value-decimal own n (wide n f.0) in let s = f.0 in omega arith

  -- What `parse` gives for a numeral.
  pub parsed : {E : Type 0} (r : Result ℕ E) → numeral field ≡ true → ParsesUnsigned 16 10 field r → Settles r (Field field)
  parsed r e parses = by r (parse_digits own 16 field r parses figures)
    where
      figures : within 48 57 field ≡ true
      figures = grind (arith, nat_tests)

      long : 0 < length field
      long = grind (arith, nat_tests)

      by : {E : Type 0} (r : Result ℕ E) → OkIff r ((0 < length field) × (digits_value 10 field < 2 ^ 16)) (digits_value 10 field) → Settles r (Field field)
      by (Ok n) ok = subst (Field field) (sym ok.1) (field_is e (omega arith))
      by (Err x) none = let beyond : digits_value 10 field < 65536 → ⊥ = λ small. none (long, small) in too_large (omega (arith, beyond))

either : (n i : ℕ) → (n ≤ i) ⊎ (i < n)
either n i = by (leb n i) refl
  where
    by : (b : Bool) → leb n i ≡ b → (n ≤ i) ⊎ (i < n)
    by true e = inl (leb-true n i e)
    by false e = inr (grind (arith, nat_tests))

pub digits_utf8 : (field : List ℕ) → numeral field ≡ true → IsUtf8 field
digits_utf8 field e = IsUtf8-from_ascii field (λ i. small i (either (length field) i))
  where
    figures : within 48 57 field ≡ true
    figures = grind (arith, nat_tests)

    small : (i : ℕ) → (length field ≤ i) ⊎ (i < length field) → get_or field i 0 < 128
    small i (inl past) = omega (arith, get_or_past field i 0 past)
    small i (inr here) = let p = within_at 48 57 field i figures here in let h = p.1 in omega arith

within_push : (ds : List ℕ) (d : ℕ) → within 48 57 (ds ++ (d ∷ [])) ≡ true → (within 48 57 ds ≡ true) × (48 ≤ d) × (d ≤ 57)
within_push [] d e = let p = within_first 48 57 d true e in (refl, p.0, p.1)
within_push (byte ∷ ds) d e =
    let p = within_first 48 57 byte (within 48 57 (ds ++ (d ∷ []))) e in
    let more = within_push ds d p.2 in
    let l = p.0 in
    let h = p.1 in
    let first = more.0 in
    (grind (arith, nat_tests), more.1, more.2)

-- The number with one digit more, where two bytes hold it.
abbrev pub more_digit : ℕ → ℕ → Option ℕ
more_digit n d = cond (ltb (n * 10 + (d - 48)) 65536) (Some (n * 10 + (d - 48))) None

held : (n m : ℕ) → Some m ≡ cond (ltb n 65536) (Some n) None → (m ≡ n) × (n < 65536)
held n m e = by (ltb n 65536) refl e
  where
    by : (b : Bool) → ltb n 65536 ≡ b → Some m ≡ cond b (Some n) None → (m ≡ n) × (n < 65536)
    by true l e = (inside m n e, grind (arith, nat_tests))
    by false l e = absurd (grind arith)

unheld : (n : ℕ) → ◌≡◌ {A = Option ℕ} None (cond (ltb n 65536) (Some n) None) → 65535 < n
unheld n e = by (ltb n 65536) refl e
  where
    by : (b : Bool) → ltb n 65536 ≡ b → ◌≡◌ {A = Option ℕ} None (cond b (Some n) None) → 65535 < n
    by true l e = absurd (grind arith)
    by false l e = grind (arith, nat_tests)

value_push : (ds : List ℕ) (d : ℕ) → 48 ≤ d → d ≤ 57 → digits_value 10 ds * 10 + (d - 48) ≡ digits_value 10 (ds ++ (d ∷ []))
value_push ds d l h =
    let same : digit_value d ≡ d - 48 = grind (arith, nat_tests) in
    sym (digits_value_push 10 ds d ∙ ap (λ n. digits_value 10 ds * 10 + n) same)

-- The number so far is what the digits so far write.
abbrev Summed : List ℕ → ℕ → Type 0
Summed ds n = within 48 57 ds ≡ true → (n ≡ digits_value 10 ds) × (n < 65536)

summed_more : (ds : List ℕ) (d n m : ℕ) → Summed ds n → Some m ≡ more_digit n d → Summed (ds ++ (d ∷ [])) m
summed_more ds d n m sofar e figures =
    let p = within_push ds d figures in
    let q = held (n * 10 + (d - 48)) m e in
    let same : n * 10 + (d - 48) ≡ digits_value 10 (ds ++ (d ∷ [])) = ap (λ k. k * 10 + (d - 48)) (sofar p.0).0 ∙ value_push ds d p.1 p.2 in
    (q.0 ∙ same, omega (arith, q.0, q.1))

at_of : (ds : List ℕ) (i d : ℕ) → i < length ds → d ≡ get_or ds i d → d ≡ get_or ds i 0
at_of [] i d h e = absurd (omega arith)
at_of (x ∷ ds) zero d h e = e
at_of (x ∷ ds) (suc i) d h e = at_of ds i d (omega arith) e

abbrev bytes_in : List (Bor ℕ) → List ℕ
bytes_in items = map (λ (b : Bor ℕ). b.now) items

-- A numeral is read digit by digit, for as long as two bytes hold the number.
module _ {S : Type 0} {steps : S → Option (Bor ℕ) → S → Type 0} {s : S} (field : List ℕ) (is : numeral field ≡ true) (road : YieldsList steps (λ (b : Bor ℕ). b.now) s field) where
  figures : within 48 57 field ≡ true
  figures = grind (arith, nat_tests)

  -- Each item is a digit.
  pub item_is : (items : List (Bor ℕ)) (t : S) (item : Bor ℕ) (u : S) → Yields steps s items t → steps t (Some item) u
      → (length items < length field) × (item.now ≡ get_or field (length items) 0) × (48 ≤ item.now) × (item.now ≤ 57)
  item_is items t item u y step =
      let turn = YieldsList-turn road items t y (Some item) u item refl step in
      let at = at_of field (length items) item.now turn.0 turn.1 in
      let p = within_at 48 57 field (length items) figures turn.0 in
      (turn.0, at, subst (λ n. 48 ≤ n) (sym at) p.0, subst (λ n. n ≤ 57) (sym at) p.1)

  module _ {F : Type 0} (E : Type 0) (g : Mut F (ℕ × (Bor ℕ × Unit {0})) (Option ℕ))
      (gives : (h : F) (n : ℕ) (item : Bor ℕ) (r : Option ℕ) (k : F) → Called g h (n, (item, tt)) r k → r ≡ more_digit n item.now) where
    -- `?` goes on at a number, and ends at none.
    abbrev goes_on : Option ℕ → ControlFlow E ℕ → Type 0
    goes_on r b = r ≡ continue_value b

    summed : (items : List (Bor ℕ)) (f : F) (q : F × ℕ) → FoldsTo {P = F × ℕ} (TryFoldTurn g goes_on) (f, 0) items q → Summed (bytes_in items) q.1
    summed items f q folds =
        chained_keeps (TryFoldTurn g goes_on) (λ (xs : List (Bor ℕ)) (p : F × ℕ). Summed (bytes_in xs) p.1)
        (λ xs p item v sofar turn. subst (λ ds. Summed ds v.1) (sym (map_push (λ (b : Bor ℕ). b.now) xs item))
        (summed_more (bytes_in xs) item.now p.1 v.1 sofar (sym turn.2 ∙ gives p.0 p.1 item turn.0 v.0 turn.1)))
        items (f, 0) q (λ e. (refl, omega arith)) folds

    pub read_digits : (f : F) (r : Option ℕ) (u : S) → TryFoldsItems steps g goes_on (λ e o. o ≡ None) s f 0 r u → MatchOption r ((n : ℕ) → Field field n → ⊥) (Field field)
    read_digits f r u (items, None, h, n, y, folds, last) =
        let all = (YieldsList-end road items y.0 y.1 None u refl y.2).0 in
        let sum = subst (λ ds. Summed ds n) all (summed items f (h, n) folds) figures in
        let field_n : Field field n = subst (Field field) (sym sum.0) (field_is field is (omega (arith, sum.0, sum.1))) in
        subst (λ o. MatchOption o ((n : ℕ) → Field field n → ⊥) (Field field)) (sym last) field_n
    read_digits f r u (items, Some item, h, n, y, folds, last) =
        let front = YieldsList-so_far road items y.0 y.1 in
        let here = item_is items y.0 item u y.1 y.2 in
        let sum = subst (λ ds. Summed ds n) front (summed items f (h, n) folds) (within_take 48 57 field (length items) figures) in
        let next = unheld (n * 10 + (item.now - 48)) (sym last.4 ∙ gives h n item last.0 last.1 last.3) in
        let more = value_push (take (length items) field) item.now here.2 here.3 in
        let long = digits_value_more 10 field (length items) here.0 in
        let least = digits_value-take-le 10 field (length items + 1) (omega arith) in
        let same : digit_value item.now ≡ item.now - 48 = grind (arith, nat_tests) in
        let beyond : 65535 < digits_value 10 field = omega (arith, sum.0, next, long, least, same, ap digit_value here.1) in
        subst (λ o. MatchOption o ((n : ℕ) → Field field n → ⊥) (Field field)) (sym last.5) (too_large field beyond)

-- A number that is there settles the field, and so does a refusal where none is.
pub settled : {E : Type 0} (field : List ℕ) (o : Option ℕ) (e : E) (r : Result ℕ E) → r ≡ ok_or o e → MatchOption o ((n : ℕ) → Field field n → ⊥) (Field field) → Settles r (Field field)
settled field None e r is none = subst (λ x. Settles x (Field field)) (sym is) none
settled field (Some n) e r is found = subst (λ x. Settles x (Field field)) (sym is) found

-- Numbers that stand behind a name: those that are read, and what is left behind them.
abbrev AllSmall : List ℕ → Type 0
AllSmall ns = AllByRecursion (λ n. n < 65536) ns

pub record Sofar (rest : Option (List ℕ)) (ns : List ℕ) (left : Option (List ℕ)) : Type 0 where
  pub small : AllSmall ns
  pub whole : (ms : List ℕ) → left ≡ spaced ms → rest ≡ spaced (ns ++ ms)
  pub parts : (all : List ℕ) → AllSmall all → rest ≡ spaced all → (ms : List ℕ) × (all ≡ ns ++ ms) × AllSmall ms × (left ≡ spaced ms)

pub sofar_none : (rest : Option (List ℕ)) → Sofar rest [] rest
sofar_none rest = record { small = tt; whole = λ ms e. e; parts = λ all small e. (all, refl, small, e) }

-- The next field, where one is left.
module _ (fields front : List ℕ) (left back : Option (List ℕ)) (is : left ≡ Some fields) (f : front ≡ front_of 32 fields) (b : back ≡ back_of 32 fields) where
  first_is : (m : ℕ) (ms : List ℕ) → m < 65536 → left ≡ spaced (m ∷ ms) → (front ≡ decimal m) × (back ≡ spaced ms)
  first_is m ms small e =
      let same = inside fields (decimal m ++ behind 32 (spaced ms)) (sym is ∙ e) in (
        f ∙ ap (front_of 32) same ∙ front_clear 32 (decimal m) (spaced ms) (decimal_clear m small),
        b ∙ ap (back_of 32) same ∙ back_clear 32 (decimal m) (spaced ms) (decimal_clear m small),
      )

  joins : (n : ℕ) (ms : List ℕ) → front ≡ decimal n → back ≡ spaced ms → left ≡ spaced (n ∷ ms)
  joins n ms e h = is ∙ ap (λ (l : List ℕ). Some l) (parts_whole 32 fields ∙ (λ i. (sym f ∙ e) i ++ behind 32 ((sym b ∙ h) i)))

  module _ {rest : Option (List ℕ)} {ns : List ℕ} (sofar : Sofar rest ns left) where
    -- The numbers of the whole have one for this field.
    pub next_of : {count : ℕ} (all : List ℕ) → Numbers count rest all → (m : ℕ) × (ms : List ℕ) × Field front m × AllSmall ms × (back ≡ spaced ms) × (all ≡ ns ++ (m ∷ ms))
    next_of all numbers = by (sofar.parts all numbers.small numbers.text)
      where
        by : (ms : List ℕ) × (all ≡ ns ++ ms) × AllSmall ms × (left ≡ spaced ms) → (m : ℕ) × (ms : List ℕ) × Field front m × AllSmall ms × (back ≡ spaced ms) × (all ≡ ns ++ (m ∷ ms))
        by ([], whole, small, e) = absurd (let no : ◌≡◌ {A = Option (List ℕ)} (Some fields) None = sym is ∙ e in cc)
        by (m ∷ ms, whole, small, e) = let p = first_is m ms small.0 e in (m, ms, (small.0, p.0), small.1, p.1, whole)

    pub sofar_more : (n : ℕ) → Field front n → Sofar rest (ns ++ (n ∷ [])) back
    sofar_more n field = record {
      small = All-push (λ n. n < 65536) ns n sofar.small field.0;
      whole = λ ms e. sofar.whole (n ∷ ms) (joins n ms field.1 e) ∙ ap spaced (sym (append_assoc ns (n ∷ []) ms));
      parts = λ all small e. by all (sofar.parts all small e);
    }
      where
        by : (all : List ℕ) → (ms : List ℕ) × (all ≡ ns ++ ms) × AllSmall ms × (left ≡ spaced ms) → (ms : List ℕ) × (all ≡ (ns ++ (n ∷ [])) ++ ms) × AllSmall ms × (back ≡ spaced ms)
        by all ([], whole, small, e) = absurd (let no : ◌≡◌ {A = Option (List ℕ)} (Some fields) None = sym is ∙ e in cc)
        by all (m ∷ ms, whole, small, e) =
            let p = first_is m ms small.0 e in
            let same : m ≡ n = decimal_injective m n (wide m small.0) (wide n field.0) (sym p.0 ∙ field.1) in
            (ms, whole ∙ (λ i. ns ++ (same i ∷ ms)) ∙ sym (append_assoc ns (n ∷ []) ms), small.1, p.1)

    pub no_number : {count : ℕ} → ((n : ℕ) → Field front n → ⊥) → (all : List ℕ) → Numbers count rest all → ⊥
    no_number none all numbers = let p = next_of all numbers in none p.0 p.2

    pub one_more : {count : ℕ} → length ns + 1 ≡ count → is_some back ≡ true → (all : List ℕ) → Numbers count rest all → ⊥
    one_more last some all numbers = by (next_of all numbers)
      where
        by : (m : ℕ) × (ms : List ℕ) × Field front m × AllSmall ms × (back ≡ spaced ms) × (all ≡ ns ++ (m ∷ ms)) → ⊥
        by (m, [], field, small, e, whole) = let none = ap is_some e in grind arith
        by (m, k ∷ ms, field, small, e, whole) = omega (arith, numbers.many, ap length whole, length-append ns (m ∷ k ∷ ms))

-- No number is left.
pub one_less : {rest left : Option (List ℕ)} {ns : List ℕ} {count : ℕ} → Sofar rest ns left → left ≡ None → length ns < count → (all : List ℕ) → Numbers count rest all → ⊥
one_less {rest} {left} {ns} sofar none less all numbers = by (sofar.parts all numbers.small numbers.text)
  where
    by : (ms : List ℕ) × (all ≡ ns ++ ms) × AllSmall ms × (left ≡ spaced ms) → ⊥
    by ([], whole, small, e) = omega (arith, numbers.many, ap length whole, length-append ns [])
    by (m ∷ ms, whole, small, e) = let no : ◌≡◌ {A = Option (List ℕ)} None (spaced (m ∷ ms)) = sym none ∙ e in absurd (grind arith)

pub all_read : {rest left : Option (List ℕ)} {ns : List ℕ} (count : ℕ) → Sofar rest ns left → left ≡ None → length ns ≡ count → Numbers count rest ns
all_read {ns = ns} count sofar none many = record { many = many; small = sofar.small; text = sofar.whole [] none ∙ ap spaced (append-nil ns) }

-- The numbers behind a name are fixed by it.
pub numbers_same : {count : ℕ} (rest : Option (List ℕ)) (ms ns : List ℕ) → Numbers count rest ms → Numbers count rest ns → ms ≡ ns
numbers_same rest ms ns a b = spaced_same ms ns a.small b.small (sym a.text ∙ b.text)
  where
    spaced_same : (ms ns : List ℕ) → AllSmall ms → AllSmall ns → spaced ms ≡ spaced ns → ms ≡ ns
    spaced_same [] [] s t e = refl
    spaced_same [] (n ∷ ns) s t e = absurd (grind arith)
    spaced_same (m ∷ ms) [] s t e = absurd (grind arith)
    spaced_same (m ∷ ms) (n ∷ ns) s t e =
        let fields = decimal m ++ behind 32 (spaced ms) in
        let p = first_is fields (decimal m) (spaced (m ∷ ms)) (spaced ms) refl (sym (front_clear 32 (decimal m) (spaced ms) (decimal_clear m s.0))) (sym (back_clear 32 (decimal m) (spaced ms) (decimal_clear m s.0))) n ns t.0 e in
        let same : m ≡ n = decimal_injective m n (wide m s.0) (wide n t.0) p.0 in
        let more = spaced_same ms ns s.1 t.1 p.1 in
        λ i. same i ∷ more i

pub none_mapped : {X Y : Type 0} (f : X → Y) (o : Option X) → is_some o ≡ false → option_map f o ≡ None
none_mapped f None e = refl
none_mapped f (Some x) e = absurd (grind arith)

pub some_mapped : {X Y : Type 0} (f : X → Y) (o : Option X) → is_some o ≡ true → is_some (option_map f o) ≡ true
some_mapped f None e = absurd (grind arith)
some_mapped f (Some x) e = refl

-- A refusal that is handed on.
pub handed_on : {X Y E : Type 0} (f : X → Y) (r : Result X E) (P : Y → Type 0) → IsErr r → ((y : Y) → P y → ⊥) → Settles (seen f r) P
handed_on f (Ok x) P is none = absurd (grind arith)
handed_on f (Err e) P is none = none

pub refused : {X E : Type 0} (r : Result X E) (P : X → Type 0) → IsErr r → ((x : X) → P x → ⊥) → Settles r P
refused (Ok x) P is none = absurd (grind arith)
refused (Err e) P is none = none

-- The same answer with another reason.
pub err_mapped : {X E F : Type 0} (P : X → Type 0) (Q : E → F → Type 0) (r : Result X E) (s : Result X F) → MatchResult r (λ x. s ≡ Ok x) (λ e. IsErrAnd s (Q e)) → Settles r P → Settles s P
err_mapped P Q (Ok x) s m settles = subst (λ y. Settles y P) (sym m) settles
err_mapped P Q (Err e) (Ok x) m settles = absurd (grind arith)
err_mapped P Q (Err e) (Err f) m settles = settles

pub ok_of : {X E : Type 0} (P : X → Type 0) (Q : E → Type 0) (r : Result X E) → MatchResult r P Q → ((e : E) → Q e → ⊥) → IsOk r
ok_of P Q (Ok x) m none = refl
ok_of P Q (Err e) m none = absurd (none e m)

pub at_ok : {X E : Type 0} (P : X → Type 0) (Q : E → Type 0) (r : Result X E) (x : X) → r ≡ Ok x → MatchResult r P Q → P x
at_ok P Q r x is m = subst (λ y. MatchResult y P Q) is m
