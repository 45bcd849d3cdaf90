-- A bay mended line by line. Assumes nothing.
use Rattle.std.proofs.Common.{◌≡◌, ℕ, ◌+◌, ◌%◌, ◌<◌, ◌≤◌, true, false, cond, ◌&&◌, eqb, ltb, ◌⊎◌, List, [], length, get_or, None, sym, refl, ap, ◌∙◌, subst, subst₂, inl, inr, arith, get_or-take}
use Rattle.std.proofs.lemmas.Bool.{cases_eq}
use Rattle.std.proofs.lemmas.Bool.Decides.{nat_tests}
use Rattle.field.specs.Structure.{Structure, size}
use Rattle.codeword.specs.Codeword.{codeword, words}
use Rattle.rack.specs.Meaning.{Meaning}
use Rattle.rack.specs.Calls.{with_bay, write_after}
use Rattle.rack.proofs.Laws.{same_meaning, after_accepted, cell_accepted}
use Rattle.worksheet.specs.Present.{present, highest}
use Rattle.worksheet.specs.Lines.{OnSheet, why_unrestored}
use Rattle.rules.specs.Known.{Known, front_of, put, with_behind}
use Rattle.rules.specs.Rules.{how_many_gone}
use Rattle.rules.specs.Effects.{Restored, Mended}
use Rattle.book.specs.Mending.{Ready}
use Rattle.book.proofs.Reasons.{unrestored, too_many}
use Rattle.book.proofs.Getting.{sheet_line}

-- A rack with the words w in the first lines of a bay.
abbrev pub with_first : Meaning → ℕ → ℕ → (ℕ → ℕ) → Meaning
with_first m bay n w = record {
  bays = m.bays;
  lines = m.lines;
  switch = m.switch;
  word = λ b l. cond (eqb b bay && ltb l n) (w l) (m.word b l);
}

module _ (k : Known) (m : Meaning) (bay room : ℕ) where
  -- the book knows the same, and the rack means the same still
  pub still_ready : (k₁ : Known) → k₁ ≡ k → (m₁ : Meaning) → m₁ ≡ m → Ready k m bay room → Ready k₁ m₁ bay room
  still_ready k₁ e m₁ f ok = subst₂ (λ (x : Known) (y : Meaning). Ready x y bay room) (sym e) (sym f) ok

module _ {K : Type 0} (s : Structure K) where
  -- The bay's word of a restored line.
  abbrev pub words_of : ℕ → (ℕ → List ℕ) → ℕ → ℕ
  words_of bay items line = get_or (codeword s (items line)) bay 0

  -- The first n lines are mended; from the first one on it is known that few bays are absent.
  pub record Mending (k : Known) (m : Meaning) (bay : ℕ) (sheet : List ℕ) (n : ℕ) (m' : Meaning) (sheet' : List ℕ) : Type 0 where
    pub items : ℕ → List ℕ
    pub restored : (line : ℕ) → line < n → Restored s k m line (items line)
    pub rack : m' ≡ with_first m bay n (words_of bay items)
    pub long : length sheet' ≡ length sheet
    pub fresh : n ≡ 0 → sheet' ≡ sheet
    pub few : (n ≡ 0) ⊎ (how_many_gone k (front_of m) ≤ 4)

  module _ (k : Known) (m : Meaning) (bay : ℕ) (behind : k.behind bay ≡ true) where
    pub mending_none : (sheet : List ℕ) → Mending k m bay sheet 0 m sheet
    mending_none sheet = record {
      items = λ _. [];
      restored = λ line h. absurd (omega arith);
      rack = same_meaning _ _ refl refl (λ b. refl) (λ b l. grind (arith, nat_tests));
      long = refl;
      fresh = λ e. refl;
      few = inl refl;
    }

    -- the bay is no present one
    not_highest : (b : ℕ) → highest k.items (present m.switch k.behind) b ≡ true → b ≡ bay → ⊥
    not_highest b high e = let gone : k.behind b ≡ true = ap k.behind e ∙ behind in grind (arith, nat_tests)

    -- so what is written there does not count
    still : (n line : ℕ) (w : ℕ → ℕ) (items : List ℕ) → Restored s k (with_first m bay n w) line items → Restored s k m line items
    still n line w items r = record {
      line = r.line;
      fits = λ b h high. r.fits b h high ∙ ap (λ x. x % words s) (elsewhere b (not_highest b high));
    }
      where
        elsewhere : (b : ℕ) → (b ≡ bay → ⊥) → (with_first m bay n w).word b line ≡ m.word b line
        elsewhere b d = grind (arith, nat_tests)

    module _ (sheet : List ℕ) (n : ℕ) (sheet₁ : List ℕ) (m₁ : Meaning) (so : Mending k m bay sheet n m₁ sheet₁)
        (ok : Ready k m bay (length sheet)) (less : n < m.lines) (some : 1 ≤ k.items) (fits : k.items ≤ size s) where
      -- a line is not restored where too many bays are absent, which the first line tells
      pub why_line : why_unrestored s m₁ k.behind (length sheet₁) n ≡ too_many k (front_of m)
      why_line =
          (λ i. why_unrestored s (so.rack i) k.behind (so.long i) n)
          ∙ unrestored s k (with_first m bay n (words_of bay so.items)) (length sheet) n some fits ok.bays ok.wide less

      abbrev next : List ℕ → ℕ → List ℕ
      next items = put so.items n items

      here : (items : List ℕ) → words_of bay (next items) n ≡ get_or (codeword s items) bay 0
      here items = let e : next items n ≡ items = grind (arith, nat_tests) in ap (λ i. get_or (codeword s i) bay 0) e

      there : (items : List ℕ) (l : ℕ) → (l ≡ n → ⊥) → words_of bay (next items) l ≡ words_of bay so.items l
      there items l d = let e : next items l ≡ so.items l = grind (arith, nat_tests) in ap (λ i. get_or (codeword s i) bay 0) e

      one_more : (items : List ℕ) → write_after (with_first m bay n (words_of bay so.items)) bay n (get_or (codeword s items) bay 0)
          ≡ with_first m bay (n + 1) (words_of bay (next items))
      one_more items =
          after_accepted _ _ _ (cell_accepted (with_first m bay n (words_of bay so.items)) bay n ok.within less ok.on)
          ∙ same_meaning _ _ refl refl (λ b. refl) (λ b l. cell b l)
        where
          cell : (b l : ℕ) → cond (eqb b bay && eqb l n) (get_or (codeword s items) bay 0) (cond (eqb b bay && ltb l n) (words_of bay so.items l) (m.word b l))
              ≡ cond (eqb b bay && ltb l (n + 1)) (words_of bay (next items) l) (m.word b l)
          cell b l = elim (cases_eq l n) [
            | inl e ↦ let same : words_of bay (next items) l ≡ get_or (codeword s items) bay 0 = ap (words_of bay (next items)) e ∙ here items in grind (arith, nat_tests)
            | inr d ↦ let same : words_of bay (next items) l ≡ words_of bay so.items l = there items l d in grind (arith, nat_tests)
          ]

      restored_next : (items : List ℕ) → Restored s k m n items → (line : ℕ) → line < n + 1 → Restored s k m line (next items line)
      restored_next items r line h = elim (cases_eq line n) [
        | inl e ↦ let f : next items line ≡ items = grind (arith, nat_tests) in subst₂ (λ (l : ℕ) (i : List ℕ). Restored s k m l i) (sym e) (sym f) r
        | inr d ↦ let f : next items line ≡ so.items line = grind (arith, nat_tests) in subst (λ (i : List ℕ). Restored s k m line i) (sym f) (so.restored line (omega arith))
      ]

      few_then : too_many k (front_of m) ≡ None → how_many_gone k (front_of m) ≤ 4
      few_then e = grind (arith, nat_tests)

      pub mending_more : (sheet₂ : List ℕ) → OnSheet s m₁ k.behind n sheet₁ sheet₂ → why_unrestored s m₁ k.behind (length sheet₁) n ≡ None
          → (m₂ m₃ : Meaning) → m₂ ≡ m₁ → m₃ ≡ write_after m₂ bay n (get_or sheet₂ bay 0) → Mending k m bay sheet (n + 1) m₃ sheet₂
      mending_more sheet₂ on_sheet done m₂ m₃ same wrote =
          let m₀ = with_first m bay n (words_of bay so.items) in
          let held = sheet_line s k m₀ n ok.bays sheet₁ sheet₂ (subst (λ (x : Meaning). OnSheet s x k.behind n sheet₁ sheet₂) so.rack on_sheet) in
          let word : get_or sheet₂ bay 0 ≡ get_or (codeword s held.items) bay 0 =
          sym (get_or-take (k.items + 4) sheet₂ bay 0 (omega (arith, ok.bays, ok.within))) ∙ ap (λ l. get_or l bay 0) held.front in
          record {
            items = next held.items;
            restored = restored_next held.items (still n n (words_of bay so.items) held.items held.restored);
            rack = wrote ∙ (λ i. write_after ((same ∙ so.rack) i) bay n (word i)) ∙ one_more held.items;
            long = held.long ∙ so.long;
            fresh = λ e. absurd (omega arith);
            few = inr (few_then (sym why_line ∙ done));
          }

    -- all lines are mended
    module _ (sheet sheet₁ : List ℕ) (m₁ : Meaning) (so : Mending k m bay sheet m.lines m₁ sheet₁) (ok : Ready k m bay (length sheet)) where
      cell_all : (w : ℕ → ℕ) (b : ℕ) → m.switch b ≡ (with_bay m bay w).switch b
      cell_all w b = elim (cases_eq b bay) [
        | inl e ↦ let here : m.switch b ≡ true = ap m.switch e ∙ ok.on in grind (arith, nat_tests)
        | inr d ↦ grind (arith, nat_tests)
      ]

      whole : (k' : Known) → k' ≡ with_behind k (put k.behind bay false) → Mended s k m bay k' m₁
      whole k' e = record {
        items = so.items;
        restored = λ line h. so.restored line (omega (arith, ok.lines));
        rack = so.rack ∙ same_meaning _ _ refl refl (cell_all (words_of bay so.items)) (λ b l. refl);
        book = e;
      }

      pub mended : (m₀ : Meaning) → m ≡ m₀ → (k' : Known) → k' ≡ with_behind k (put k.behind bay false) → Mended s k m₀ bay k' m₁
      mended m₀ same k' e = subst (λ (x : Meaning). Mended s k x bay k' m₁) same (whole k' e)
