-- What a book and a rack that stand by the ledger hold, and that they stand by it after each accepted call. Assumes nothing.
use Rattle.std.proofs.Common.{◌≡◌, ℕ, ◌+◌, ◌-◌, ◌%◌, ◌<◌, ◌≤◌, Bool, true, false, cond, not, ◌&&◌, ◌||◌, eqb, ltb, List, get_or, set, Some, None, Option, sym, refl, ap, ◌∙◌, subst, inl, inr, arith, get_or-set_other}
use Rattle.std.proofs.lemmas.Bool.{both_ways, not-true, not-false, and_parts, and_from, and_left, and_right, and_cases, or_parts, not_from_false, cond-true, cond-false, lt-ltb, ltb-false, eq-eqb, ne_eqb, eqb-false, cases_eq, cases_lt, cases_Bool}
use Rattle.std.proofs.lemmas.Bool.Decides.{nat_tests}
use Rattle.field.specs.Structure.{Structure}
use Rattle.codeword.specs.Sums.{count}
use Rattle.codeword.specs.Codeword.{words, codeword}
use Rattle.codeword.proofs.Counts.{count_ext}
use Rattle.distance.proofs.Syndromes.{codeword_item}
use Rattle.rack.specs.Meaning.{Meaning}
use Rattle.rack.specs.Calls.{with_switch, with_bay}
use Rattle.worksheet.specs.Present.{present}
use Rattle.worksheet.specs.Lines.{word_at, RestoredLine}
use Rattle.call.specs.declared.Call.TheVariants.{Post, Release, Mend}
use Rattle.rules.specs.Known.{Known, put, with_behind, front_of}
use Rattle.rules.specs.Rules.{how_many_gone}
use Rattle.rules.specs.Effects.{concerned, behind_after_post, Restored, Gives, Got, Posted, Mended}
use Rattle.ledger.specs.Ledger.{Ledger, change, with_count}
use Rattle.ledger.specs.Stands.{row, posted, Sound, Stands}
use Rattle.rules.proofs.Knowing.{put_other}
use Rattle.rules.proofs.Refusals.{Gettable, Postable, Mendable}
use Rattle.ledger.proofs.Lines.{posted_item, row_ext, set_row, codeword_same, restored_is, posted_line, posted_small}

-- the counts of the item change in one line
set_count : (count : ℕ → ℕ → ℕ) (item line word n : ℕ) → item < n → row (λ i. with_count count item line word i line) n ≡ set (row (λ i. count i line) n) item word
set_count count item line word n h =
    row_ext (λ i. with_count count item line word i line) (put (λ i. count i line) item word) n (λ i _. at (eqb i item) (eqb line line) (count i line) (eq-eqb line line refl))
    ∙ sym (set_row (λ i. count i line) n item word h)
  where
    at : (e t : Bool) (x : ℕ) → t ≡ true → cond (e && t) word x ≡ cond e word x
    at e t x q = grind (arith, nat_tests)

-- and no other line does
other_count : (count : ℕ → ℕ → ℕ) (item line word n other : ℕ) → (other ≡ line → ⊥) → row (λ i. with_count count item line word i other) n ≡ row (λ i. count i other) n
other_count count item line word n other d =
    row_ext (λ i. with_count count item line word i other) (λ i. count i other) n
    (λ i _. cond-false (eqb i item && eqb other line) word (count i other) (and_right (eqb i item) (eqb other line) (ne_eqb other line d)))

-- the bays that a post concerns are bays of the rack
far : (n bay item : ℕ) (x a b : Bool) → n + 4 ≤ bay → item < n → (x || (concerned item bay && not a)) ≡ (x || (concerned item bay && not b))
far n bay item x a b h k = let away : concerned item bay ≡ false = grind (arith, nat_tests) in rw away

switched : (c on : Bool) → c ≡ true → (c && not on) ≡ false → on ≡ true
switched c on e f = not-false on (sym (ap (λ x. x && not on) e) ∙ f)

-- marks as the ledger has them are at most four
few_marks : {K : Type 0} (s : Structure K) (l : Ledger) (marks : ℕ → Bool) → Sound s l → ((bay : ℕ) → marks bay ≡ l.behind bay) → count marks (l.items + 4) ≤ 4
few_marks s l marks sound same = rw (count_ext marks l.behind (l.items + 4) (λ bay _. same bay)) sound.few

module _ {K : Type 0} (s : Structure K) (l : Ledger) (k : Known) (drawer : Option ℕ) (m : Meaning) (sound : Sound s l) (st : Stands s l k drawer m) where
  pub same_present : (bay : ℕ) → bay < l.items + 4 → present m.switch k.behind bay ≡ present l.switch l.behind bay
  same_present bay h = ap (λ x. x && not (k.behind bay)) (st.switches bay h) ∙ ap (λ x. l.switch bay && not x) (st.marks bay)

  pub present_word : (line bay : ℕ) → bay < l.items + 4 → line < l.lines → present m.switch k.behind bay ≡ true → word_at s m line bay ≡ get_or (codeword s (posted l line)) bay 0
  present_word line bay h inside here =
      let ready : l.behind bay ≡ false = sym (st.marks bay) ∙ not-true (k.behind bay) (and_parts (m.switch bay) (not (k.behind bay)) here).1 in
      ap (λ w. w % words s) (st.words bay line h inside ready) ∙ posted_small s l sound line bay h

  few_absent : how_many_gone k (front_of m) ≤ 4 → count (λ bay. not (present m.switch k.behind bay)) (l.items + 4) ≤ 4
  few_absent few =
      let size : m.bays ≡ l.items + 4 = st.rack_bays ∙ sound.bays in
      let same : count (λ bay. not (present m.switch k.behind bay)) m.bays ≡ count (λ bay. not (present m.switch k.behind bay)) (l.items + 4)
      = ap (count (λ bay. not (present m.switch k.behind bay))) size in
      omega (arith, few)

  pub restored_posted : how_many_gone k (front_of m) ≤ 4 → (line : ℕ) (items : List ℕ) → line < l.lines → Restored s k m line items → items ≡ posted l line
  restored_posted few line items inside restored =
      restored_is s l.items (omega (arith, sound.fits, sound.field)) (present m.switch k.behind) (word_at s m line) (few_absent few) (posted l line) items (posted_line s l sound line)
      (λ bay h here. present_word line bay h inside here)
      (subst (λ n. RestoredLine s n (present m.switch k.behind) (word_at s m line) items) st.items restored)

  -- a get gives the count
  pub got_count : (room item line v : ℕ) → Gettable k (front_of m) room item line → Got s k m item line v → v ≡ l.count item line
  got_count room item line v ok got = go (present m.switch k.behind (item + 4)) refl got
    where
      in_items : item < l.items
      in_items = omega (arith, ok.cell.item_below, st.items)

      in_lines : line < l.lines
      in_lines = omega (arith, ok.cell.line_below, st.lines)

      go : (t : Bool) → present m.switch k.behind (item + 4) ≡ t → Gives s t k m item line v → v ≡ l.count item line
      go true here is =
          is ∙ present_word line (item + 4) (omega arith) in_lines here ∙ codeword_item s (posted l line) item ∙ posted_item l item line in_items
      go false away (items, restored, is) =
          let few : how_many_gone k (front_of m) ≤ 4 = elim (and_cases _ _ ok.decided) [
            | inl e ↦ ltb-false 4 (how_many_gone k (front_of m)) e
            | inr e ↦ absurd (both_ways (present m.switch k.behind (item + 4)) away (not-false _ e))
          ] in
          is ∙ ap (λ xs. get_or xs item 0) (restored_posted few line items in_lines restored) ∙ posted_item l item line in_items

  -- after an accepted post
  pub posted_stands : (qq room item line word : ℕ) (k' : Known) (m' : Meaning) → Postable qq k (front_of m) room item line word → Sound s (change l (Post item line word))
      → Posted s k m item line word k' m' → Stands s (change l (Post item line word)) k' drawer m'
  posted_stands qq room item line word k' m' ok after p = record {
    marks = marks;
    at_most_four = few_marks s (change l (Post item line word)) k'.behind after marks;
    words = λ bay j h inside ready. ap (λ x. x.word bay j) p.rack ∙ holds bay j h inside ready;
    switches = λ bay h. ap (λ x. x.switch bay) p.rack ∙ st.switches bay h;
    items = ap (λ x. x.items) p.book ∙ st.items;
    lines = ap (λ x. x.lines) p.book ∙ st.lines;
    rack_bays = ap (λ x. x.bays) p.rack ∙ st.rack_bays;
    rack_lines = ap (λ x. x.lines) p.rack ∙ st.rack_lines;
    open_drawer = st.open_drawer;
  }
    where
      in_items : item < l.items
      in_items = omega (arith, ok.cell.item_below, st.items)

      in_lines : line < l.lines
      in_lines = omega (arith, ok.cell.line_below, st.lines)

      marks : (bay : ℕ) → k'.behind bay ≡ behind_after_post l.switch l.behind item bay
      marks bay =
          ap (λ x. x.behind bay) p.book ∙ ap (λ x. x || (concerned item bay && not (m.switch bay))) (st.marks bay)
          ∙ elim (cases_lt bay (l.items + 4)) [
            | inl h ↦ ap (λ x. l.behind bay || (concerned item bay && not x)) (st.switches bay h)
            | inr h ↦ far l.items bay item (l.behind bay) (m.switch bay) (l.switch bay) h in_items
          ]

      line_is : set p.items item word ≡ row (λ i. with_count l.count item line word i line) l.items
      line_is = ap (λ xs. set xs item word) (restored_posted ok.few line p.items in_lines p.restored) ∙ sym (set_count l.count item line word l.items in_items)

      -- the line of the post
      own : (bay : ℕ) → bay < l.items + 4 → behind_after_post l.switch l.behind item bay ≡ false
          → cond ((concerned item bay && present m.switch k.behind bay) && eqb line line) (get_or (codeword s (set p.items item word)) bay 0) (m.word bay line)
          ≡ get_or (codeword s (row (λ i. with_count l.count item line word i line) l.items)) bay 0
      own bay h ready =
          let (up, told) = or_parts (l.behind bay) (concerned item bay && not (l.switch bay)) ready in
          elim (cases_Bool (concerned item bay)) [
            | inl c ↦
                let on : l.switch bay ≡ true = switched (concerned item bay) (l.switch bay) c told in
                let here : present m.switch k.behind bay ≡ true = same_present bay h ∙ and_from (l.switch bay) (not (l.behind bay)) on (not_from_false (l.behind bay) up) in
                cond-true _ (get_or (codeword s (set p.items item word)) bay 0) (m.word bay line) (and_from _ (eqb line line) (and_from _ _ c here) (eq-eqb line line refl))
                ∙ ap (λ xs. get_or (codeword s xs) bay 0) line_is
            | inr c ↦
                let (low, at) = or_parts (ltb bay 4) (eqb bay (item + 4)) c in
                let high : 4 ≤ bay = ltb-false bay 4 low in
                let apart : bay - 4 ≡ item → ⊥ = λ e. eqb-false bay (item + 4) at (omega arith) in
                cond-false _ (get_or (codeword s (set p.items item word)) bay 0) (m.word bay line) (and_left _ (eqb line line) (and_left _ _ c))
                ∙ st.words bay line h in_lines up
                ∙ codeword_same s (posted l line) (set (posted l line) item word) bay high (sym (get_or-set_other (posted l line) item (bay - 4) word 0 apart))
                ∙ ap (λ xs. get_or (codeword s xs) bay 0) (sym (set_count l.count item line word l.items in_items))
          ]

      holds : (bay j : ℕ) → bay < l.items + 4 → j < l.lines → behind_after_post l.switch l.behind item bay ≡ false
          → cond ((concerned item bay && present m.switch k.behind bay) && eqb j line) (get_or (codeword s (set p.items item word)) bay 0) (m.word bay j)
          ≡ get_or (codeword s (row (λ i. with_count l.count item line word i j) l.items)) bay 0
      holds bay j h inside ready =
          elim (cases_eq j line) [
            | inl e ↦ subst
                (λ x.
                cond ((concerned item bay && present m.switch k.behind bay) && eqb x line) (get_or (codeword s (set p.items item word)) bay 0) (m.word bay x)
                ≡ get_or (codeword s (row (λ i. with_count l.count item line word i x) l.items)) bay 0)
                (sym e) (own bay h ready)
            | inr d ↦
                cond-false _ (get_or (codeword s (set p.items item word)) bay 0) (m.word bay j) (and_right _ (eqb j line) (ne_eqb j line d))
                ∙ st.words bay j h inside (or_parts (l.behind bay) _ ready).0
                ∙ ap (λ xs. get_or (codeword s xs) bay 0) (sym (other_count l.count item line word l.items j d))
          ]

  -- after an accepted mend
  pub mended_stands : (bay : ℕ) (k' : Known) (m' : Meaning) → Mendable k (front_of m) bay → Sound s (change l (Mend bay)) → Mended s k m bay k' m' → Stands s (change l (Mend bay)) k' drawer m'
  mended_stands bay k' m' ok after p = record {
    marks = marks;
    at_most_four = few_marks s (change l (Mend bay)) k'.behind after marks;
    words = λ b j h inside ready. ap (λ x. x.word b j) p.rack ∙ holds b j h inside ready;
    switches = λ b h. ap (λ x. x.switch b) p.rack ∙ switches b h;
    items = ap (λ x. x.items) p.book ∙ st.items;
    lines = ap (λ x. x.lines) p.book ∙ st.lines;
    rack_bays = ap (λ x. x.bays) p.rack ∙ st.rack_bays;
    rack_lines = ap (λ x. x.lines) p.rack ∙ st.rack_lines;
    open_drawer = st.open_drawer;
  }
    where
      marks : (b : ℕ) → k'.behind b ≡ put l.behind bay false b
      marks b = ap (λ x. x.behind b) p.book ∙ ap (λ x. cond (eqb b bay) false x) (st.marks b)

      switches : (b : ℕ) → b < l.items + 4 → cond (eqb b bay) true (m.switch b) ≡ l.switch b
      switches b h = elim (cases_eq b bay) [
        | inl e ↦ cond-true (eqb b bay) true (m.switch b) (eq-eqb b bay e) ∙ sym ok.answers ∙ ap m.switch (sym e) ∙ st.switches b h
        | inr d ↦ cond-false (eqb b bay) true (m.switch b) (ne_eqb b bay d) ∙ st.switches b h
      ]

      holds : (b j : ℕ) → b < l.items + 4 → j < l.lines → put l.behind bay false b ≡ false
          → cond (eqb b bay && ltb j m.lines) (get_or (codeword s (p.items j)) bay 0) (m.word b j) ≡ get_or (codeword s (posted l j)) b 0
      holds b j h inside ready = elim (cases_eq b bay) [
        | inl e ↦
            cond-true _ (get_or (codeword s (p.items j)) bay 0) (m.word b j) (and_from (eqb b bay) (ltb j m.lines) (eq-eqb b bay e) (lt-ltb j m.lines (omega (arith, st.rack_lines))))
            ∙ ap (λ xs. get_or (codeword s xs) bay 0) (restored_posted ok.few j (p.items j) inside (p.restored j (omega (arith, st.lines))))
            ∙ ap (λ x. get_or (codeword s (posted l j)) x 0) (sym e)
        | inr d ↦
            cond-false _ (get_or (codeword s (p.items j)) bay 0) (m.word b j) (and_left (eqb b bay) (ltb j m.lines) (ne_eqb b bay d))
            ∙ st.words b j h inside (sym (put_other l.behind bay false b d) ∙ ready)
      ]

  -- a bay that the rack has is switched
  pub switched_stands : (bay : ℕ) (on : Bool)
      → Stands s (record l { switch = put l.switch bay on }) k drawer (with_switch m bay on)
  switched_stands bay on = record {
    marks = st.marks;
    at_most_four = st.at_most_four;
    words = st.words;
    switches = λ b h. ap (λ x. cond (eqb b bay) on x) (st.switches b h);
    items = st.items;
    lines = st.lines;
    rack_bays = st.rack_bays;
    rack_lines = st.rack_lines;
    open_drawer = st.open_drawer;
  }

  -- a bay is let go
  pub released_stands : (bay : ℕ) → Sound s (change l (Release bay)) → Stands s (change l (Release bay)) (with_behind k (put k.behind bay true)) (Some bay) m
  released_stands bay after = record {
    marks = marks;
    at_most_four = few_marks s (change l (Release bay)) (put k.behind bay true) after marks;
    words = λ b j h inside ready. st.words b j h inside (was (eqb b bay) (l.behind b) ready);
    switches = st.switches;
    items = st.items;
    lines = st.lines;
    rack_bays = st.rack_bays;
    rack_lines = st.rack_lines;
    open_drawer = refl;
  }
    where
      marks : (b : ℕ) → put k.behind bay true b ≡ put l.behind bay true b
      marks b = ap (λ x. cond (eqb b bay) true x) (st.marks b)

      was : (t x : Bool) → cond t true x ≡ false → x ≡ false
      was true x e = absurd (both_ways true e refl)
      was false x e = e

  -- a bay that was let go is put in again: it is behind, and any words may stand in it
  pub seated_stands : (bay : ℕ) (ws : ℕ → ℕ) → l.behind bay ≡ true
      → Stands s (record l { switch = put l.switch bay true; drawer = None }) k None (with_bay m bay ws)
  seated_stands bay ws out = record {
    marks = st.marks;
    at_most_four = st.at_most_four;
    words = λ b j h inside ready.
        let apart : b ≡ bay → ⊥ = λ e. both_ways (l.behind b) ready (ap l.behind e ∙ out) in
        cond-false _ (ws j) (m.word b j) (and_left (eqb b bay) (ltb j m.lines) (ne_eqb b bay apart)) ∙ st.words b j h inside ready;
    switches = λ b h. ap (λ x. cond (eqb b bay) true x) (st.switches b h);
    items = st.items;
    lines = st.lines;
    rack_bays = st.rack_bays;
    rack_lines = st.rack_lines;
    open_drawer = refl;
  }
