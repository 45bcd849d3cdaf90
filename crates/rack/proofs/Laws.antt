-- The laws of a rack's calls, place by place: what callers need of the definitions of Calls. Assumes nothing.
use Rattle.std.proofs.Common.{◌≡◌, ℕ, ◌^◌, ◌<◌, ◌≤◌, Bool, true, false, Some, None, Ok, Err, Option, sym, refl, subst, arith}
use Rattle.std.proofs.lemmas.Bool.Decides.{nat_tests}
use Rattle.fault.specs.declared.fault.RackFault.{RackFault}
use Rattle.fault.specs.declared.fault.RackFault.TheVariants.{NoBay, NoLine, Silent}
use Rattle.rack.specs.Meaning.{Meaning, InRange, answers}
use Rattle.rack.specs.Calls.{bay_refusal, cell_refusal, answer, read_answer, after, with_word, with_switch, with_bay, write_after, switch_after, exchange_after}

-- Racks that agree at every place mean the same.
pub same_meaning : (m n : Meaning) → m.bays ≡ n.bays → m.lines ≡ n.lines → ((b : ℕ) → m.switch b ≡ n.switch b) → ((b l : ℕ) → m.word b l ≡ n.word b l) → m ≡ n
same_meaning m n bays lines switches words =
    λ i. record { bays = bays i; lines = lines i; switch = λ b. switches b i; word = λ b l. words b l i }

-- An accepted call gives the changed meaning, a refused one changes nothing.
pub after_accepted : (o : Option RackFault) (m n : Meaning) → o ≡ None → after o m n ≡ n
after_accepted o m n e = rw e

pub after_refused : (o : Option RackFault) (m n : Meaning) (f : RackFault) → o ≡ Some f → after o m n ≡ m
after_refused o m n f e = rw e

-- What holds of the meaning before the call and of the changed one holds after the call.
pub after_both : (P : Meaning → Type 0) (o : Option RackFault) (m n : Meaning) → P m → P n → P (after o m n)
after_both P None m n p q = q
after_both P (Some f) m n p q = p

-- When a call is refused, and by what.
module _ (m : Meaning) (bay : ℕ) where
  pub bay_accepted : bay < m.bays → bay_refusal m bay ≡ None
  bay_accepted h = grind (arith, nat_tests)

  pub bay_refused : m.bays ≤ bay → bay_refusal m bay ≡ Some (NoBay bay)
  bay_refused h = grind (arith, nat_tests)

  pub bay_below : bay_refusal m bay ≡ None → bay < m.bays
  bay_below e = grind (arith, nat_tests)

  pub cell_accepted : (line : ℕ) → bay < m.bays → line < m.lines → answers m bay ≡ true → cell_refusal m bay line ≡ None
  cell_accepted line h k on = grind (arith, nat_tests)

  pub cell_no_bay : (line : ℕ) → m.bays ≤ bay → cell_refusal m bay line ≡ Some (NoBay bay)
  cell_no_bay line h = grind (arith, nat_tests)

  pub cell_no_line : (line : ℕ) → bay < m.bays → m.lines ≤ line → cell_refusal m bay line ≡ Some (NoLine line)
  cell_no_line line h k = grind (arith, nat_tests)

  pub cell_silent : (line : ℕ) → bay < m.bays → line < m.lines → answers m bay ≡ false → cell_refusal m bay line ≡ Some (Silent bay)
  cell_silent line h k off = grind (arith, nat_tests)

  pub cell_within : (line : ℕ) → cell_refusal m bay line ≡ None → (bay < m.bays) × (line < m.lines) × (answers m bay ≡ true)
  cell_within line e = (grind (arith, nat_tests), grind (arith, nat_tests), grind (arith, nat_tests))

-- What a call answers, and what its answer tells.
pub answer_accepted : {A : Type 0} (o : Option RackFault) (x : A) → o ≡ None → answer o x ≡ Ok x
answer_accepted o x e = rw e

pub answer_refused : {A : Type 0} (o : Option RackFault) (x : A) (f : RackFault) → o ≡ Some f → answer o x ≡ Err f
answer_refused o x f e = rw e

pub answered : {A : Type 0} (o : Option RackFault) (x y : A) → answer o x ≡ Ok y → (o ≡ None) × (x ≡ y)
answered None x y e = (refl, cc)
answered (Some f) x y e = (cc, cc)

pub refused_by : {A : Type 0} (o : Option RackFault) (x : A) (f : RackFault) → answer o x ≡ Err f → o ≡ Some f
refused_by None x f e = cc
refused_by (Some g) x f e = cc

module _ (m : Meaning) (bay line : ℕ) where
  pub read_word : (w : ℕ) → read_answer m bay line ≡ Ok w → (bay < m.bays) × (line < m.lines) × (answers m bay ≡ true) × (m.word bay line ≡ w)
  read_word w e =
      let told = answered (cell_refusal m bay line) (m.word bay line) w e in
      let inside = cell_within m bay line told.0 in
      (inside.0, inside.1, inside.2, told.1)

  pub read_silent : (b : ℕ) → read_answer m bay line ≡ Err (Silent b) → (bay < m.bays) × (line < m.lines) × (answers m bay ≡ false) × (b ≡ bay)
  read_silent b e =
      let told = refused_by (cell_refusal m bay line) (m.word bay line) (Silent b) e in
      (grind (arith, nat_tests), grind (arith, nat_tests), grind (arith, nat_tests), grind (arith, nat_tests))

-- The sizes never change.
module _ (m : Meaning) (bay : ℕ) where
  pub write_bays : (line w : ℕ) → (write_after m bay line w).bays ≡ m.bays
  write_bays line w = after_both (λ n. n.bays ≡ m.bays) (cell_refusal m bay line) m (with_word m bay line w) refl refl

  pub write_lines : (line w : ℕ) → (write_after m bay line w).lines ≡ m.lines
  write_lines line w = after_both (λ n. n.lines ≡ m.lines) (cell_refusal m bay line) m (with_word m bay line w) refl refl

  pub switch_bays : (s : Bool) → (switch_after m bay s).bays ≡ m.bays
  switch_bays s = after_both (λ n. n.bays ≡ m.bays) (bay_refusal m bay) m (with_switch m bay s) refl refl

  pub switch_lines : (s : Bool) → (switch_after m bay s).lines ≡ m.lines
  switch_lines s = after_both (λ n. n.lines ≡ m.lines) (bay_refusal m bay) m (with_switch m bay s) refl refl

  pub exchange_bays : (ws : ℕ → ℕ) → (exchange_after m bay ws).bays ≡ m.bays
  exchange_bays ws = after_both (λ n. n.bays ≡ m.bays) (bay_refusal m bay) m (with_bay m bay ws) refl refl

  pub exchange_lines : (ws : ℕ → ℕ) → (exchange_after m bay ws).lines ≡ m.lines
  exchange_lines ws = after_both (λ n. n.lines ≡ m.lines) (bay_refusal m bay) m (with_bay m bay ws) refl refl

-- What a change does at its own place, and that it does nothing at another.
module _ (m : Meaning) (bay : ℕ) where
  pub word_set : (line w : ℕ) → (with_word m bay line w).word bay line ≡ w
  word_set line w = grind (arith, nat_tests)

  pub word_other_bay : (line w b l : ℕ) → (b ≡ bay → ⊥) → (with_word m bay line w).word b l ≡ m.word b l
  word_other_bay line w b l ne = grind (arith, nat_tests)

  pub word_other_line : (line w b l : ℕ) → (l ≡ line → ⊥) → (with_word m bay line w).word b l ≡ m.word b l
  word_other_line line w b l ne = grind (arith, nat_tests)

  pub switch_set : (s : Bool) → (with_switch m bay s).switch bay ≡ s
  switch_set s = grind (arith, nat_tests)

  pub switch_other : (s : Bool) (b : ℕ) → (b ≡ bay → ⊥) → (with_switch m bay s).switch b ≡ m.switch b
  switch_other s b ne = grind (arith, nat_tests)

  module _ (ws : ℕ → ℕ) where
    pub bay_on : (with_bay m bay ws).switch bay ≡ true
    bay_on = grind (arith, nat_tests)

    pub bay_switch_other : (b : ℕ) → (b ≡ bay → ⊥) → (with_bay m bay ws).switch b ≡ m.switch b
    bay_switch_other b ne = grind (arith, nat_tests)

    pub bay_word : (l : ℕ) → l < m.lines → (with_bay m bay ws).word bay l ≡ ws l
    bay_word l h = grind (arith, nat_tests)

    pub bay_word_other : (b l : ℕ) → (b ≡ bay → ⊥) → (with_bay m bay ws).word b l ≡ m.word b l
    bay_word_other b l ne = grind (arith, nat_tests)

    pub bay_word_past : (b l : ℕ) → m.lines ≤ l → (with_bay m bay ws).word b l ≡ m.word b l
    bay_word_past b l h = grind (arith, nat_tests)

-- The words that a bay was given are those that the rack then means.
module _ (m : Meaning) (bay : ℕ) (ws : ℕ → ℕ) where
  same_words : with_bay m bay ws ≡ with_bay m bay ((with_bay m bay ws).word bay)
  same_words = same_meaning (with_bay m bay ws) (with_bay m bay ((with_bay m bay ws).word bay)) refl refl (λ b. refl) (λ b l. grind (arith, nat_tests))

  pub bay_own : (n : Meaning) → n ≡ with_bay m bay ws → n ≡ with_bay m bay (n.word bay)
  bay_own n e = subst (λ (x : Meaning). x ≡ with_bay m bay (x.word bay)) (sym e) same_words

  own : (o : Option RackFault) → after o m (with_bay m bay ws) ≡ after o m (with_bay m bay ((after o m (with_bay m bay ws)).word bay))
  own None = same_words
  own (Some f) = refl

  pub exchange_own : (n : Meaning) → n ≡ exchange_after m bay ws → n ≡ exchange_after m bay (n.word bay)
  exchange_own n e = subst (λ (x : Meaning). x ≡ exchange_after m bay (x.word bay)) (sym e) (own (bay_refusal m bay))

-- The ranges last.
module _ (m : Meaning) (ok : InRange m) (bay : ℕ) where
  word_below : (line w : ℕ) → w < 2 ^ 16 → (b l : ℕ) → b < m.bays → l < m.lines → (with_word m bay line w).word b l < 2 ^ 16
  word_below line w small b l h k = let p = ok.words b l h k in grind (arith, nat_tests)

  pub write_ranges : (line w : ℕ) → w < 2 ^ 16 → InRange (write_after m bay line w)
  write_ranges line w small = after_both InRange (cell_refusal m bay line) m (with_word m bay line w) ok record {
    some_bays = ok.some_bays;
    few_bays = ok.few_bays;
    some_lines = ok.some_lines;
    few_lines = ok.few_lines;
    words = word_below line w small;
  }

  pub switch_ranges : (s : Bool) → InRange (switch_after m bay s)
  switch_ranges s = after_both InRange (bay_refusal m bay) m (with_switch m bay s) ok record {
    some_bays = ok.some_bays;
    few_bays = ok.few_bays;
    some_lines = ok.some_lines;
    few_lines = ok.few_lines;
    words = ok.words;
  }

  bay_below_16 : (ws : ℕ → ℕ) → ((l : ℕ) → l < m.lines → ws l < 2 ^ 16) → (b l : ℕ) → b < m.bays → l < m.lines → (with_bay m bay ws).word b l < 2 ^ 16
  bay_below_16 ws small b l h k = let p = ok.words b l h k in let q = small l k in grind (arith, nat_tests)

  pub exchange_ranges : (ws : ℕ → ℕ) → ((l : ℕ) → l < m.lines → ws l < 2 ^ 16) → InRange (exchange_after m bay ws)
  exchange_ranges ws small = after_both InRange (bay_refusal m bay) m (with_bay m bay ws) ok record {
    some_bays = ok.some_bays;
    few_bays = ok.few_bays;
    some_lines = ok.some_lines;
    few_lines = ok.few_lines;
    words = bay_below_16 ws small;
  }
