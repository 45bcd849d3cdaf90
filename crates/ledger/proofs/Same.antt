-- A book and a rack that stand by the ledger are refused calls by the same rules as the ledger. Assumes nothing.
use Rattle.std.proofs.Common.{◌≡◌, ℕ, ◌+◌, ◌<◌, Bool, true, false, not, ◌&&◌, ◌||◌, eqb, ltb, leb, Some, None, Option, refl, ap, ◌∙◌, inl, inr, arith}
use Rattle.std.proofs.lemmas.Bool.{cases_lt, le-leb, both_ways}
use Rattle.fault.specs.Refusing.{when, or_else}
use Rattle.fault.specs.declared.fault.BookFault.TheVariants.{OtherRack, ListLength, NoItem, NoLine, WordTooLarge, NoBay, NotBehind, TooManyAbsent}
use Rattle.fault.specs.declared.fault.RackFault.TheVariants.{Silent}
use Rattle.fault.specs.declared.fault.Fault.{Fault}
use Rattle.fault.specs.declared.fault.Fault.TheVariants.{Book, Rack}
use Rattle.field.specs.Structure.{Structure}
use Rattle.codeword.specs.Sums.{count}
use Rattle.codeword.proofs.Counts.{count_ext}
use Rattle.rack.specs.Meaning.{Meaning}
use Rattle.rules.specs.Known.{Known, Front, front_of}
use Rattle.rules.specs.Rules.{other_rack, gone, how_many_gone, why_cell, why_get, why_post, why_mend, why_release, why_seat}
use Rattle.rules.proofs.Refusals.{good}
use Rattle.rules.proofs.Knowing.{same_known}
use Rattle.ledger.specs.Ledger.{Ledger, known, front}
use Rattle.ledger.specs.Stands.{Sound, Stands}

-- what comes after a rule that refuses does not matter
third : {A : Type 0} (a b c : Bool) (x y z : A) (u v : Option A) → c ≡ true
    → or_else (when a x) (or_else (when b y) (or_else (when c z) u)) ≡ or_else (when a x) (or_else (when b y) (or_else (when c z) v))
third true b c x y z u v e = refl
third false true c x y z u v e = refl
third false false true x y z u v e = refl
third false false false x y z u v e = absurd (both_ways false refl e)

past : {A : Type 0} (o u v : Option A) → (o ≡ None → ⊥) → or_else o u ≡ or_else o v
past None u v some = absurd (some refl)
past (Some f) u v some = refl

-- two fronts with the same sizes and the same switches at the bays of the book
module _ (k : Known) (f g : Front) (bays : f.bays ≡ g.bays) (lines : f.lines ≡ g.lines) (own : g.bays ≡ k.items + 4)
    (switch : (b : ℕ) → b < k.items + 4 → f.switch b ≡ g.switch b) where
  many : how_many_gone k f ≡ how_many_gone k g
  many = ap (count (gone k f)) bays ∙ count_ext (gone k f) (gone k g) g.bays (λ b h. ap (λ x. not (x && not (k.behind b))) (switch b (omega arith)))

  rack : other_rack k f ≡ other_rack k g
  rack = ap (λ n. not (eqb n (k.items + 4)) || not (eqb f.lines k.lines)) bays ∙ ap (λ n. not (eqb g.bays (k.items + 4)) || not (eqb n k.lines)) lines

  seat : why_seat k f ≡ why_seat k g
  seat = ap (λ t. when t (OtherRack f.bays)) rack ∙ ap (λ n. when (other_rack k g) (OtherRack n)) bays

  cell : (room item line : ℕ) → why_cell k f room item line ≡ why_cell k g room item line
  cell room item line = ap (λ c. or_else c (or_else (when (ltb room (k.items + 4)) (ListLength room)) (or_else (when (leb k.items item) (NoItem item)) (when (leb k.lines line) (NoLine line))))) seat

  get : (room item line : ℕ) → why_get k f room item line ≡ why_get k g room item line
  get room item line =
      ap (λ c. or_else c (when (ltb 4 (how_many_gone k f) && gone k f (item + 4)) (TooManyAbsent (how_many_gone k f)))) (cell room item line)
      ∙ ap (λ n. or_else (why_cell k g room item line) (when (ltb 4 n && gone k f (item + 4)) (TooManyAbsent n))) many
      ∙ elim (cases_lt item k.items) [
        | inl h ↦ ap (λ x. or_else (why_cell k g room item line) (when (ltb 4 (how_many_gone k g) && not (x && not (k.behind (item + 4)))) (TooManyAbsent (how_many_gone k g)))) (switch (item + 4) (omega arith))
        | inr h ↦ past (why_cell k g room item line) _ _ (λ e. omega (arith, (good k g room item line e).item_below))
      ]

  post : (qq room item line word : ℕ) → why_post qq k f room item line word ≡ why_post qq k g room item line word
  post qq room item line word =
      ap (λ c. or_else c (or_else (when (leb qq word) (WordTooLarge word)) (when (ltb 4 (how_many_gone k f)) (TooManyAbsent (how_many_gone k f))))) (cell room item line)
      ∙ ap (λ n. or_else (why_cell k g room item line) (or_else (when (leb qq word) (WordTooLarge word)) (when (ltb 4 n) (TooManyAbsent n)))) many

  -- the rules of a mend after the third
  abbrev late : Bool → ℕ → ℕ → Option Fault
  late on n bay = or_else (when (not (k.behind bay)) (Book (NotBehind bay))) (or_else (when (not on) (Rack (Silent bay))) (when (ltb 4 n) (Book (TooManyAbsent n))))

  abbrev early : Bool → ℕ → ℕ → ℕ → Option Fault → Option Fault
  early other n room bay rest = or_else (when other (Book (OtherRack n))) (or_else (when (ltb room (k.items + 4)) (Book (ListLength room))) (or_else (when (leb (k.items + 4) bay) (Book (NoBay bay))) rest))

  mend : (room bay : ℕ) → why_mend k f room bay ≡ why_mend k g room bay
  mend room bay =
      ap (λ t. early t f.bays room bay (late (f.switch bay) (how_many_gone k f) bay)) rack
      ∙ ap (λ n. early (other_rack k g) n room bay (late (f.switch bay) (how_many_gone k f) bay)) bays
      ∙ ap (λ n. early (other_rack k g) g.bays room bay (late (f.switch bay) n bay)) many
      ∙ elim (cases_lt bay (k.items + 4)) [
        | inl h ↦ ap (λ x. early (other_rack k g) g.bays room bay (late x (how_many_gone k g) bay)) (switch bay h)
        | inr h ↦ third (other_rack k g) (ltb room (k.items + 4)) (leb (k.items + 4) bay) (Book (OtherRack g.bays)) (Book (ListLength room)) (Book (NoBay bay)) _ _ (le-leb (k.items + 4) bay h)
      ]

module _ {K : Type 0} (s : Structure K) (l : Ledger) (k : Known) (drawer : Option ℕ) (m : Meaning) (sound : Sound s l) (st : Stands s l k drawer m) where
  book_known : k ≡ known l
  book_known = same_known k (known l) st.items st.lines st.marks

  pub same_get : (room item line : ℕ) → why_get k (front_of m) room item line ≡ why_get (known l) (front l) room item line
  same_get room item line = ap (λ x. why_get x (front_of m) room item line) book_known ∙ get (known l) (front_of m) (front l) st.rack_bays st.rack_lines sound.bays st.switches room item line

  pub same_post : (qq room item line word : ℕ) → why_post qq k (front_of m) room item line word ≡ why_post qq (known l) (front l) room item line word
  same_post qq room item line word =
      ap (λ x. why_post qq x (front_of m) room item line word) book_known ∙ post (known l) (front_of m) (front l) st.rack_bays st.rack_lines sound.bays st.switches qq room item line word

  pub same_mend : (room bay : ℕ) → why_mend k (front_of m) room bay ≡ why_mend (known l) (front l) room bay
  same_mend room bay = ap (λ x. why_mend x (front_of m) room bay) book_known ∙ mend (known l) (front_of m) (front l) st.rack_bays st.rack_lines sound.bays st.switches room bay

  pub same_release : (bay : ℕ) → why_release k bay ≡ why_release (known l) bay
  same_release bay = ap (λ x. why_release x bay) book_known

  pub same_seat : why_seat k (front_of m) ≡ why_seat (known l) (front l)
  same_seat = ap (λ x. why_seat x (front_of m)) book_known ∙ seat (known l) (front_of m) (front l) st.rack_bays st.rack_lines sound.bays st.switches
