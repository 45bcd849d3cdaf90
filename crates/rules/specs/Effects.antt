-- What an accepted call of a book gives, and what it leaves in the book and in the rack. Assumes nothing.
use Rattle.std.specs.Prelude.{◌≡◌, ℕ, ◌+◌, ◌<◌, Bool, true, false, cond, not, ◌&&◌, ◌||◌, List, ◌==◌, nat_lt, slice_index, slice_set}
use Rattle.field.specs.Structure.{Structure}
use Rattle.codeword.specs.Codeword.{codeword}
use Rattle.rack.specs.Meaning.{Meaning}
use Rattle.rack.specs.Calls.{with_bay}
use Rattle.worksheet.specs.Present.{present}
use Rattle.worksheet.specs.Lines.{word_at, RestoredLine}
use Rattle.rules.specs.Known.{Known, put, with_behind}

-- A rack with zero in each line of every answering bay.
abbrev pub cleared : Meaning → Meaning
cleared m = record {
  bays = m.bays;
  lines = m.lines;
  switch = m.switch;
  word = λ bay line. cond (nat_lt bay m.bays && nat_lt line m.lines && m.switch bay) 0 (m.word bay line);
}

-- A new book: each silent bay is behind.
abbrev pub opened : ℕ → Meaning → Known
opened items m = record { items = items; lines = m.lines; behind = λ bay. nat_lt bay (items + 4) && not (m.switch bay) }

-- The bays that a post to an item concerns: the four check bays and the item's own.
abbrev pub concerned : ℕ → ℕ → Bool
concerned item bay = nat_lt bay 4 || bay == item + 4

-- Each bay that is concerned and silent is behind after a post.
abbrev pub behind_after_post : (ℕ → Bool) → (ℕ → Bool) → ℕ → ℕ → Bool
behind_after_post switch behind item bay = behind bay || (concerned item bay && not (switch bay))

-- A rack with the words w in one line of each bay that is chosen.
abbrev pub with_line : Meaning → (ℕ → Bool) → ℕ → (ℕ → ℕ) → Meaning
with_line m chosen line w = record {
  bays = m.bays;
  lines = m.lines;
  switch = m.switch;
  word = λ b l. cond (chosen b && l == line) (w b) (m.word b l);
}

module _ {K : Type 0} (s : Structure K) where
  -- The restored line of a rack, by what the book knows.
  abbrev pub Restored : Known → Meaning → ℕ → List ℕ → Type 0
  Restored k m line items = RestoredLine s k.items (present m.switch k.behind) (word_at s m line) items

  -- What a get gives: the word of the item's own bay where that is present, otherwise the item of the restored line.
  abbrev pub Gives : Bool → Known → Meaning → ℕ → ℕ → ℕ → Type 0
  Gives true k m item line v = v ≡ word_at s m line (item + 4)
  Gives false k m item line v = (items : List ℕ) × Restored k m line items × (v ≡ slice_index items item)

  abbrev pub Got : Known → Meaning → ℕ → ℕ → ℕ → Type 0
  Got k m item line v = Gives (present m.switch k.behind (item + 4)) k m item line v

  -- A post sets the item's word in the restored line. Of the bays that are concerned each present one gets that line's word.
  pub record Posted (k : Known) (m : Meaning) (item line word : ℕ) (k' : Known) (m' : Meaning) : Type 0 where
    pub items : List ℕ
    pub restored : Restored k m line items
    pub rack : m' ≡ with_line m (λ bay. concerned item bay && present m.switch k.behind bay) line (λ bay. slice_index (codeword s (slice_set items item word)) bay)
    pub book : k' ≡ with_behind k (behind_after_post m.switch k.behind item)

  -- A mend writes the restored words to every line of the bay, which answers, and is behind no more.
  pub record Mended (k : Known) (m : Meaning) (bay : ℕ) (k' : Known) (m' : Meaning) : Type 0 where
    pub items : ℕ → List ℕ
    pub restored : (line : ℕ) → line < k.lines → Restored k m line (items line)
    pub rack : m' ≡ with_bay m bay (λ line. slice_index (codeword s (items line)) bay)
    pub book : k' ≡ with_behind k (put k.behind bay false)
