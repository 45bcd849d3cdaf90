-- When a book and a rack are as the ledger has them. Assumes nothing.
use Rattle.std.specs.Prelude.{◌≡◌, ℕ, zero, suc, ◌+◌, ◌*◌, ◌<◌, ◌≤◌, true, false, List, [], ◌∷◌, Some, None, Option, slice_index}
use Rattle.field.specs.Structure.{Structure, size}
use Rattle.codeword.specs.Sums.{count}
use Rattle.codeword.specs.Codeword.{codeword}
use Rattle.rack.specs.Meaning.{Meaning}
use Rattle.rules.specs.Known.{Known}
use Rattle.call.specs.declared.Call.{Call}
use Rattle.ledger.specs.declared.Answer.{Answer}
use Rattle.ledger.specs.Ledger.{Ledger, answer, after}

-- f 0, f 1, … for all numbers below n
unfoldable pub row : (ℕ → ℕ) → ℕ → List ℕ
row f zero = []
row f (suc n) = f 0 ∷ row (λ i. f (suc i)) n

-- A posted line: the counts of all items in it.
abbrev pub posted : Ledger → ℕ → List ℕ
posted l line = row (λ item. l.count item line) l.items

-- The bay of the open drawer is one of the rack's, and behind.
abbrev pub Out : Option ℕ → Ledger → Type 0
Out None l = Unit {0}
Out (Some bay) l = (bay < l.items + 4) × (l.behind bay ≡ true)

module _ {K : Type 0} (s : Structure K) where
  -- What is true of every ledger after an accepted start.
  pub record Sound (l : Ledger) : Type 0 where
    pub field : l.size ≡ size s
    pub some : 1 ≤ l.items
    pub fits : l.items ≤ l.size
    pub bays : l.bays ≡ l.items + 4
    pub small : (item line : ℕ) → l.count item line < l.size * l.size
    pub few : count l.behind (l.items + 4) ≤ 4
    pub out : Out l.drawer l

  -- The book marks exactly the bays that are behind, at most four. Every other bay, silent or not, holds its word of the
  -- posted lines. Each switch stands as the ledger has it. Besides: the sizes and the open drawer are the ledger's.
  pub record Stands (l : Ledger) (k : Known) (drawer : Option ℕ) (m : Meaning) : Type 0 where
    pub marks : (bay : ℕ) → k.behind bay ≡ l.behind bay
    pub at_most_four : count k.behind (l.items + 4) ≤ 4
    pub words : (bay line : ℕ) → bay < l.items + 4 → line < l.lines → l.behind bay ≡ false → m.word bay line ≡ slice_index (codeword s (posted l line)) bay
    pub switches : (bay : ℕ) → bay < l.items + 4 → m.switch bay ≡ l.switch bay
    pub items : k.items ≡ l.items
    pub lines : k.lines ≡ l.lines
    pub rack_bays : m.bays ≡ l.bays
    pub rack_lines : m.lines ≡ l.lines
    pub open_drawer : drawer ≡ l.drawer

  -- One call: whatever ledger the book and the rack stood by, the answer is that ledger's, and they stand by it after the call.
  abbrev pub Turn : ℕ → Call → Known → Option ℕ → Meaning → Answer → Known → Option ℕ → Meaning → Type 0
  Turn room c k drawer m a k' drawer' m' =
      (l : Ledger) → Sound l → Stands l k drawer m → (a ≡ answer l room c) × Stands (after l room c) k' drawer' m'
