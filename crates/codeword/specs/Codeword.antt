-- The line code: a line of counts, its check words, its codeword, and which bays it fits. Assumes nothing.
use Rattle.std.specs.Prelude.{◌≡◌, Bool, false, List, ◌∷◌, ℕ, ◌+◌, ◌<◌, ◌≤◌, length, get_or}
use Rattle.field.specs.Structure.{Structure, size}
use Rattle.extension.specs.declared.ext.Ext.{Ext}
use Rattle.extension.specs.Formulas.{pair}
use Rattle.extension.specs.Extend.{extend}
use Rattle.codeword.specs.Sums.{total, power, count}

module _ {K : Type 0} (s : Structure K) where
  -- A count word is a number below q·q, read as an element of the extension of the base field.
  abbrev pub words : ℕ
  words = size (extend s)

  abbrev pub element : ℕ → Ext K
  element w = (extend s).of w

  -- The point of item i: h = w + u, where w is the element of the base field numbered i.
  abbrev pub point : ℕ → Ext K
  point i = pair (s.of i) s.one

  -- Check word l of a line: the sum over all items of d·h^l.
  abbrev pub check : List ℕ → ℕ → Ext K
  check items l = total (extend s) (λ i. (extend s).times (element (get_or items i 0)) (power (extend s) (point i) l)) (length items)

  abbrev pub check_word : List ℕ → ℕ → ℕ
  check_word items l = (extend s).value (check items l)

  -- The four check words in bays 0 to 3, and item i in bay i + 4.
  abbrev pub codeword : List ℕ → List ℕ
  codeword items = check_word items 0 ∷ check_word items 1 ∷ check_word items 2 ∷ check_word items 3 ∷ items

  -- A line of n counts.
  pub record Line (n : ℕ) (items : List ℕ) : Type 0 where
    pub long : length items ≡ n
    pub small : (i : ℕ) → i < n → get_or items i 0 < words

  -- Words, one for each bay; the line fits the bay if its codeword has the bay's word there.
  abbrev pub Fits : List ℕ → List ℕ → ℕ → Type 0
  Fits items bays bay = get_or (codeword items) bay 0 ≡ get_or bays bay 0

  -- The line fits every bay that is not absent.
  abbrev pub Agrees : ℕ → (ℕ → Bool) → List ℕ → List ℕ → Type 0
  Agrees n absent bays items = (bay : ℕ) → bay < n + 4 → absent bay ≡ false → Fits items bays bay

  -- Any n of the n + 4 words fix the line. At most one line fits n given words:
  abbrev pub OneAtMost : Type 0
  OneAtMost = (n : ℕ) → n ≤ size s → (absent : ℕ → Bool) → count absent (n + 4) ≤ 4 → (bays a b : List ℕ)
      → Line n a → Line n b → Agrees n absent bays a → Agrees n absent bays b → a ≡ b

  -- and one exists, whatever the n words are.
  abbrev pub OneExists : Type 0
  OneExists = (n : ℕ) → n ≤ size s → (absent : ℕ → Bool) → count absent (n + 4) ≡ 4 → (bays : List ℕ)
      → ((bay : ℕ) → bay < n + 4 → get_or bays bay 0 < words) → (a : List ℕ) × Line n a × Agrees n absent bays a

  pub record Distance : Type 0 where
    pub at_most : OneAtMost
    pub exists : OneExists
