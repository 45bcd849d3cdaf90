-- The drawer of a bank, as the ledger sees it. Assumes nothing.
use Rattle.std.specs.Prelude.{ℕ, Some, None, Option}
use Rattle.field.specs.Structure.{Structure}
use Rattle.rack.specs.Meaning.{Meaning}
use Rattle.rules.specs.Known.{Known}
use Rattle.book.specs.Kept.{Kept}
use Rattle.book.specs.Known.{knows}
use Rattle.call.specs.declared.Call.{Call}
use Rattle.ledger.specs.declared.Answer.{Answer}
use Rattle.ledger.specs.declared.Answer.TheVariants.{Done, Word, Refused, NotAllowed}
use Rattle.ledger.specs.Stands.{Turn}
use Rattle.bank.specs.declared.drawers.Drawer.{Drawer}
use Rattle.bank.specs.declared.drawers.Drawer.TheVariants.{Closed, Open}

module _ {K : Type 0} where
  abbrev pub book_of : Drawer K → Kept
  book_of (Closed book) = book
  book_of (Open book) = book.book

  -- The bay of the open drawer.
  abbrev pub open_bay : Drawer K → Option ℕ
  open_bay (Closed book) = None
  open_bay (Open book) = Some book.bay

  abbrev pub known_of : Drawer K → Known
  known_of d = knows (book_of d)

module _ {K : Type 0} (s : Structure K) where
  -- A turn of the bank, as the ledger has it.
  abbrev pub Turned : ℕ → Call → Drawer K → Meaning → Answer → Drawer K → Meaning → Type 0
  Turned room c d m a d' m' = Turn s room c (known_of d) (open_bay d) m a (known_of d') (open_bay d') m'

-- What holds where the call was refused or not allowed.
abbrev pub UnlessDone : Answer → Type 0 → Type 0
UnlessDone Done same = Unit {0}
UnlessDone (Word w) same = Unit {0}
UnlessDone (Refused f) same = same
UnlessDone NotAllowed same = same
