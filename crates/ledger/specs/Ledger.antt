-- The ledger of a bank. It is fed the sizes and the switches as the start finds them, and then each call; it is told no answer
-- of the book. Assumes nothing.
use Rattle.std.specs.Prelude.{ℕ, ◌+◌, ◌*◌, Bool, true, false, cond, not, ◌&&◌, List, [], ◌∷◌, Some, None, Option, ◌==◌, nat_le, nat_lt}
use Rattle.fault.specs.Refusing.{when}
use Rattle.fault.specs.declared.fault.BookFault.{BookFault}
use Rattle.fault.specs.declared.fault.RackFault.TheVariants.{NoBay}
use Rattle.fault.specs.declared.fault.Fault.{Fault}
use Rattle.fault.specs.declared.fault.Fault.TheVariants.{Book, Rack}
use Rattle.call.specs.declared.Call.{Call}
use Rattle.call.specs.declared.Call.TheVariants.{Post, Get, Off, On, Release, Seat, Mend}
use Rattle.rules.specs.Known.{Known, Front, put}
use Rattle.rules.specs.Rules.{why_get, why_post, why_mend, why_release, why_seat}
use Rattle.rules.specs.Effects.{behind_after_post}
use Rattle.ledger.specs.declared.Answer.{Answer}
use Rattle.ledger.specs.declared.Answer.TheVariants.{Done, Word, Refused, NotAllowed}

pub record Ledger : Type 0 where
  -- N, K and q, and how many bays the rack has
  pub items : ℕ
  pub lines : ℕ
  pub size : ℕ
  pub bays : ℕ
  -- the posted lines: a count for each item and line
  pub count : ℕ → ℕ → ℕ
  -- a bay is silent while its switch is off
  pub switch : ℕ → Bool
  pub behind : ℕ → Bool
  -- the bay of the open drawer
  pub drawer : Option ℕ

-- After the start, by the size of the field, the number of items and the rack's front: the counts are zero, and the silent bays
-- are behind.
abbrev pub opening : ℕ → ℕ → Front → Ledger
opening size items f = record {
  items = items;
  lines = f.lines;
  size = size;
  bays = f.bays;
  count = λ item line. 0;
  switch = f.switch;
  behind = λ bay. nat_lt bay (items + 4) && not (f.switch bay);
  drawer = None;
}

abbrev pub known : Ledger → Known
known l = record { items = l.items; lines = l.lines; behind = l.behind }

abbrev pub front : Ledger → Front
front l = record { bays = l.bays; lines = l.lines; switch = l.switch }

-- Whether a call is accepted; room is the length of the worksheet.
pub data Verdict : Type 0 where
  accepted : Verdict
  refused : Fault → Verdict
  not_allowed : Verdict

abbrev pub ruled : Option Fault → Verdict
ruled None = accepted
ruled (Some f) = refused f

-- A call that needs a closed drawer, and one that needs an open one.
abbrev pub closed : Option ℕ → Option Fault → Verdict
closed None why = ruled why
closed (Some bay) why = not_allowed

abbrev pub opened : Option ℕ → Option Fault → Verdict
opened None why = not_allowed
opened (Some bay) why = ruled why

abbrev pub by_book : Option BookFault → Option Fault
by_book None = None
by_book (Some f) = Some (Book f)

-- A switch of a bay that the rack does not have.
abbrev pub why_switch : Ledger → ℕ → Option Fault
why_switch l bay = when (nat_le l.bays bay) (Rack (NoBay bay))

abbrev pub verdict : Ledger → ℕ → Call → Verdict
verdict l room (Post item line word) = closed l.drawer (by_book (why_post (l.size * l.size) (known l) (front l) room item line word))
verdict l room (Get item line) = closed l.drawer (by_book (why_get (known l) (front l) room item line))
verdict l room (Off bay) = ruled (why_switch l bay)
verdict l room (On bay) = ruled (why_switch l bay)
verdict l room (Release bay) = closed l.drawer (by_book (why_release (known l) bay))
verdict l room Seat = opened l.drawer (by_book (why_seat (known l) (front l)))
verdict l room (Mend bay) = closed l.drawer (why_mend (known l) (front l) room bay)

abbrev pub with_count : (ℕ → ℕ → ℕ) → ℕ → ℕ → ℕ → ℕ → ℕ → ℕ
with_count count item line word i l = cond (i == item && l == line) word (count i l)

abbrev pub seated : Option ℕ → (ℕ → Bool) → ℕ → Bool
seated None switch = switch
seated (Some bay) switch = put switch bay true

-- What an accepted call changes.
abbrev pub change : Ledger → Call → Ledger
change l (Post item line word) = record l { count = with_count l.count item line word; behind = behind_after_post l.switch l.behind item }
change l (Get item line) = l
change l (Off bay) = record l { switch = put l.switch bay false }
change l (On bay) = record l { switch = put l.switch bay true }
change l (Release bay) = record l { behind = put l.behind bay true; drawer = Some bay }
change l Seat = record l { switch = seated l.drawer l.switch; drawer = None }
change l (Mend bay) = record l { behind = put l.behind bay false }

abbrev pub on_verdict : {X : Type 0} → Verdict → X → (Fault → X) → X → X
on_verdict accepted x f y = x
on_verdict (refused why) x f y = f why
on_verdict not_allowed x f y = y

-- Accepted calls alone change the ledger.
abbrev pub after : Ledger → ℕ → Call → Ledger
after l room c = on_verdict (verdict l room c) (change l c) (λ _. l) l

abbrev pub said : Ledger → Call → Answer
said l (Post item line word) = Done
said l (Get item line) = Word (l.count item line)
said l (Off bay) = Done
said l (On bay) = Done
said l (Release bay) = Done
said l Seat = Done
said l (Mend bay) = Done

abbrev pub answer : Ledger → ℕ → Call → Answer
answer l room c = on_verdict (verdict l room c) (said l c) Refused NotAllowed

-- After all the calls.
abbrev pub after_all : Ledger → ℕ → List Call → Ledger
after_all l room [] = l
after_all l room (c ∷ cs) = after_all (after l room c) room cs
