-- Which calls of a book are refused, and by what: of several reasons, the first. Assumes nothing.
use Rattle.std.specs.Prelude.{ℕ, ◌+◌, Bool, not, ◌&&◌, ◌||◌, Option, ◌==◌, nat_le, nat_lt}
use Rattle.fault.specs.Refusing.{when, or_else}
use Rattle.fault.specs.declared.fault.BookFault.{BookFault}
use Rattle.fault.specs.declared.fault.BookFault.TheVariants.{ItemCount, OtherRack, ListLength, TooManySilent, NoItem, NoLine, WordTooLarge, NoBay, FourBehind, NotBehind, TooManyAbsent}
use Rattle.fault.specs.declared.fault.RackFault.TheVariants.{Silent}
use Rattle.fault.specs.declared.fault.Fault.{Fault}
use Rattle.fault.specs.declared.fault.Fault.TheVariants.{Book, Rack}
use Rattle.codeword.specs.Sums.{count}
use Rattle.worksheet.specs.Present.{absent, absences}
use Rattle.rules.specs.Known.{Known, Front}

-- How many bays of a rack are silent.
abbrev pub silences : Front → ℕ
silences f = count (λ bay. not (f.switch bay)) f.bays

-- q is the number of elements of the base field.
abbrev pub why_start : ℕ → ℕ → Front → Option BookFault
why_start q items f =
    or_else (when (items == 0 || nat_lt q items) (ItemCount items))
    (or_else (when (not (f.bays == items + 4)) (OtherRack f.bays))
    (when (nat_lt 4 (silences f)) (TooManySilent (silences f))))

-- The rack does not belong to the book.
abbrev pub other_rack : Known → Front → Bool
other_rack k f = not (f.bays == k.items + 4) || not (f.lines == k.lines)

abbrev pub why_seat : Known → Front → Option BookFault
why_seat k f = when (other_rack k f) (OtherRack f.bays)

-- The bays of a rack that are absent, and how many.
abbrev pub gone : Known → Front → ℕ → Bool
gone k f = absent f.switch k.behind

abbrev pub how_many_gone : Known → Front → ℕ
how_many_gone k f = absences f.switch k.behind f.bays

-- The numbers of a get or a post; room is the length of the worksheet.
abbrev pub why_cell : Known → Front → ℕ → ℕ → ℕ → Option BookFault
why_cell k f room item line =
    or_else (when (other_rack k f) (OtherRack f.bays))
    (or_else (when (nat_lt room (k.items + 4)) (ListLength room))
    (or_else (when (nat_le k.items item) (NoItem item))
    (when (nat_le k.lines line) (NoLine line))))

abbrev pub why_get : Known → Front → ℕ → ℕ → ℕ → Option BookFault
why_get k f room item line =
    or_else (why_cell k f room item line)
    (when (nat_lt 4 (how_many_gone k f) && gone k f (item + 4)) (TooManyAbsent (how_many_gone k f)))

-- Words lie below qq, the square of q.
abbrev pub why_post : ℕ → Known → Front → ℕ → ℕ → ℕ → ℕ → Option BookFault
why_post qq k f room item line word =
    or_else (why_cell k f room item line)
    (or_else (when (nat_le qq word) (WordTooLarge word))
    (when (nat_lt 4 (how_many_gone k f)) (TooManyAbsent (how_many_gone k f))))

-- That the bay does not answer is the rack's refusal.
abbrev pub why_mend : Known → Front → ℕ → ℕ → Option Fault
why_mend k f room bay =
    or_else (when (other_rack k f) (Book (OtherRack f.bays)))
    (or_else (when (nat_lt room (k.items + 4)) (Book (ListLength room)))
    (or_else (when (nat_le (k.items + 4) bay) (Book (NoBay bay)))
    (or_else (when (not (k.behind bay)) (Book (NotBehind bay)))
    (or_else (when (not (f.switch bay)) (Rack (Silent bay)))
    (when (nat_lt 4 (how_many_gone k f)) (Book (TooManyAbsent (how_many_gone k f))))))))

-- How many other bays are behind.
abbrev pub others_behind : Known → ℕ → ℕ
others_behind k bay = count (λ b. k.behind b && not (b == bay)) (k.items + 4)

abbrev pub why_release : Known → ℕ → Option BookFault
why_release k bay =
    or_else (when (nat_le (k.items + 4) bay) (NoBay bay))
    (when (nat_le 4 (others_behind k bay)) (FourBehind bay))
