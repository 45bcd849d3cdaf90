-- The table of refusals: the layer, the number and the place of each fault, and its printed form. Assumes nothing.
use Rattle.std.specs.Prelude.{ℕ, List, [], ◌∷◌, ◌++◌, codes, decimal}
use Rattle.fault.specs.Letters.{letter_of}
use Rattle.fault.specs.declared.layer.Layer.{Layer}
use Rattle.fault.specs.declared.layer.Layer.TheVariants as layer
use Rattle.fault.specs.declared.fault.Row.{Row}
use Rattle.fault.specs.declared.fault.FileFault.TheVariants.{CutShort, BodyLength, NotNow, NoField}
use Rattle.fault.specs.declared.fault.BookFault.TheVariants.{ItemCount, OtherRack, ListLength, TooManySilent, NoItem, NoLine, WordTooLarge, NoBay, FourBehind, NotBehind, TooManyAbsent, NoElement, NoCodeword}
use Rattle.fault.specs.declared.fault.RackFault.TheVariants as rack
use Rattle.fault.specs.declared.fault.Fault.{Fault}
use Rattle.fault.specs.declared.fault.Fault.TheVariants.{File, Book, Rack}

abbrev pub refusal : Layer → ℕ → ℕ → Row
refusal l n p = record { layer = l; number = n; place = p }

abbrev pub row : Fault → Row
row (Book (ItemCount count)) = refusal layer.Book 1 count
row (Book (OtherRack bays)) = refusal layer.Book 2 bays
row (Book (ListLength length)) = refusal layer.Book 3 length
row (Book (TooManySilent count)) = refusal layer.Book 4 count
row (Book (NoItem item)) = refusal layer.Book 5 item
row (Book (NoLine line)) = refusal layer.Book 6 line
row (Book (WordTooLarge word)) = refusal layer.Book 7 word
row (Book (NoBay bay)) = refusal layer.Book 8 bay
row (Book (FourBehind bay)) = refusal layer.Book 9 bay
row (Book (NotBehind bay)) = refusal layer.Book 10 bay
row (Book (TooManyAbsent count)) = refusal layer.Book 11 count
row (Book (NoElement number)) = refusal layer.Book 12 number
row (Book NoCodeword) = refusal layer.Book 13 0
row (Rack (rack.NoBay bay)) = refusal layer.Rack 21 bay
row (Rack (rack.NoLine line)) = refusal layer.Rack 22 line
row (Rack (rack.Silent bay)) = refusal layer.Rack 23 bay
row (Rack (rack.BadShape words)) = refusal layer.Rack 24 words
row (Rack (rack.NoJoin bays)) = refusal layer.Rack 25 bays
row (File (CutShort offset)) = refusal layer.File 31 offset
row (File (BodyLength offset)) = refusal layer.File 32 offset
row (File (NotNow offset)) = refusal layer.File 33 offset
row (File (NoField offset)) = refusal layer.File 34 offset

-- As in `f 31 8`: the letter, the number and the place, a space between them.
abbrev pub printed : Row → List ℕ
printed r = (letter_of r.layer ∷ []) ++ (codes " " ++ (decimal r.number ++ (codes " " ++ decimal r.place)))
