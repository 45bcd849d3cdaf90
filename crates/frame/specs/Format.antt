-- The format of a round file: the head and the body of a frame, and what they say. Assumes nothing.
use Rattle.std.specs.Prelude.{ℕ, ◌+◌, ◌*◌, ◌/◌, ◌%◌, Bool, true, false, cond, ◌&&◌, ◌||◌, List, [], ◌∷◌, ◌++◌, length, take, Some, None, Option, ◌==◌, nat_le, nat_lt, slice_index}
use Rattle.call.specs.declared.Call.{Call}
use Rattle.call.specs.declared.Call.TheVariants.{Post, Get, Off, On, Release, Seat, Mend}
use Rattle.frame.specs.declared.frame.Frame.{Frame}
use Rattle.frame.specs.declared.frame.Frame.TheVariants as frame

-- What a frame says, with the bytes themselves where the program borrows them.
pub data Content : Type 0 where
  start : (items lines field : ℕ) → Content
  call : Call → Content
  note : (text : List ℕ) → Content
  unknown : (kind : ℕ) (body : List ℕ) → Content

abbrev pub content : Frame → Content
content (frame.Start items lines field) = start items lines field
content (frame.Call c) = call c
content (frame.Note text) = note text.now
content (frame.Unknown kind body) = unknown kind body.now

-- Two bytes are a number, the low byte first.
abbrev pub number : ℕ → ℕ → ℕ
number low high = low + high * 256

-- A number as two bytes.
abbrev pub two : ℕ → List ℕ
two n = (n % 256) ∷ (n / 256) ∷ []

-- A frame that is whole, of any kind and with any body.
pub record Whole : Type 0 where
  pub kind : ℕ
  pub body : List ℕ

-- The frame at the front of the bytes: two bytes of length, two of kind, then as many bytes of body as the length says.
-- Nothing where the head or the body is cut short.
abbrev pub front : List ℕ → Option Whole
front [] = None
front (a ∷ []) = None
front (a ∷ b ∷ []) = None
front (a ∷ b ∷ c ∷ []) = None
front (a ∷ b ∷ c ∷ d ∷ more) =
    cond (nat_le (number a b) (length more)) (Some (record { kind = number c d; body = take (number a b) more })) None

-- A frame as it stands in a file.
abbrev pub framed : ℕ → List ℕ → List ℕ
framed kind body = two (length body) ++ (two kind ++ body)

-- How many bytes a frame takes: four of head, and its body.
abbrev pub size : Whole → ℕ
size w = 4 + length w.body

-- The numbers of a body lie side by side: this is the one at place i.
abbrev pub entry : List ℕ → ℕ → ℕ
entry body i = number (slice_index body (2 * i)) (slice_index body (2 * i + 1))

-- The content, where the length is right.
abbrev pub when : Bool → Content → Option Content
when true c = Some c
when false c = None

-- What the body says under a kind, and nothing where its length is wrong for the kind.
abbrev pub meant : ℕ → List ℕ → Option Content
meant kind body =
    cond (kind == 1) (when (length body == 6) (start (entry body 0) (entry body 1) (entry body 2)))
    (cond (kind == 2) (when (length body == 6) (call (Post (entry body 0) (entry body 1) (entry body 2))))
    (cond (kind == 3) (when (length body == 4) (call (Get (entry body 0) (entry body 1))))
    (cond (kind == 4) (when (length body == 2) (call (Off (entry body 0))))
    (cond (kind == 5) (when (length body == 2) (call (On (entry body 0))))
    (cond (kind == 6) (when (length body == 2) (call (Release (entry body 0))))
    (cond (kind == 7) (when (length body == 0) (call Seat))
    (cond (kind == 8) (when (length body == 2) (call (Mend (entry body 0))))
    (cond (kind == 9) (when (nat_le 1 (length body) && nat_le (length body) 60) (note body))
    (Some (unknown kind body))))))))))

-- The kind and the body that say it.
abbrev pub kind_of : Content → ℕ
kind_of (start items lines field) = 1
kind_of (call (Post item line word)) = 2
kind_of (call (Get item line)) = 3
kind_of (call (Off bay)) = 4
kind_of (call (On bay)) = 5
kind_of (call (Release bay)) = 6
kind_of (call Seat) = 7
kind_of (call (Mend bay)) = 8
kind_of (note text) = 9
kind_of (unknown kind body) = kind

abbrev pub body_of : Content → List ℕ
body_of (start items lines field) = two items ++ (two lines ++ two field)
body_of (call (Post item line word)) = two item ++ (two line ++ two word)
body_of (call (Get item line)) = two item ++ two line
body_of (call (Off bay)) = two bay
body_of (call (On bay)) = two bay
body_of (call (Release bay)) = two bay
body_of (call Seat) = []
body_of (call (Mend bay)) = two bay
body_of (note text) = text
body_of (unknown kind body) = body

abbrev pub bytes_of : Content → List ℕ
bytes_of c = framed (kind_of c) (body_of c)

-- A file can say it: a note has 1 to 60 bytes, an unknown kind is none of the known ones, and a body's length fits its two bytes.
abbrev pub proper : Content → Bool
proper (start items lines field) = true
proper (call c) = true
proper (note text) = nat_le 1 (length text) && nat_le (length text) 60
proper (unknown kind body) = (kind == 0 || nat_lt 9 kind) && nat_lt (length body) 65536
