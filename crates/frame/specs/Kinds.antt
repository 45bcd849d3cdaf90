-- The numbers of the kinds of frames. Assumes nothing.
use Rattle.std.specs.Prelude.{◌≡◌, ◌≢◌, ℕ, Result, MatchResult}
use Rattle.frame.specs.declared.kind.Kind.{Kind}
use Rattle.frame.specs.declared.kind.Kind.TheVariants.{Start, Post, Get, Off, On, Release, Seat, Mend, Note}
use Rattle.frame.specs.declared.kind.UnknownKind.{UnknownKind}

-- The number that stands in a frame of this kind.
abbrev pub number_of : Kind → ℕ
number_of Start = 1
number_of Post = 2
number_of Get = 3
number_of Off = 4
number_of On = 5
number_of Release = 6
number_of Seat = 7
number_of Mend = 8
number_of Note = 9

-- The result is the kind with this number, or the number itself, which no kind has.
abbrev pub Decodes : ℕ → Result Kind UnknownKind → Type 0
Decodes number r = MatchResult r (λ kind. number_of kind ≡ number) (λ e. (e.0 ≡ number) × ((kind : Kind) → number_of kind ≢ number))
