-- The names that a line can begin with. Assumes nothing.
use Rattle.std.specs.Prelude.{ℕ, List, codes}
use Rattle.parsing.specs.declared.name.Name.{Name}
use Rattle.parsing.specs.declared.name.Name.TheVariants.{Start, Post, Get, Off, On, Release, Seat, Mend, Note}

abbrev pub spelled : Name → List ℕ
spelled Start = codes "start"
spelled Post = codes "post"
spelled Get = codes "get"
spelled Off = codes "off"
spelled On = codes "on"
spelled Release = codes "release"
spelled Seat = codes "seat"
spelled Mend = codes "mend"
spelled Note = codes "note"
