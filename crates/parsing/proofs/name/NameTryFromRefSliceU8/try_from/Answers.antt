use Rattle.std.proofs.Common.{◌≡◌, rules}
use Rattle.parsing.specs.Names.{spelled}
use Rattle.parsing.specs.declared.name.Name.TheVariants.{Start, Post, Get, Off, On, Release, Seat, Mend, Note}
use Rattle.parsing.proofs.name.NameTryFromRefSliceU8.try_from.Goals as goal

pub returns-in_default : goal.returns-in_default
returns-in_default c = λ name. elim name as (λ n. c.args.word.now ≡ spelled n → ⊥) [
  | Start ↦ search rules
  | Post ↦ search rules
  | Get ↦ search rules
  | Off ↦ search rules
  | On ↦ search rules
  | Release ↦ search rules
  | Seat ↦ search rules
  | Mend ↦ search rules
  | Note ↦ search rules
]
