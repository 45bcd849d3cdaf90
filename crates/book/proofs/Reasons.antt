-- When the refusals of a book's calls do not apply. Assumes nothing.
use Rattle.std.proofs.Common.{◌≡◌, ℕ, ◌+◌, ◌<◌, ◌≤◌, true, ltb, None, Option, arith}
use Rattle.std.proofs.lemmas.Bool.Decides.{nat_tests}
use Rattle.fault.specs.Refusing.{when}
use Rattle.fault.specs.declared.fault.BookFault.{BookFault}
use Rattle.fault.specs.declared.fault.BookFault.TheVariants.{TooManyAbsent}
use Rattle.field.specs.Structure.{Structure, size}
use Rattle.rack.specs.Meaning.{Meaning}
use Rattle.worksheet.specs.Lines.{why_unrestored}
use Rattle.rules.specs.Known.{Known, Front, front_of}
use Rattle.rules.specs.Rules.{why_cell, why_get, how_many_gone, gone}
use Rattle.rules.proofs.Refusals.{good}

-- Where the sizes are good, a line is not restored for one reason alone.
abbrev pub too_many : Known → Front → Option BookFault
too_many k f = when (ltb 4 (how_many_gone k f)) (TooManyAbsent (how_many_gone k f))

module _ {K : Type 0} (s : Structure K) (k : Known) (m : Meaning) (room line : ℕ) (some : 1 ≤ k.items) (few : k.items ≤ size s) where
  pub unrestored : m.bays ≡ k.items + 4 → k.items + 4 ≤ room → line < m.lines → why_unrestored s m k.behind room line ≡ too_many k (front_of m)
  unrestored bays wide h = grind (arith, nat_tests)

  module _ (item : ℕ) (cell : why_cell k (front_of m) room item line ≡ None) where
    pub why_not : why_unrestored s m k.behind room line ≡ too_many k (front_of m)
    why_not = let ok = good k (front_of m) room item line cell in unrestored ok.bays ok.wide (omega (arith, ok.line_below, ok.lines))

    -- a get of an item whose own bay is absent
    pub get_by_line : gone k (front_of m) (item + 4) ≡ true → why_get k (front_of m) room item line ≡ why_unrestored s m k.behind room line
    get_by_line away = let e = why_not in grind (arith, nat_tests)
