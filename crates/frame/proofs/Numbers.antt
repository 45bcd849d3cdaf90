-- The numbers of kinds, and numbers that lie side by side in a body. Assumes nothing.
use Rattle.std.proofs.Common.{◌≡◌, ℕ, ◌*◌, ◌≤◌, ◌||◌, true, eqb, ltb, List, [], ◌∷◌, length, Some, Ok, Err, Result, is_err, refl, arith}
use Rattle.std.proofs.lemmas.Bool.Decides.{nat_tests}
use Rattle.std.specs.List.{flat_map}
use Rattle.frame.specs.declared.kind.Kind.{Kind}
use Rattle.frame.specs.declared.kind.Kind.TheVariants.{Start, Post, Get, Off, On, Release, Seat, Mend, Note}
use Rattle.frame.specs.declared.kind.UnknownKind.{UnknownKind}
use Rattle.frame.specs.Format.{two, meant, unknown, proper}
use Rattle.frame.specs.Kinds.{number_of, Decodes}

-- A number that no known kind has.
module _ (n : ℕ) (none : (kind : Kind) → number_of kind ≡ n → ⊥) where
  pub is_unknown : (eqb n 0 || ltb 9 n) ≡ true
  is_unknown = grind (arith, nat_tests, none Start, none Post, none Get, none Off, none On, none Release, none Seat, none Mend, none Note)

  pub meant-unknown : (body : List ℕ) → Some (unknown n body) ≡ meant n body
  meant-unknown body = let far = is_unknown in grind (arith, nat_tests)

-- A frame of an unknown kind, whose number was tried.
pub proper-unknown : (n : ℕ) (body : List ℕ) (r : Result Kind UnknownKind) → Decodes n r → true ≡ is_err r → length body ≤ 65535 → proper (unknown n body) ≡ true
proper-unknown n body (Ok kind) decoded is short = absurd (grind arith)
proper-unknown n body (Err e) decoded is short = let far = is_unknown n decoded.1 in grind (arith, nat_tests)

pub length-flat_map_two : (ns : List ℕ) → length (flat_map two ns) ≡ 2 * length ns
length-flat_map_two [] = refl
length-flat_map_two (n ∷ ns) = omega (arith, length-flat_map_two ns)
