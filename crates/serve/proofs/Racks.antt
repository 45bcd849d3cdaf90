-- The racks of a new hall, side by side. Assumes nothing.
use Rattle.std.proofs.Common.{◌≡◌, ℕ, ◌+◌, ◌-◌, ◌*◌, ◌<◌, ◌≤◌, Bool, true, false, cond, ltb, ◌⊎◌, get_or, replicate, None, refl, inl, inr, arith}
use Rattle.std.proofs.lemmas.List.{get_or-replicate, get_or_past}
use lib.ListN.{length-replicate}
use Rattle.std.proofs.lemmas.Bool.{cases_lt}
use Rattle.std.proofs.lemmas.Bool.Decides.{nat_tests}
use Rattle.rack.specs.Meaning.{Meaning}
use Rattle.rack.proofs.Laws.{same_meaning}
use Rattle.plain_rack.specs.Plain.{place_of, word_in}
use Rattle.plain_rack.specs.Shape.{fresh}
use Rattle.plain_rack.proofs.Places.{place_within}
use Rattle.joined_rack.specs.Beside.{beside}
use Rattle.round.specs.Replies.{why_lines}
use Rattle.serve.specs.Halls.{new_hall}

-- A rack of zeros.
abbrev pub zeros : ℕ → ℕ → Meaning
zeros bays lines = fresh bays lines (replicate (bays * lines) 0)

zero_word : (n k : ℕ) → get_or {A = ℕ} (replicate n 0) k 0 ≡ 0
zero_word n k = elim (cases_lt k n) [ inl h ↦ get_or-replicate n k 0 0 h | inr h ↦ get_or_past (replicate n 0) k 0 (omega (arith, length-replicate {A = ℕ} n 0)) ]

zero_cell : (bays lines bay line : ℕ) → word_in bays lines (replicate (bays * lines) 0) bay line ≡ 0
zero_cell bays lines bay line = let e = zero_word (bays * lines) (place_of lines bay line) in grind (arith, nat_tests)

zero_either : (a b : Bool) (x y : ℕ) → x ≡ 0 → y ≡ 0 → cond a (cond b x y) 0 ≡ 0
zero_either true true x y p q = p
zero_either true false x y p q = q
zero_either false b x y p q = refl

on_either : (items bay : ℕ) → cond (ltb bay 4) (ltb bay 4) (ltb (bay - 4) items) ≡ ltb bay (items + 4)
on_either items bay = grind (arith, nat_tests)

pub beside_zeros : (items lines : ℕ) → beside (zeros 4 lines) (zeros items lines) ≡ new_hall items lines
beside_zeros items lines =
    same_meaning (beside (zeros 4 lines) (zeros items lines)) (new_hall items lines) (omega arith) refl (on_either items)
    (λ bay line. zero_either (ltb line lines) (ltb bay 4) _ _ (zero_cell 4 lines bay line) (zero_cell items lines (bay - 4) line))
