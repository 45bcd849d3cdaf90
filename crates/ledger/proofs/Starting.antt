-- After the start the book and the rack stand by the ledger. Assumes nothing.
use Rattle.std.proofs.Common.{◌≡◌, ℕ, ◌+◌, ◌<◌, Bool, false, cond, not, ◌&&◌, ltb, None, sym, refl, ◌∙◌, arith}
use Rattle.std.proofs.lemmas.Bool.Decides.{nat_tests}
use Rattle.field.specs.Structure.{Structure, size}
use Rattle.rack.specs.Meaning.{Meaning}
use Rattle.rules.specs.Known.{Known, front_of}
use Rattle.rules.specs.Rules.{why_start}
use Rattle.rules.specs.Effects.{cleared, opened}
use Rattle.ledger.specs.Ledger.{opening}
use Rattle.ledger.specs.Stands.{Stands}
use Rattle.rules.proofs.Refusals.{startable}
use Rattle.ledger.proofs.Soundness.{sound_opening}
use Rattle.ledger.proofs.Lines.{codeword_zeros}

cleared_word : (bay line bays lines top w : ℕ) (on : Bool) → bays ≡ top → bay < top → line < lines → (ltb bay top && not on) ≡ false
    → cond (ltb bay bays && ltb line lines && on) 0 w ≡ 0
cleared_word bay line bays lines top w on same h k e = grind (arith, nat_tests)

module _ {K : Type 0} (s : Structure K) where
  pub stands_opening : (items : ℕ) (m : Meaning) (k : Known) (m' : Meaning) → why_start (size s) items (front_of m) ≡ None → k ≡ opened items m → m' ≡ cleared m
      → Stands s (opening (size s) items (front_of m)) k None m'
  stands_opening items m k m' none book rack = rw (book, rack) record {
    marks = λ bay. refl;
    at_most_four = (sound_opening s items (front_of m) none).few;
    words = λ bay line h k e.
        cleared_word bay line m.bays m.lines (items + 4) (m.word bay line) (m.switch bay) (startable (size s) items (front_of m) none).bays h k e
        ∙ sym (codeword_zeros s items bay h);
    switches = λ bay h. refl;
    items = refl;
    lines = refl;
    rack_bays = refl;
    rack_lines = refl;
    open_drawer = refl;
  }
