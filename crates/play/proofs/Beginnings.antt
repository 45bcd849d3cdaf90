-- The frames before an accepted start. Assumes nothing.
use Rattle.std.proofs.Common.{◌≡◌, ℕ, List, [], ◌++◌, drop, refl, ap, ◌∙◌, subst₂}
use Rattle.call.specs.declared.Call.{Call}
use Rattle.frame.specs.Reading.{told}
use Rattle.frame.specs.Laid.{Laid}
use Rattle.frame.proofs.Laws.{laid_same}
use Rattle.replies.specs.Lines.{Said, line, lines_from}
use Rattle.round.specs.declared.rounds.Round.{Round}
use Rattle.round.specs.declared.rounds.Placed.{Placed}
use Rattle.round.specs.Replies.{waiting, reply, next, replies, call_in}
use Rattle.round.specs.Rounds.{file_in, here, Left, Taken, Replied}
use Rattle.round.proofs.Courses.{Course, course_more, course_end, course_on}
use Rattle.play.specs.Played.{PlayedOn, Played}

-- The frames so far, of a round that still waits.
pub record Waits (r₀ : Round) (text₀ : List ℕ) (r : Round) (text : List ℕ) : Type 0 where
  pub made : List Call
  pub course : Course r₀ waiting text₀ r waiting text made

module _ {r₀ : Round} {text₀ : List ℕ} {r : Round} {text : List ℕ} (w : Waits r₀ text₀ r text) (r' : Round) (p : Placed) (one : Taken r p r') (text' : List ℕ) where
  pub waits_more : (x : Said) → x ≡ reply waiting p.offset (told p.answer) → next waiting p.offset (told p.answer) ≡ waiting → text' ≡ text ++ line p.number x → Waits r₀ text₀ r' text'
  waits_more x said still grown = record {
    made = w.made ++ call_in (told p.answer);
    course = rw still at
        (course_more w.course r' p one (told p.answer) refl text' (grown ∙ ap (λ (y : Said). text ++ line p.number y) said));
  }

  -- The rest was played from this frame on.
  pub waits_on : PlayedOn p.number (reply waiting p.offset (told p.answer)) r' (next waiting p.offset (told p.answer)) text text' → (made : List Call) × Replied r₀ waiting text₀ text' made
  waits_on on = (_, course_on (course_more w.course r' p one (told p.answer) refl _ refl) on.1)

pub waits_end : {r₀ : Round} {text₀ : List ℕ} {r : Round} {text : List ℕ} → (w : Waits r₀ text₀ r text) → Left r [] → Replied r₀ waiting text₀ text w.made
waits_end w left = course_end w.course left

pub whole : (file text₀ text : List ℕ) (r : Round) (made : List Call) → file_in r ≡ file → here r ≡ 0 → r.number ≡ 0 → text₀ ≡ [] → Replied r waiting text₀ text made → Played file text
whole file text₀ text r made same zeroth first empty x =
    let laid : Laid 0 file x.answers = subst₂ (λ k bytes. Laid k bytes x.answers) zeroth (λ i. drop (zeroth i) (same i)) x.left in
    record {
      answers = x.answers;
      answered = record { laid = laid; only = λ others l. laid_same laid l };
      lines = x.lines ∙ (λ i. empty i ++ lines_from (first i) (replies (same i) waiting (zeroth i) x.answers));
    }
