-- What the loop over the rest of a round keeps. Assumes nothing.
use Rattle.std.proofs.Common.{◌≡◌, ℕ, List, [], ◌∷◌, ◌++◌, Ok, Err, Option, refl, ap, ◌∙◌, append-nil}
use Rattle.call.specs.declared.Call.{Call}
use Rattle.frame.specs.Format.{start, call, note, unknown}
use Rattle.frame.specs.Reading.{Answer as Heard, told}
use Rattle.field.specs.Structure.{Structure}
use Rattle.rack.specs.Meaning.{Meaning}
use Rattle.rules.specs.Known.{Known}
use Rattle.ledger.specs.declared.Answer.{Answer}
use Rattle.ledger.specs.Ledger.{Ledger, after_all}
use Rattle.ledger.specs.Stands.{Sound, Stands}
use Rattle.ledger.specs.Runs.{History}
use Rattle.ledger.proofs.LastPosts.{after_more}
use Rattle.ledger.proofs.Histories.{sound_all, history_none, history_stands, history_more}
use Rattle.replies.specs.Lines.{Said, line}
use Rattle.round.specs.declared.rounds.Round.{Round}
use Rattle.round.specs.declared.rounds.Placed.{Placed}
use Rattle.round.specs.Replies.{serving, room, answer_reply, reply, next, call_in}
use Rattle.round.specs.Rounds.{Left, Taken}
use Rattle.round.proofs.Courses.{Course, course_none, course_more, course_end}
use Rattle.serve.specs.Served.{Quiet, Answered, Shown, Served}

module _ {K : Type 0} (s : Structure K) {D R W : Type 0} (knows : D → Known) (open_bay : D → Option ℕ) (meaning : R → Meaning) (sees : W → D → R → W → Type 0)
    (l : Ledger) (sound : Sound s l) (new : (item line : ℕ) → l.count item line ≡ 0) (r₀ : Round) (text₀ : List ℕ) (w₀ : W) where
  -- After some frames: the calls so far and their answers.
  pub record Going (d : D) (rack : R) (w : W) (r : Round) (text : List ℕ) : Type 0 where
    pub made : List Call
    pub answers : List Answer
    pub course : Course r₀ (serving l) text₀ r (serving (after_all l room made)) text made
    pub history : History s knows open_bay meaning sees l room made answers w₀ d rack w

  pub going_none : (d : D) (rack : R) (w : W) → Stands s l (knows d) (open_bay d) (meaning rack) → sees w₀ d rack w → Going d rack w r₀ text₀
  going_none d rack w st look = record {
    made = [];
    answers = [];
    course = course_none r₀ (serving l) text₀;
    history = history_none s knows open_bay meaning sees l room sound new st look;
  }

  module _ {d : D} {rack : R} {w : W} {r : Round} {text : List ℕ} (go : Going d rack w r text) (r' : Round) (p : Placed) (one : Taken r p r') (d' : D) (rack' : R) (w' : W) (x : Said)
      (text' : List ℕ) (grown : text' ≡ text ++ line p.number x) where
    grown_by : (a : Heard) → x ≡ reply (serving (after_all l room go.made)) p.offset a → text' ≡ text ++ line p.number (reply (serving (after_all l room go.made)) p.offset a)
    grown_by a e = grown ∙ ap (λ (y : Said). text ++ line p.number y) e

    quiet_more : {a : Heard} → told p.answer ≡ a → Quiet s knows open_bay meaning p.offset a d rack x d' rack' → w' ≡ w
        → next (serving (after_all l room go.made)) p.offset a ≡ serving (after_all l room go.made) → call_in a ≡ [] → Going d' rack' w' r' text'
    quiet_more {a} is q e still none = record {
      made = go.made;
      answers = go.answers;
      course = rw (still, none, append-nil) at (course_more go.course r' p one a is text' (grown_by a (q.2 (after_all l room go.made))));
      history = rw (q.0, q.1, e) go.history;
    }

    going_by : (a : Heard) → told p.answer ≡ a → Answered s knows open_bay meaning p.offset a d rack x d' rack' → Shown sees a w d' rack' w' → Going d' rack' w' r' text'
    going_by (Ok (start items lines field)) is q look = quiet_more is q look refl refl
    going_by (Ok (call c)) is (a, turn, e) look =
        let here = after_all l room go.made in
        let said = (turn here (sound_all s l room go.made sound) (history_stands s knows open_bay meaning sees l room sound new go.made go.answers go.history)).0 in
        record {
          made = go.made ++ (c ∷ []);
          answers = go.answers ++ (a ∷ []);
          course = rw (after_more l room go.made c)
              (course_more go.course r' p one (Ok (call c)) is text' (grown_by (Ok (call c)) (e ∙ ap (answer_reply p.offset) said)));
          history = history_more s knows open_bay meaning sees l room sound new go.made go.answers go.history c a d' rack' w' turn look;
        }
    going_by (Ok (note body)) is q look = quiet_more is q look refl refl
    going_by (Ok (unknown kind body)) is q look = quiet_more is q look refl refl
    going_by (Err fault) is q look = quiet_more is q look refl refl

    -- One frame more.
    pub going_more : Answered s knows open_bay meaning p.offset (told p.answer) d rack x d' rack' → Shown sees (told p.answer) w d' rack' w' → Going d' rack' w' r' text'
    going_more f look = going_by (told p.answer) refl f look

  pub going_end : {d : D} {rack : R} {w : W} {r : Round} {text : List ℕ} → Going d rack w r text → Left r [] → Served s knows open_bay meaning sees l r₀ text₀ text w₀ w
  going_end {d} {rack} go left = record {
    calls = go.made;
    replied = course_end go.course left;
    answers = go.answers;
    drawer = d;
    rack = rack;
    history = go.history;
  }
