-- What a loop over the frames of a round keeps. Assumes nothing.
use Rattle.std.proofs.Common.{◌≡◌, ℕ, List, [], ◌∷◌, ◌++◌, sym, refl, ap, ◌∙◌, subst, subst₂, inl, inr, append_assoc, append-nil}
use Rattle.call.specs.declared.Call.{Call}
use Rattle.frame.specs.Reading.{Answer as Heard, told}
use Rattle.frame.proofs.Laws.{laid_none}
use Rattle.replies.specs.Lines.{line, lines_from}
use Rattle.round.specs.declared.rounds.Round.{Round}
use Rattle.round.specs.declared.rounds.Placed.{Placed}
use Rattle.round.specs.Replies.{State, end_of, reply, next, replies, call_in, calls}
use Rattle.round.specs.Rounds.{file_in, here, Left, Taken, Replied}

-- A round has come from r₀ to r: whatever frames are still left make the replies whole.
pub record Course (r₀ : Round) (st₀ : State) (text₀ : List ℕ) (r : Round) (st : State) (text : List ℕ) (made : List Call) : Type 0 where
  pub file : file_in r ≡ file_in r₀
  pub rest : (more : List Heard) → Left r more → Replied r₀ st₀ text₀ (text ++ lines_from r.number (replies (file_in r) st (here r) more)) (made ++ calls more)

pub course_none : (r : Round) (st : State) (text : List ℕ) → Course r st text r st text []
course_none r st text = record { file = refl; rest = λ more l. record { answers = more; left = l; lines = refl; made_of = refl } }

replied_at : {r : Round} {st : State} {text t t' : List ℕ} {m m' : List Call} → t ≡ t' → m ≡ m' → Replied r st text t m → Replied r st text t' m'
replied_at {r} {st} {text} p q x = subst₂ (λ t m. Replied r st text t m) p q x

-- The frames that are left are replied to from where the next one begins.
placed : (r r' : Round) (p : Placed) → Taken r p r' → (st : State) (more : List Heard) → Left r' more → replies (file_in r) st (end_of (file_in r) (here r)) more ≡ replies (file_in r') st (here r') more
placed r r' p one st more l = elim one.place [ inl e ↦ rw (laid_none l e) refl | inr e ↦ λ i. replies (sym one.file i) st (sym e i) more ]

module _ {r₀ : Round} {st₀ : State} {text₀ : List ℕ} {r : Round} {st : State} {text : List ℕ} {made : List Call} (course : Course r₀ st₀ text₀ r st text made) where
  -- One frame more.
  pub course_more : (r' : Round) (p : Placed) → Taken r p r' → (a : Heard) → told p.answer ≡ a → (text' : List ℕ) → text' ≡ text ++ line p.number (reply st p.offset a)
      → Course r₀ st₀ text₀ r' (next st p.offset a) text' (made ++ call_in a)
  course_more r' p one a is text' grown = record {
    file = one.file ∙ course.file;
    rest = λ more l.
        rw (grown, ← placed r r' p one (next st p.offset a) more l, one.number, one.offset, one.counted, append_assoc text _ _, append_assoc made _ _)
        (course.rest (a ∷ more) (subst (λ (x : Heard). Left r (x ∷ more)) is (one.then more l)));
  }

  pub course_end : Left r [] → Replied r₀ st₀ text₀ text made
  course_end l = replied_at (append-nil text) (append-nil made) (course.rest [] l)

  -- The rest was replied to by another.
  pub course_on : {text' : List ℕ} {more : List Call} → Replied r st text text' more → Replied r₀ st₀ text₀ text' (made ++ more)
  course_on x = replied_at (sym x.lines) (ap (λ (m : List Call). made ++ m) (sym x.made_of)) (course.rest x.answers x.left)
