-- One frame, by the task that it is. Assumes nothing.
use Rattle.std.proofs.Common.{◌≡◌, ℕ, Bool, true, false, cond, Some, None, Ok, Err, Option, sym, refl, ap, ◌∙◌, subst, arith}
use Rattle.call.specs.declared.Call.{Call}
use Rattle.call.specs.declared.Call.TheVariants.{Post, Get, Off, On, Release, Seat, Mend}
use Rattle.frame.specs.Format.{start, call, note, unknown}
use Rattle.frame.specs.Reading.{Answer as Heard}
use Rattle.field.specs.Structure.{Structure}
use Rattle.rack.specs.Meaning.{Meaning}
use Rattle.rules.specs.Known.{Known}
use Rattle.ledger.specs.declared.Answer.{Answer}
use Rattle.ledger.specs.declared.Answer.TheVariants.{NotAllowed}
use Rattle.ledger.specs.Stands.{Turn}
use Rattle.ledger.proofs.Turns.{open_get, open_post, open_mend, open_release, closed_seat}
use Rattle.replies.specs.Lines.{Said}
use Rattle.round.specs.Replies.{room, not_now, answer_reply}
use Rattle.round.specs.Tasks.{make, say, allowed, task, start_task, phase_of}
use Rattle.serve.specs.Served.{Answered}

-- A call that the drawer bars.
barred : {K : Type 0} (s : Structure K) (k : Known) (m : Meaning) (o : Option ℕ) (c : Call) → allowed (phase_of o) c ≡ false → Turn s room c k o m NotAllowed k o m
barred s k m None (Post item line word) e = absurd (grind arith)
barred s k m None (Get item line) e = absurd (grind arith)
barred s k m None (Off bay) e = absurd (grind arith)
barred s k m None (On bay) e = absurd (grind arith)
barred s k m None (Release bay) e = absurd (grind arith)
barred s k m None Seat e = closed_seat s room k m
barred s k m None (Mend bay) e = absurd (grind arith)
barred s k m (Some o) (Post item line word) e = open_post s room k m o item line word
barred s k m (Some o) (Get item line) e = open_get s room k m o item line
barred s k m (Some o) (Off bay) e = absurd (grind arith)
barred s k m (Some o) (On bay) e = absurd (grind arith)
barred s k m (Some o) (Release bay) e = open_release s room k m o bay
barred s k m (Some o) Seat e = absurd (grind arith)
barred s k m (Some o) (Mend bay) e = open_mend s room k m o bay

chosen_say : (b : Bool) (c : Call) (y x : Said) → say x ≡ cond b (make c) (say y) → (b ≡ false) × (x ≡ y)
chosen_say true c y x e = absurd (grind arith)
chosen_say false c y x e = (refl, cc)

chosen_make : (b : Bool) (c' c : Call) (y : Said) → make c ≡ cond b (make c') (say y) → c' ≡ c
chosen_make true c' c y e = cc
chosen_make false c' c y e = absurd (grind arith)

-- A start is not allowed while a bank is served.
no_start : (offset : ℕ) (o : Option ℕ) (items lines field : ℕ) → start_task (phase_of o) offset items lines field ≡ say (not_now offset)
no_start offset None items lines field = refl
no_start offset (Some bay) items lines field = refl

-- A task to make a call is that call's.
pub make_is : (offset : ℕ) (o : Option ℕ) (a : Heard) (c : Call) → make c ≡ task (phase_of o) offset a → a ≡ Ok (call c)
make_is offset o (Ok (start items lines field)) c e = let no = e ∙ no_start offset o items lines field in absurd (grind arith)
make_is offset o (Ok (call c')) c e = ap (λ (x : Call). Ok (call x)) (chosen_make (allowed (phase_of o) c') c' c (not_now offset) e)
make_is offset o (Ok (note text)) c e = absurd (grind arith)
make_is offset o (Ok (unknown kind body)) c e = absurd (grind arith)
make_is offset o (Err fault) c e = absurd (grind arith)

said_say : (x y : Said) → say x ≡ say y → x ≡ y
said_say x y e = cc

module _ {K : Type 0} (s : Structure K) {D R : Type 0} (knows : D → Known) (open_bay : D → Option ℕ) (meaning : R → Meaning) (offset : ℕ) (d : D) (r : R) where
  pub answered_make : (a : Heard) (c : Call) → make c ≡ task (phase_of (open_bay d)) offset a → (x : Said) (d' : D) (r' : R) (w : Answer)
      → Turn s room c (knows d) (open_bay d) (meaning r) w (knows d') (open_bay d') (meaning r') → x ≡ answer_reply offset w → Answered s knows open_bay meaning offset a d r x d' r'
  answered_make a c e x d' r' w turn said =
      subst (λ (h : Heard). Answered s knows open_bay meaning offset h d r x d' r') (sym (make_is offset (open_bay d) a c e)) (w, turn, said)

  pub answered_say : (a : Heard) (x : Said) → say x ≡ task (phase_of (open_bay d)) offset a → Answered s knows open_bay meaning offset a d r x d r
  answered_say (Ok (start items lines field)) x e = (refl, refl, λ l. said_say x (not_now offset) (e ∙ no_start offset (open_bay d) items lines field))
  answered_say (Ok (call c)) x e =
      let found = chosen_say (allowed (phase_of (open_bay d)) c) c (not_now offset) x e in
      (NotAllowed, barred s (knows d) (meaning r) (open_bay d) c found.0, found.1)
  answered_say (Ok (note text)) x e = (refl, refl, λ l. said_say x _ e)
  answered_say (Ok (unknown kind body)) x e = (refl, refl, λ l. said_say x _ e)
  answered_say (Err fault) x e = (refl, refl, λ l. said_say x _ e)
