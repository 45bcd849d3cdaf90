-- One call to a bank: the answer is the ledger's, and the book and the rack stand by the ledger after it. Assumes nothing.
use Rattle.std.proofs.Common.{◌≡◌, ℕ, ◌*◌, ◌<◌, Bool, true, false, cond, leb, Some, None, Ok, Err, Option, Result, sym, refl, ap, ◌∙◌, subst, arith, IfOk, OnOk, OnErr}
use Rattle.fault.specs.Refusing.{when, refusal_of}
use Rattle.fault.specs.declared.fault.BookFault.{BookFault}
use Rattle.fault.specs.declared.fault.RackFault.{RackFault}
use Rattle.fault.specs.declared.fault.RackFault.TheVariants.{NoBay}
use Rattle.fault.specs.declared.fault.Fault.{Fault}
use Rattle.fault.specs.declared.fault.Fault.TheVariants.{Book, Rack}
use Rattle.field.specs.Structure.{Structure}
use Rattle.codeword.specs.Codeword.{words}
use Rattle.rack.specs.Meaning.{Meaning}
use Rattle.rack.specs.Calls.{bay_refusal, answer as rack_answer, after as rack_after, with_switch, with_bay, switch_answer, switch_after, exchange_after}
use Rattle.rack.proofs.Laws.{bay_accepted}
use Rattle.call.specs.declared.Call.{Call}
use Rattle.call.specs.declared.Call.TheVariants.{Post, Get, Off, On, Release, Seat, Mend}
use Rattle.rules.specs.Known.{Known, put, with_behind, front_of}
use Rattle.rules.specs.Rules.{why_get, why_post, why_mend, why_release, why_seat}
use Rattle.rules.specs.Effects.{Got, Posted, Mended}
use Rattle.ledger.specs.declared.Answer.{Answer}
use Rattle.ledger.specs.declared.Answer.TheVariants.{Done, Word, Refused, NotAllowed}
use Rattle.ledger.specs.Ledger.{Ledger, accepted, refused, not_allowed, known, front, ruled, closed, opened, by_book, why_switch, verdict, change, seated, said, answer, after}
use Rattle.ledger.specs.Stands.{Out, Sound, Stands, Turn}
use Rattle.ledger.specs.Answering.{AnswerTo}
use Rattle.rules.proofs.Refusals.{gettable, postable, mendable}
use Rattle.ledger.proofs.Soundness.{sound_after}
use Rattle.ledger.proofs.Lines.{square}
use Rattle.ledger.proofs.Same.{same_get, same_post, same_mend, same_release, same_seat}
use Rattle.ledger.proofs.Kept.{got_count, posted_stands, mended_stands, switched_stands, released_stands, seated_stands}

-- an error is answered by the fault that it is
refused_by : {f g : Fault} {a : Answer} → g ≡ f → a ≡ Refused g → a ≡ Refused f
refused_by e is = is ∙ ap Refused e

module _ {K : Type 0} (s : Structure K) (room : ℕ) where
  module _ (l : Ledger) (c : Call) {a : Answer} {k : Known} {d : Option ℕ} {m : Meaning} where
    accepts : verdict l room c ≡ accepted → a ≡ said l c → Stands s (change l c) k d m → (a ≡ answer l room c) × Stands s (after l room c) k d m
    accepts v e st = rw v (e, st)

    refuses : (why : Fault) → verdict l room c ≡ refused why → a ≡ Refused why → Stands s l k d m → (a ≡ answer l room c) × Stands s (after l room c) k d m
    refuses why v e st = rw v (e, st)

    bars : verdict l room c ≡ not_allowed → a ≡ NotAllowed → Stands s l k d m → (a ≡ answer l room c) × Stands s (after l room c) k d m
    bars v e st = rw v (e, st)

  -- the ledger is sound after an accepted call
  accepted_sound : (l : Ledger) (c : Call) → verdict l room c ≡ accepted → Sound s l → Sound s (change l c)
  accepted_sound l c v sound = rw v at (sound_after s l room sound c)

  module _ (k : Known) (m : Meaning) where
    -- with a closed drawer the rules decide
    shut : (l : Ledger) (why why' : Option Fault) → Stands s l k None m → why' ≡ why → closed l.drawer why ≡ ruled why'
    shut l why why' st same = ap (λ o. closed o why) (sym st.open_drawer) ∙ ap ruled (sym same)

    post_ruled : (item line word : ℕ) (o : Option BookFault) (l : Ledger) → Sound s l → Stands s l k None m → o ≡ why_post (words s) k (front_of m) room item line word
        → verdict l room (Post item line word) ≡ ruled (by_book o)
    post_ruled item line word o l sound st why =
        shut l _ _ st (ap by_book (why ∙ ap (λ qq. why_post qq k (front_of m) room item line word) (sym (square s l sound)) ∙ same_post s l k None m sound st (l.size * l.size) room item line word))

    pub turn_get : (item line : ℕ) (r : Result ℕ BookFault) (a : Answer) (m' : Meaning) → AnswerTo (λ w x. x ≡ Word w) (λ e f. f ≡ Book e) r a
        → refusal_of r ≡ why_get k (front_of m) room item line → IfOk r (Got s k m item line) → m' ≡ m
        → Turn s room (Get item line) k None m a k None m'
    turn_get item line (Ok v) a m' is why got same l sound st =
        accepts l (Get item line) (shut l _ _ st (ap by_book (why ∙ same_get s l k None m sound st room item line)))
        (is ∙ ap Word (got_count s l k None m sound st room item line v (gettable k (front_of m) room item line (sym why)) got)) (rw same st)
    turn_get item line (Err e) a m' (f, same_fault, is) why got same l sound st =
        refuses l (Get item line) (Book e) (shut l _ _ st (ap by_book (why ∙ same_get s l k None m sound st room item line))) (refused_by same_fault is) (rw same st)

    -- P is what is known of the book after a refusal.
    pub turn_post : (item line word : ℕ) (r : Result (Unit {0}) BookFault) (P : Type 0) (a : Answer) (k' : Known) (m' : Meaning) → AnswerTo (λ _ x. x ≡ Done) (λ e f. f ≡ Book e) r a
        → refusal_of r ≡ why_post (words s) k (front_of m) room item line word → OnOk r (Posted s k m item line word k' m') → OnErr r P → (P → k' ≡ k) → OnErr r (m' ≡ m)
        → Turn s room (Post item line word) k None m a k' None m'
    turn_post item line word (Ok u) P a k' m' is why posted kept same rack l sound st =
        let v : verdict l room (Post item line word) ≡ accepted = post_ruled item line word None l sound st why in
        accepts l (Post item line word) v is
        (posted_stands s l k None m sound st (words s) room item line word k' m' (postable (words s) k (front_of m) room item line word (sym why)) (accepted_sound l (Post item line word) v sound) posted)
    turn_post item line word (Err e) P a k' m' (f, same_fault, is) why posted kept same rack l sound st =
        refuses l (Post item line word) (Book e) (post_ruled item line word (Some e) l sound st why) (refused_by same_fault is) (rw (same kept, rack) st)

    pub turn_mend : (bay : ℕ) (r : Result (Unit {0}) Fault) (P : Type 0) (a : Answer) (k' : Known) (m' : Meaning) → AnswerTo (λ _ x. x ≡ Done) (λ e f. f ≡ e) r a
        → refusal_of r ≡ why_mend k (front_of m) room bay → OnOk r (Mended s k m bay k' m') → OnErr r P → (P → k' ≡ k) → OnErr r (m' ≡ m)
        → Turn s room (Mend bay) k None m a k' None m'
    turn_mend bay (Ok u) P a k' m' is why mended kept same rack l sound st =
        let v : verdict l room (Mend bay) ≡ accepted = shut l _ _ st (why ∙ same_mend s l k None m sound st room bay) in
        accepts l (Mend bay) v is (mended_stands s l k None m sound st bay k' m' (mendable k (front_of m) room bay (sym why)) (accepted_sound l (Mend bay) v sound) mended)
    turn_mend bay (Err e) P a k' m' (f, same_fault, is) why mended kept same rack l sound st =
        refuses l (Mend bay) e (shut l _ _ st (why ∙ same_mend s l k None m sound st room bay)) (refused_by same_fault is) (rw (same kept, rack) st)

    pub turn_released : (bay bay' : ℕ) (k' : Known) → why_release k bay ≡ None → bay' ≡ bay → k' ≡ with_behind k (put k.behind bay true)
        → Turn s room (Release bay) k None m Done k' (Some bay') m
    turn_released bay bay' k' why at book l sound st =
        let v : verdict l room (Release bay) ≡ accepted = shut l _ _ st (ap by_book (sym why ∙ same_release s l k None m sound st bay)) in
        accepts l (Release bay) v refl (rw (at, book) (released_stands s l k None m sound st bay (accepted_sound l (Release bay) v sound)))

    pub turn_not_released : (bay : ℕ) (f : BookFault) (k' : Known) → why_release k bay ≡ Some f → k' ≡ k → Turn s room (Release bay) k None m (Refused (Book f)) k' None m
    turn_not_released bay f k' why book l sound st =
        refuses l (Release bay) (Book f) (shut l _ _ st (ap by_book (sym why ∙ same_release s l k None m sound st bay))) refl (rw book st)

    -- with an open drawer the rule decides whether the bay is seated
    seat_ruled : (bay : ℕ) (why : Option BookFault) (l : Ledger) → Sound s l → Stands s l k (Some bay) m → why_seat k (front_of m) ≡ why → verdict l room Seat ≡ ruled (by_book why)
    seat_ruled bay why l sound st is =
        ap (λ o. opened o (by_book (why_seat (known l) (front l)))) (sym st.open_drawer) ∙ ap (λ w. ruled (by_book w)) (sym (same_seat s l k (Some bay) m sound st) ∙ is)

    pub turn_seated : (bay : ℕ) (k' : Known) (m' : Meaning) → why_seat k (front_of m) ≡ None → k' ≡ k → m' ≡ exchange_after m bay (m'.word bay)
        → Turn s room Seat k (Some bay) m Done k' None m'
    turn_seated bay k' m' why book rack l sound st =
        let out : Out (Some bay) l = subst (λ o. Out o l) (sym st.open_drawer) sound.out in
        let inside : bay < m.bays = omega (arith, out.0, st.rack_bays, sound.bays) in
        let with : m' ≡ with_bay m bay (m'.word bay) = rack ∙ ap (λ o. rack_after o m (with_bay m bay (m'.word bay))) (bay_accepted m bay inside) in
        accepts l Seat (seat_ruled bay None l sound st why) refl
        (subst (λ x. Stands s (change l Seat) x None m') (sym book)
        (subst (λ x. Stands s (change l Seat) k None x) (sym with)
        (subst (λ o. Stands s (record l { switch = seated o l.switch; drawer = None }) k None (with_bay m bay (m'.word bay))) st.open_drawer
        (seated_stands s l k (Some bay) m sound st bay (m'.word bay) out.1))))

    pub turn_not_seated : (bay bay' : ℕ) (f : BookFault) (k' : Known) (m' : Meaning) → why_seat k (front_of m) ≡ Some f → bay' ≡ bay → k' ≡ k → m' ≡ m
        → Turn s room Seat k (Some bay) m (Refused (Book f)) k' (Some bay') m'
    turn_not_seated bay bay' f k' m' why at book rack l sound st = refuses l Seat (Book f) (seat_ruled bay (Some f) l sound st why) refl (rw (at, book, rack) st)

    -- the calls that the drawer does not allow
    module _ (bay : ℕ) where
      open_bars : (l : Ledger) (why : Option Fault) → Stands s l k (Some bay) m → closed l.drawer why ≡ not_allowed
      open_bars l why st = ap (λ o. closed o why) (sym st.open_drawer)

      pub open_get : (item line : ℕ) → Turn s room (Get item line) k (Some bay) m NotAllowed k (Some bay) m
      open_get item line l sound st = bars l (Get item line) (open_bars l _ st) refl st

      pub open_post : (item line word : ℕ) → Turn s room (Post item line word) k (Some bay) m NotAllowed k (Some bay) m
      open_post item line word l sound st = bars l (Post item line word) (open_bars l _ st) refl st

      pub open_mend : (b : ℕ) → Turn s room (Mend b) k (Some bay) m NotAllowed k (Some bay) m
      open_mend b l sound st = bars l (Mend b) (open_bars l _ st) refl st

      pub open_release : (b : ℕ) → Turn s room (Release b) k (Some bay) m NotAllowed k (Some bay) m
      open_release b l sound st = bars l (Release b) (open_bars l _ st) refl st

    pub closed_seat : Turn s room Seat k None m NotAllowed k None m
    closed_seat l sound st = bars l Seat (ap (λ o. opened o (by_book (why_seat (known l) (front l)))) (sym st.open_drawer)) refl st

    -- the switches, whatever the drawer
    module _ (drawer : Option ℕ) (bay : ℕ) (r : Result (Unit {0}) RackFault) (a : Answer) (m' : Meaning) (is : AnswerTo (λ _ x. x ≡ Done) (λ e f. f ≡ Rack e) r a) (told : r ≡ switch_answer m bay) where
      -- c is the call that turns the switch
      switching : (c : Call) (on : Bool) (l : Ledger) → verdict l room c ≡ ruled (why_switch l bay) → said l c ≡ Done
          → change l c ≡ record l { switch = put l.switch bay on }
          → m' ≡ switch_after m bay on → Sound s l → Stands s l k drawer m → (a ≡ answer l room c) × Stands s (after l room c) k drawer m'
      switching c on l v done new rack sound st = go (leb l.bays bay) refl
        where
          refusal : (t : Bool) → leb l.bays bay ≡ t → bay_refusal m bay ≡ cond t (Some (NoBay bay)) None
          refusal t e = ap (λ n. cond (leb n bay) (Some (NoBay bay)) None) st.rack_bays ∙ ap (λ x. cond x (Some (NoBay bay)) None) e

          go : (t : Bool) → leb l.bays bay ≡ t → (a ≡ answer l room c) × Stands s (after l room c) k drawer m'
          go true e =
              let err : r ≡ Err (NoBay bay) = told ∙ ap (λ o. rack_answer o tt) (refusal true e) in
              let same : m' ≡ m = rack ∙ ap (λ o. rack_after o m (with_switch m bay on)) (refusal true e) in
              refuses l c (Rack (NoBay bay)) (v ∙ ap (λ t. ruled (when t (Rack (NoBay bay)))) e) (let (f, same_fault, given) = rw err at is in refused_by same_fault given) (rw same st)
          go false e =
              let ok : r ≡ Ok tt = told ∙ ap (λ o. rack_answer o tt) (refusal false e) in
              let with : m' ≡ with_switch m bay on = rack ∙ ap (λ o. rack_after o m (with_switch m bay on)) (refusal false e) in
              accepts l c (v ∙ ap (λ t. ruled (when t (Rack (NoBay bay)))) e) ((rw ok at is) ∙ sym done)
              (rw (new, with) (switched_stands s l k drawer m sound st bay on))

      pub turn_off : m' ≡ switch_after m bay false → Turn s room (Off bay) k drawer m a k drawer m'
      turn_off rack l sound st = switching (Off bay) false l refl refl refl rack sound st

      pub turn_on : m' ≡ switch_after m bay true → Turn s room (On bay) k drawer m a k drawer m'
      turn_on rack l sound st = switching (On bay) true l refl refl refl rack sound st
