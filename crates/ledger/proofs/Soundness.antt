-- The ledger after the start, and after each call, is sound. Assumes nothing.
use Rattle.std.proofs.Common.{◌≡◌, ℕ, ◌+◌, ◌*◌, ◌<◌, ◌≤◌, Bool, true, false, cond, not, ◌&&◌, ◌||◌, eqb, ltb, Some, None, Option, refl, ap, arith, pow_pos}
use Rattle.std.proofs.lemmas.Bool.{and_parts, cond_both}
use Rattle.fault.specs.declared.fault.BookFault.{BookFault}
use Rattle.fault.specs.declared.fault.Fault.{Fault}
use Rattle.field.specs.Structure.{Structure, size}
use Rattle.codeword.specs.Sums.{count}
use Rattle.extension.specs.Extend.{extend}
use Rattle.extension.proofs.Parts.{order_is}
use Rattle.worksheet.specs.Present.{absent}
use Rattle.call.specs.declared.Call.{Call}
use Rattle.call.specs.declared.Call.TheVariants.{Post, Get, Off, On, Release, Seat, Mend}
use Rattle.rules.specs.Known.{Front, put}
use Rattle.rules.specs.Rules.{why_start, why_post, why_release, why_mend}
use Rattle.rules.specs.Effects.{concerned, behind_after_post}
use Rattle.ledger.specs.Ledger.{Ledger, Verdict, accepted, refused, not_allowed, opening, known, front, verdict, change, on_verdict, after, ruled, closed, by_book}
use Rattle.ledger.specs.Stands.{Out, Sound}
use Rattle.rules.proofs.Knowing.{put_same}
use Rattle.ledger.proofs.Counts.{count_fewer, count_but_one}
use Rattle.rules.proofs.Refusals.{startable, postable, releasable}

-- what an accepted call passed
ruled_none : (why : Option Fault) → ruled why ≡ accepted → why ≡ None
ruled_none None e = refl
ruled_none (Some f) e = absurd cc

closed_none : (drawer : Option ℕ) (why : Option Fault) → closed drawer why ≡ accepted → (drawer ≡ None) × (why ≡ None)
closed_none None why e = (refl, ruled_none why e)
closed_none (Some bay) why e = absurd cc

by_book_none : (why : Option BookFault) → by_book why ≡ None → why ≡ None
by_book_none None e = refl
by_book_none (Some f) e = absurd cc

-- an accepted call makes x of the ledger, and any other leaves it
kept : (P : Ledger → Type 0) (v : Verdict) (x l : Ledger) → P l → (v ≡ accepted → P x) → P (on_verdict v x (λ _. l) l)
kept P accepted x l old new = new refl
kept P (refused why) x l old new = old
kept P not_allowed x l old new = old

-- the bay of the open drawer is still behind
out_still : (o : Option ℕ) (l x : Ledger) → x.items ≡ l.items → ((b : ℕ) → l.behind b ≡ true → x.behind b ≡ true) → Out o l → Out o x
out_still None l x same more out = tt
out_still (Some bay) l x same more out = (omega (arith, out.0), more bay out.1)

out_closed : (o : Option ℕ) (x : Ledger) → o ≡ None → Out o x
out_closed o x e = rw e tt

absent_if : (switch behind c : Bool) → (behind || (c && not switch)) ≡ true → not (switch && not behind) ≡ true
absent_if true true c e = refl
absent_if true false true e = e
absent_if true false false e = e
absent_if false behind c e = refl

module _ {K : Type 0} (s : Structure K) where
  pub sound_opening : (items : ℕ) (f : Front) → why_start (size s) items f ≡ None → Sound s (opening (size s) items f)
  sound_opening items f none =
      let ok = startable (size s) items f none in
      record {
        field = refl;
        some = ok.some;
        fits = ok.fits;
        bays = ok.bays;
        small = λ item line. squares;
        few =
            let fewer : count (λ bay. ltb bay (items + 4) && not (f.switch bay)) (items + 4) ≤ count (λ bay. not (f.switch bay)) (items + 4)
            = count_fewer _ _ (items + 4) (λ bay h e. (and_parts (ltb bay (items + 4)) (not (f.switch bay)) e).1) in
            let same : count (λ bay. not (f.switch bay)) f.bays ≡ count (λ bay. not (f.switch bay)) (items + 4) = ap (count (λ bay. not (f.switch bay))) ok.bays in
            omega (arith, ok.few);
        out = tt;
      }
    where
      squares : 0 < size s * size s
      squares = rw (order_is s) (pow_pos (extend s).bits)

  module _ (l : Ledger) (room : ℕ) (sound : Sound s l) where
    -- no call changes the sizes
    sound_with : (counts : ℕ → ℕ → ℕ) (switch behind : ℕ → Bool) (drawer : Option ℕ) → ((item line : ℕ) → counts item line < l.size * l.size) → count behind (l.items + 4) ≤ 4
        → Out drawer (record l { behind = behind }) → Sound s (record l { count = counts; switch = switch; behind = behind; drawer = drawer })
    sound_with counts switch behind drawer small few out = record { field = sound.field; some = sound.some; fits = sound.fits; bays = sound.bays; small = small; few = few; out = out_still drawer (record l { behind = behind }) _ refl (λ b e. e) out }

    posted_sound : (item line word : ℕ) → verdict l room (Post item line word) ≡ accepted → Sound s (change l (Post item line word))
    posted_sound item line word e =
        let (shut, why) = closed_none l.drawer (by_book (why_post (l.size * l.size) (known l) (front l) room item line word)) e in
        let ok = postable (l.size * l.size) (known l) (front l) room item line word (by_book_none _ why) in
        let fewer : count (behind_after_post l.switch l.behind item) (l.items + 4) ≤ count (absent l.switch l.behind) (l.items + 4)
        = count_fewer _ _ (l.items + 4) (λ bay h e. absent_if (l.switch bay) (l.behind bay) (concerned item bay) e) in
        let same : count (absent l.switch l.behind) l.bays ≡ count (absent l.switch l.behind) (l.items + 4) = ap (count (absent l.switch l.behind)) sound.bays in
        sound_with _ _ _ _ (λ i j. cond_both (eqb i item && eqb j line) word (l.count i j) (λ w. w < l.size * l.size) (λ _. ok.small) (λ _. sound.small i j)) (omega (arith, ok.few)) (out_closed l.drawer _ shut)

    -- the switches alone change
    switched_sound : (switch : ℕ → Bool) → Sound s (record l { switch = switch })
    switched_sound switch = sound_with _ _ _ _ sound.small sound.few sound.out

    released_sound : (bay : ℕ) → verdict l room (Release bay) ≡ accepted → Sound s (change l (Release bay))
    released_sound bay e =
        let (shut, why) = closed_none l.drawer (by_book (why_release (known l) bay)) e in
        let ok = releasable (known l) bay (by_book_none _ why) in
        sound_with _ _ _ _ sound.small (omega (arith, ok.few, count_but_one l.behind bay (l.items + 4))) (ok.inside, put_same l.behind bay true)

    mended_sound : (bay : ℕ) → verdict l room (Mend bay) ≡ accepted → Sound s (change l (Mend bay))
    mended_sound bay e =
        let (shut, why) = closed_none l.drawer (why_mend (known l) (front l) room bay) e in
        let fewer : count (put l.behind bay false) (l.items + 4) ≤ count l.behind (l.items + 4)
        = count_fewer _ _ (l.items + 4) (λ b h e. fewer_behind (eqb b bay) (l.behind b) e) in
        sound_with _ _ _ _ sound.small (omega (arith, sound.few)) (out_closed l.drawer _ shut)
      where
        fewer_behind : (t x : Bool) → cond t false x ≡ true → x ≡ true
        fewer_behind true true e = refl
        fewer_behind true false e = e
        fewer_behind false x e = e

    seated_sound : Sound s (change l Seat)
    seated_sound = sound_with _ _ _ _ sound.small sound.few tt

    pub sound_after : (c : Call) → Sound s (after l room c)
    sound_after (Post item line word) = kept (Sound s) (verdict l room (Post item line word)) _ l sound (posted_sound item line word)
    sound_after (Get item line) = kept (Sound s) (verdict l room (Get item line)) _ l sound (λ _. sound)
    sound_after (Off bay) = kept (Sound s) (verdict l room (Off bay)) _ l sound (λ _. switched_sound _)
    sound_after (On bay) = kept (Sound s) (verdict l room (On bay)) _ l sound (λ _. switched_sound _)
    sound_after (Release bay) = kept (Sound s) (verdict l room (Release bay)) _ l sound (released_sound bay)
    sound_after Seat = kept (Sound s) (verdict l room Seat) _ l sound (λ _. seated_sound)
    sound_after (Mend bay) = kept (Sound s) (verdict l room (Mend bay)) _ l sound (mended_sound bay)
