-- The counts of the ledger are the words of the last accepted posts. Assumes nothing.
use Rattle.std.proofs.Common.{◌≡◌, ℕ, zero, suc, ◌<◌, ◌≤◌, Bool, true, false, ◌&&◌, eqb, ◌⊎◌, List, [], ◌∷◌, ◌++◌, length, take, sym, refl, ap, ◌∙◌, subst, inl, inr, add-one, arith}
use Rattle.std.proofs.lemmas.List.{take_more}
use Rattle.std.proofs.lemmas.Bool.{and_parts, and_from, both_ways, cases_eq, cond-true, cond-false, eq-eqb, eqb-true}
use Rattle.call.specs.declared.Call.{Call}
use Rattle.call.specs.declared.Call.TheVariants.{Post, Get, Off, On, Release, Seat, Mend}
use Rattle.ledger.specs.declared.Answer.{Answer}
use Rattle.ledger.specs.declared.Answer.TheVariants.{Done, Word, Refused, NotAllowed}
use Rattle.ledger.specs.Ledger.{Ledger, Verdict, accepted, refused, not_allowed, verdict, on_verdict, after, answer, after_all}
use Rattle.ledger.specs.Runs.{call_at, answer_at, PostedAt, LastPosted}

pub after_more : (l : Ledger) (room : ℕ) (cs : List Call) (c : Call) → after_all l room (cs ++ (c ∷ [])) ≡ after (after_all l room cs) room c
after_more l room [] c = refl
after_more l room (x ∷ cs) c = after_more (after l room x) room cs c

module _ (room item line : ℕ) where
  -- the count is that of an accepted post, or it stays and no post to this item and line was done
  abbrev Step : Ledger → Call → Type 0
  Step l c =
      ((w : ℕ) × (c ≡ Post item line w) × (answer l room c ≡ Done) × ((after l room c).count item line ≡ w))
      ⊎ (((after l room c).count item line ≡ l.count item line) × ((w : ℕ) → c ≡ Post item line w → answer l room c ≡ Done → ⊥))

  stays : (v : Verdict) (x l : Ledger) → x.count item line ≡ l.count item line → (on_verdict v x (λ _. l) l).count item line ≡ l.count item line
  stays accepted x l e = e
  stays (refused why) x l e = refl
  stays not_allowed x l e = refl

  undone : (v : Verdict) → on_verdict v Done Refused NotAllowed ≡ Done → v ≡ accepted
  undone accepted e = refl
  undone (refused why) e = absurd cc
  undone not_allowed e = absurd cc

  posting : (l : Ledger) (i j w : ℕ) → Step l (Post i j w)
  posting l i j w = go (verdict l room (Post i j w)) refl (eqb item i && eqb line j) refl
    where
      go : (v : Verdict) → verdict l room (Post i j w) ≡ v → (t : Bool) → (eqb item i && eqb line j) ≡ t → Step l (Post i j w)
      go accepted v true e =
          let (p, q) = and_parts (eqb item i) (eqb line j) e in
          let i-is : item ≡ i = eqb-true item i p in
          let j-is : line ≡ j = eqb-true line j q in
          inl (w, ap (λ x. Post x j w) (sym i-is) ∙ ap (λ x. Post item x w) (sym j-is), rw v refl, rw v (cond-true (eqb item i && eqb line j) w (l.count item line) e))
      go accepted v false e =
          inr (
            rw v (cond-false (eqb item i && eqb line j) w (l.count item line) e),
            λ u same _.
                let i-is : item ≡ i = cc in
                let j-is : line ≡ j = cc in
                both_ways (eqb item i && eqb line j) e (and_from (eqb item i) (eqb line j) (eq-eqb item i i-is) (eq-eqb line j j-is)),
          )
      go (refused why) v t e = inr (rw v refl, λ u _ done. let no_such : refused why ≡ accepted = sym v ∙ undone _ done in cc)
      go not_allowed v t e = inr (rw v refl, λ u _ done. let no_such : not_allowed ≡ accepted = sym v ∙ undone _ done in cc)

  step : (l : Ledger) (c : Call) → Step l c
  step l (Post i j w) = posting l i j w
  step l (Get i j) = inr (stays (verdict l room (Get i j)) _ l refl, λ w e _. cc)
  step l (Off b) = inr (stays (verdict l room (Off b)) _ l refl, λ w e _. cc)
  step l (On b) = inr (stays (verdict l room (On b)) _ l refl, λ w e _. cc)
  step l (Release b) = inr (stays (verdict l room (Release b)) _ l refl, λ w e _. cc)
  step l Seat = inr (stays (verdict l room Seat) _ l refl, λ w e _. cc)
  step l (Mend b) = inr (stays (verdict l room (Mend b)) _ l refl, λ w e _. cc)

  -- a word that a get gives is the count
  word_of : (v : Verdict) (x y : ℕ) → on_verdict v (Word y) Refused NotAllowed ≡ Word x → y ≡ x
  word_of accepted x y e = cc
  word_of (refused why) x y e = absurd cc
  word_of not_allowed x y e = absurd cc

  module _ (l : Ledger) (calls : List Call) (answers : List Answer) (new : l.count item line ≡ 0)
      (told : (n : ℕ) → n < length calls → answer_at answers n ≡ answer (after_all l room (take n calls)) room (call_at calls n)) where
    next : (n : ℕ) → n < length calls → after_all l room (take (suc n) calls) ≡ after (after_all l room (take n calls)) room (call_at calls n)
    next n h = ap (λ i. after_all l room (take i calls)) (sym (add-one n)) ∙ ap (after_all l room) (take_more calls n Seat h) ∙ after_more l room (take n calls) (call_at calls n)

    -- the count before call n
    abbrev before : ℕ → ℕ
    before n = (after_all l room (take n calls)).count item line

    count_last : (n : ℕ) → n ≤ length calls → LastPosted calls answers n item line (before n)
    count_last zero h = inr (new, λ i w less _. omega arith)
    count_last (suc n) h = grow (count_last n (omega arith)) (step (after_all l room (take n calls)) (call_at calls n))
      where
        e : before (suc n) ≡ (after (after_all l room (take n calls)) room (call_at calls n)).count item line
        e = ap (λ x. x.count item line) (next n h)

        earlier : (i w : ℕ) → i < suc n → PostedAt calls answers i item line w → (i < n → ⊥)
            → ((u : ℕ) → call_at calls n ≡ Post item line u → answer (after_all l room (take n calls)) room (call_at calls n) ≡ Done → ⊥) → ⊥
        earlier i w less is not-before not_now = elim (cases_eq i n) [
          | inl here ↦ not_now w (ap (call_at calls) (sym here) ∙ is.1) (sym (told n h) ∙ ap (answer_at answers) (sym here) ∙ is.2)
          | inr apart ↦ not-before (omega arith)
        ]

        grow : LastPosted calls answers n item line (before n) → Step (after_all l room (take n calls)) (call_at calls n) → LastPosted calls answers (suc n) item line (before (suc n))
        grow q (inl (w, is, done, same)) =
            inl (n, omega arith, (h, is ∙ ap (Post item line) (sym (e ∙ same)), told n h ∙ done), λ i u j less _. omega arith)
        grow (inl (j, early, at, after-j)) (inr (same, not_now)) =
            inl (j, omega arith, (at.0, at.1 ∙ ap (Post item line) (sym (e ∙ same)), at.2), λ i u more less is. earlier i u less is (λ k. after-j i u more k is) not_now)
        grow (inr (none, never)) (inr (same, not_now)) =
            inr (e ∙ same ∙ none, λ i u less is. earlier i u less is (λ k. never i u k is) not_now)

    pub last_posted : (n word : ℕ) → n < length calls → call_at calls n ≡ Get item line → answer_at answers n ≡ Word word → LastPosted calls answers n item line word
    last_posted n word h get is =
        let same : before n ≡ word = word_of (verdict (after_all l room (take n calls)) room (Get item line)) word (before n) (sym (told n h ∙ ap (answer (after_all l room (take n calls)) room) get) ∙ is) in
        subst (LastPosted calls answers n item line) same (count_last n (omega arith))
