-- Whole runs, turn by turn: after the start and one look, and with one more call and look. Assumes nothing.
use Rattle.std.proofs.Common.{◌≡◌, ℕ, ◌+◌, ◌<◌, ◌≤◌, List, [], ◌∷◌, ◌++◌, length, take, Option, sym, refl, ap, ◌∙◌, inl, inr, arith, take_all}
use lib.Seq.{take-append-le}
use Rattle.std.proofs.lemmas.List.{length_push, get_or_push, get_or_append_left, take_more}
use Rattle.std.proofs.lemmas.Bool.{cases_eq}
use Rattle.fault.specs.declared.fault.BookFault.TheVariants.{TooManyAbsent}
use Rattle.fault.specs.declared.fault.Fault.TheVariants.{Book}
use Rattle.field.specs.Structure.{Structure}
use Rattle.rack.specs.Meaning.{Meaning}
use Rattle.call.specs.declared.Call.{Call}
use Rattle.call.specs.declared.Call.TheVariants.{Seat}
use Rattle.rules.specs.Known.{Known, put}
use Rattle.rules.specs.Rules.{how_many_gone}
use Rattle.ledger.specs.declared.Answer.{Answer}
use Rattle.ledger.specs.declared.Answer.TheVariants.{NotAllowed}
use Rattle.ledger.specs.Ledger.{Ledger, known, front, answer, after, after_all}
use Rattle.ledger.specs.Stands.{Sound, Stands, Turn}
use Rattle.ledger.specs.Runs.{call_at, answer_at, History}
use Rattle.rules.proofs.Knowing.{put_same, put_other}
use Rattle.ledger.proofs.Soundness.{sound_after}
use Rattle.ledger.proofs.Deciding.{refused_undecided, undecided_refused}
use Rattle.ledger.proofs.LastPosts.{after_more, last_posted}

module _ {K : Type 0} (s : Structure K) where
  pub sound_all : (l : Ledger) (room : ℕ) (calls : List Call) → Sound s l → Sound s (after_all l room calls)
  sound_all l room [] sound = sound
  sound_all l room (c ∷ cs) sound = sound_all (after l room c) room cs (sound_after s l room sound c)

  module _ {D R W : Type 0} (knows : D → Known) (open_bay : D → Option ℕ) (meaning : R → Meaning) (sees : W → D → R → W → Type 0) where
    -- what was shown to the watcher, the states between the calls, and the answers
    record Shown (l : Ledger) (room : ℕ) (calls : List Call) (answers : List Answer) (w : W) (d' : D) (r' : R) (w' : W) : Type 0 where
      drawer : ℕ → D
      rack : ℕ → R
      watcher : ℕ → W
      first : watcher 0 ≡ w
      shown : (n : ℕ) → n ≤ length calls → sees (watcher n) (drawer n) (rack n) (watcher (n + 1))
      last_drawer : drawer (length calls) ≡ d'
      last_rack : rack (length calls) ≡ r'
      last_watcher : watcher (length calls + 1) ≡ w'
      many : length answers ≡ length calls
      stands : (n : ℕ) → n ≤ length calls → Stands s (after_all l room (take n calls)) (knows (drawer n)) (open_bay (drawer n)) (meaning (rack n))
      told : (n : ℕ) → n < length calls → answer_at answers n ≡ answer (after_all l room (take n calls)) room (call_at calls n)

    pub history_at : {room : ℕ} {l l' : Ledger} {calls calls' : List Call} {answers answers' : List Answer} {w w' : W} {d : D} {r : R} → l ≡ l' → calls ≡ calls' → answers ≡ answers'
        → History s knows open_bay meaning sees l' room calls' answers' w d r w' → History s knows open_bay meaning sees l room calls answers w d r w'
    history_at p q a h = rw (p, q, a) h

    module _ (l : Ledger) (room : ℕ) (sound : Sound s l) (new : (item line : ℕ) → l.count item line ≡ 0) where
      history : {calls : List Call} {answers : List Answer} {w w' : W} {d : D} {r : R} → Shown l room calls answers w d r w' → History s knows open_bay meaning sees l room calls answers w d r w'
      history {calls} {answers} p = record {
        drawer = p.drawer;
        rack = p.rack;
        watcher = p.watcher;
        first = p.first;
        shown = p.shown;
        last_drawer = p.last_drawer;
        last_rack = p.last_rack;
        last_watcher = p.last_watcher;
        many = p.many;
        stands = p.stands;
        told = p.told;
        words = λ n item line word h get is. last_posted room item line l calls answers (new item line) p.told n word h get is;
        refused = λ n item line why h get is good.
            refused_undecided s (after_all l room (take n calls)) (meaning (p.rack n)) (sound_all l room (take n calls) sound) room item line good (knows (p.drawer n)) (open_bay (p.drawer n)) (p.stands n (omega arith)) why
            (sym (p.told n h ∙ ap (answer (after_all l room (take n calls)) room) get) ∙ is);
        answered = λ n item line h get shut good u. (
          Book (TooManyAbsent (how_many_gone (known (after_all l room (take n calls))) (front (after_all l room (take n calls))))),
          p.told n h ∙ ap (answer (after_all l room (take n calls)) room) get
              ∙ undecided_refused s (after_all l room (take n calls)) (meaning (p.rack n)) (sound_all l room (take n calls) sound) room item line good (sym (p.stands n (omega arith)).open_drawer ∙ shut) u,
        );
      }

      pub history_none : {w w' : W} {d : D} {r : R} → Stands s l (knows d) (open_bay d) (meaning r) → sees w d r w' → History s knows open_bay meaning sees l room [] [] w d r w'
      history_none {w} {w'} {d} {r} st look = history record {
        drawer = λ _. d;
        rack = λ _. r;
        watcher = put (λ _. w) 1 w';
        first = refl;
        shown = λ n h. let z : n ≡ 0 = omega (arith, h) in rw z look;
        last_drawer = refl;
        last_rack = refl;
        last_watcher = refl;
        many = refl;
        stands = λ n h. let z : n ≡ 0 = omega (arith, h) in rw z st;
        told = λ n h. absurd (omega (arith, h));
      }

      moved : {a a' : W} {b b' : D} {c c' : R} {e e' : W} → a ≡ a' → b ≡ b' → c ≡ c' → e ≡ e' → sees a' b' c' e' → sees a b c e
      moved p q r s x = rw (p, q, r, s) x

      stood : {x x' : Ledger} {b b' : D} {c c' : R} → x ≡ x' → b ≡ b' → c ≡ c' → Stands s x' (knows b') (open_bay b') (meaning c') → Stands s x (knows b) (open_bay b) (meaning c)
      stood p q r x = rw (p, q, r) x

      module _ (cs : List Call) (ans : List Answer) {w w' : W} {d : D} {r : R} (h : History s knows open_bay meaning sees l room cs ans w d r w') where
        -- the last state
        pub history_stands : Stands s (after_all l room cs) (knows d) (open_bay d) (meaning r)
        history_stands =
            stood (sym (ap (after_all l room) (take_all (length cs) cs (omega arith)))) (sym h.last_drawer) (sym h.last_rack) (h.stands (length cs) (omega arith))

        module _ (c : Call) (a : Answer) (d'' : D) (r'' : R) (w'' : W) where
          longer : a ≡ answer (after_all l room cs) room c → Stands s (after (after_all l room cs) room c) (knows d'') (open_bay d'') (meaning r'') → sees w' d'' r'' w''
              → Shown l room (cs ++ (c ∷ [])) (ans ++ (a ∷ [])) w d'' r'' w''
          longer said st look =
              let n = length cs in
              let long : length (cs ++ (c ∷ [])) ≡ length cs + 1 = length_push cs c in
              record {
                drawer = put h.drawer (n + 1) d'';
                rack = put h.rack (n + 1) r'';
                watcher = put h.watcher (n + 1 + 1) w'';
                first = put_other h.watcher (n + 1 + 1) w'' 0 (omega arith) ∙ h.first;
                shown = λ k few.
                    elim (cases_eq k (n + 1)) [
                      | inl e ↦ moved
                          (put_other h.watcher (n + 1 + 1) w'' k (omega arith) ∙ ap h.watcher e ∙ h.last_watcher)
                          (ap (put h.drawer (n + 1) d'') e ∙ put_same h.drawer (n + 1) d'')
                          (ap (put h.rack (n + 1) r'') e ∙ put_same h.rack (n + 1) r'')
                          (ap (λ i. put h.watcher (n + 1 + 1) w'' (i + 1)) e ∙ put_same h.watcher (n + 1 + 1) w'')
                          look
                      | inr ne ↦ moved
                          (put_other h.watcher (n + 1 + 1) w'' k (omega (arith, few, long)))
                          (put_other h.drawer (n + 1) d'' k ne)
                          (put_other h.rack (n + 1) r'' k ne)
                          (put_other h.watcher (n + 1 + 1) w'' (k + 1) (omega (arith, few, long, ne)))
                          (h.shown k (omega (arith, few, long, ne)))
                    ];
                last_drawer = ap (put h.drawer (n + 1) d'') long ∙ put_same h.drawer (n + 1) d'';
                last_rack = ap (put h.rack (n + 1) r'') long ∙ put_same h.rack (n + 1) r'';
                last_watcher = ap (λ i. put h.watcher (n + 1 + 1) w'' (i + 1)) long ∙ put_same h.watcher (n + 1 + 1) w'';
                many = length_push ans a ∙ ap (λ i. i + 1) h.many ∙ sym long;
                stands = λ k few.
                    elim (cases_eq k (n + 1)) [
                      | inl e ↦ stood
                          (ap (after_all l room) (take_all k (cs ++ (c ∷ [])) (omega (arith, long, e))) ∙ after_more l room cs c)
                          (ap (put h.drawer (n + 1) d'') e ∙ put_same h.drawer (n + 1) d'')
                          (ap (put h.rack (n + 1) r'') e ∙ put_same h.rack (n + 1) r'')
                          st
                      | inr ne ↦ stood
                          (ap (after_all l room) (take-append-le k cs (c ∷ []) (omega (arith, few, long, ne))))
                          (put_other h.drawer (n + 1) d'' k ne)
                          (put_other h.rack (n + 1) r'' k ne)
                          (h.stands k (omega (arith, few, long, ne)))
                    ];
                told = λ k few.
                    elim (cases_eq k n) [
                      | inl e ↦
                          get_or_push ans a NotAllowed k (h.many ∙ sym e) ∙ said
                          ∙ sym (ap (λ x. answer (after_all l room x) room (call_at (cs ++ (c ∷ [])) k)) (take-append-le k cs (c ∷ []) (omega (arith, e)) ∙ take_all k cs (omega (arith, e))) ∙ ap (answer (after_all l room cs) room) (get_or_push cs c Seat k (sym e)))
                      | inr ne ↦
                          let less : k < length cs = omega (arith, few, long, ne) in
                          get_or_append_left ans (a ∷ []) NotAllowed k (omega (arith, less, h.many)) ∙ h.told k less
                          ∙ sym (ap (λ x. answer (after_all l room x) room (call_at (cs ++ (c ∷ [])) k)) (take-append-le k cs (c ∷ []) (omega (arith, less))) ∙ ap (answer (after_all l room (take k cs)) room) (get_or_append_left cs (c ∷ []) Seat k less))
                    ];
              }

          pub history_more : Turn s room c (knows d) (open_bay d) (meaning r) a (knows d'') (open_bay d'') (meaning r'') → sees w' d'' r'' w''
              → History s knows open_bay meaning sees l room (cs ++ (c ∷ [])) (ans ++ (a ∷ [])) w d'' r'' w''
          history_more turn look =
              let (said, st) = turn (after_all l room cs) (sound_all l room cs sound) history_stands in
              history (longer said st look)

      -- a loop over the calls, with those before the one with number i done
      pub history_step : (calls : List Call) (i : ℕ) → i < length calls → (ans ans' : List Answer) {w w' : W} {d : D} {r : R} → History s knows open_bay meaning sees l room (take i calls) ans w d r w'
          → (c : Call) (a : Answer) (d'' : D) (r'' : R) (w'' : W) → c ≡ call_at calls i → ans' ≡ ans ++ (a ∷ [])
          → Turn s room c (knows d) (open_bay d) (meaning r) a (knows d'') (open_bay d'') (meaning r'') → sees w' d'' r'' w''
          → History s knows open_bay meaning sees l room (take (i + 1) calls) ans' w d'' r'' w''
      history_step calls i less ans ans' h c a d'' r'' w'' at pushed turn look =
          history_at refl (take_more calls i Seat less ∙ ap (λ x. take i calls ++ (x ∷ [])) (sym at)) pushed (history_more (take i calls) ans h c a d'' r'' w'' turn look)

      pub history_all : (calls : List Call) (i : ℕ) → length calls ≤ i → (ans : List Answer) {w w' : W} {d : D} {r : R} → History s knows open_bay meaning sees l room (take i calls) ans w d r w'
          → History s knows open_bay meaning sees l room calls ans w d r w'
      history_all calls i done ans h = history_at refl (sym (take_all i calls done)) refl h
