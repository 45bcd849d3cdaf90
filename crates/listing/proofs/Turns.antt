-- What the loop over the frames of a file keeps. Assumes nothing.
use Rattle.std.proofs.Common.{◌≡◌, ℕ, ◌+◌, List, [], ◌∷◌, ◌++◌, length, Some, None, Result, sym, ap, ◌∙◌, append_assoc, append-nil, zero-add, arith}
use Rattle.std.proofs.lemmas.List.{length_push}
use Rattle.fault.specs.declared.fault.FileFault.{FileFault}
use Rattle.frame.specs.declared.frame.Frame.{Frame}
use Rattle.frame.specs.declared.reader.Reader.{Reader}
use Rattle.frame.specs.Reading.{Answer, told, Steps}
use Rattle.frame.proofs.Laws.{Bytes, Sofar, sofar_more, sofar_end}
use Rattle.listing.specs.Lines.{line_text, lines_from, Listed}

-- After so many frames: their answers, and the text of their lines.
pub record Turn (file : List ℕ) (number : ℕ) (text : List ℕ) (s : Reader) : Type 0 where
  pub seen : List Answer
  pub sofar : Sofar file seen s
  pub count : number ≡ length seen
  pub lines : text ≡ lines_from 0 seen

-- One line more.
pub lines_more : (n : ℕ) (seen : List Answer) (a : Answer) → lines_from n (seen ++ (a ∷ [])) ≡ lines_from n seen ++ (line_text (n + length seen) a ++ (10 ∷ []))
lines_more n [] a = append-nil _ ∙ ap (λ k. line_text k a ++ (10 ∷ [])) (omega arith)
lines_more n (b ∷ seen) a =
    ap (λ (l : List ℕ). (line_text n b ++ (10 ∷ [])) ++ l) (lines_more (n + 1) seen a ∙ ap (λ k. lines_from (n + 1) seen ++ (line_text k a ++ (10 ∷ []))) (omega arith))
    ∙ sym (append_assoc (line_text n b ++ (10 ∷ [])) (lines_from (n + 1) seen) _)

module _ {file : List ℕ} {number : ℕ} {text : List ℕ} {s : Reader} (turn : Turn file number text s) (t : Reader) where
  pub turn_more : Bytes file → (a : Result Frame FileFault) → Steps s (Some a) t
      → (text' : List ℕ) → text' ≡ text ++ (line_text number (told a) ++ (10 ∷ [])) → Turn file (number + 1) text' t
  turn_more small a one text' pushed = record {
    seen = turn.seen ++ (told a ∷ []);
    sofar = sofar_more t turn.sofar small a one;
    count = omega (arith, turn.count, length_push turn.seen (told a));
    lines = pushed
        ∙ (λ i. turn.lines i ++ (line_text (turn.count i) (told a) ++ (10 ∷ [])))
        ∙ sym (lines_more 0 turn.seen (told a) ∙ ap (λ k. lines_from 0 turn.seen ++ (line_text k (told a) ++ (10 ∷ []))) (zero-add (length turn.seen)));
  }

  pub turn_end : Steps s None t → Listed file text
  turn_end one = record { answers = turn.seen; answered = sofar_end t turn.sofar one; lines = turn.lines }
