-- What encoding a line answers, and what it leaves in the passed list. Assumes nothing.
use Rattle.std.specs.Prelude.{ℕ, cond, List, [], ◌∷◌, length, drop, is_ok, Ok, Err, Result, nat_le, nat_lt}
use Rattle.fault.specs.declared.fault.BookFault.{BookFault}
use Rattle.fault.specs.declared.fault.BookFault.TheVariants.{ItemCount, ListLength, WordTooLarge}
use Rattle.field.specs.Structure.{Structure, size}
use Rattle.extension.specs.Extend.{extend}
use Rattle.codeword.specs.Codeword.{check_word}

module _ {K : Type 0} (s : Structure K) where
  -- The first word that is q·q or above refuses the line.
  unfoldable pub words_answer : List ℕ → Result (Unit {0}) BookFault
  words_answer [] = Ok tt
  words_answer (w ∷ ws) = cond (nat_lt w (size (extend s))) (words_answer ws) (Err (WordTooLarge w))

  -- A line has at least one item and at most q; the list has at least four places; then the words.
  abbrev pub encode_answer : List ℕ → ℕ → Result (Unit {0}) BookFault
  encode_answer items places =
      cond (nat_lt 0 (length items))
      (cond (nat_le (length items) (size s))
      (cond (nat_le 4 places) (words_answer items) (Err (ListLength places)))
      (Err (ItemCount (length items))))
      (Err (ItemCount (length items)))

  -- The four check words and then the list as it was from place 4 on; a refused call leaves the whole list.
  abbrev pub encode_after : List ℕ → List ℕ → List ℕ
  encode_after items checks =
      cond (is_ok (encode_answer items (length checks)))
      (check_word s items 0 ∷ check_word s items 1 ∷ check_word s items 2 ∷ check_word s items 3 ∷ drop 4 checks)
      checks
