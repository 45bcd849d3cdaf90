-- The answer to a call by what it came to, and its text. Assumes nothing.
use Rattle.std.specs.Prelude.{◌≡◌, ℕ, Ok, Err, Result, List, ◌++◌, codes, decimal}
use Rattle.fault.specs.declared.fault.Fault.{Fault}
use Rattle.fault.specs.Table.{row, printed}
use Rattle.ledger.specs.declared.Answer.{Answer}
use Rattle.ledger.specs.declared.Answer.TheVariants.{Done, Word, Refused, NotAllowed}

-- What a call gave becomes the answer; an error is answered by a fault that it becomes.
abbrev pub AnswerTo : {T E : Type 0} → (T → Answer → Type 0) → (E → Fault → Type 0) → Result T E → Answer → Type 0
AnswerTo given becomes (Ok x) a = given x a
AnswerTo given becomes (Err e) a = (f : Fault) × becomes e f × (a ≡ Refused f)

-- As in `word 7`, `no b 7 16`.
abbrev pub answer_text : Answer → List ℕ
answer_text Done = codes "ok"
answer_text (Word w) = codes "word " ++ decimal w
answer_text (Refused f) = codes "no " ++ printed (row f)
answer_text NotAllowed = codes "not allowed"
