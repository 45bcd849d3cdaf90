-- The silent bays, found one after the other. Assumes nothing.
use Rattle.std.proofs.Common.{◌≡◌, ℕ, ◌+◌, ◌<◌, Bool, true, false, not, is_err, Result, List, replicate, sym, ap, ◌∙◌, inl, inr, arith}
use Rattle.std.proofs.lemmas.Bool.Decides.{nat_tests}
use Rattle.std.proofs.lemmas.Bool.{cases_eq}
use Rattle.fault.specs.declared.fault.RackFault.{RackFault}
use Rattle.rack.specs.Meaning.{Meaning}
use Rattle.rack.specs.Calls.{read_answer}
use Rattle.rules.specs.Known.{put}
use Rattle.worksheet.specs.Lines.{marked}
use Rattle.book.specs.Sending.{silent_below}
use Rattle.book.proofs.Marks.{mark_none}

-- A bay of the rack, asked for a line that it has, refuses exactly when it is silent.
refuses : (m : Meaning) (bay line : ℕ) → bay < m.bays → line < m.lines → (b : Bool) → is_err (read_answer m bay line) ≡ b → m.switch bay ≡ not b
refuses m bay line h k b e = grind (arith, nat_tests)

pub asked : (m n : Meaning) → n ≡ m → (bay line : ℕ) → bay < m.bays → line < m.lines → (r : Result ℕ RackFault) → r ≡ read_answer n bay line
    → (b : Bool) → is_err r ≡ b → m.switch bay ≡ not b
asked m n same bay line h k r answer b e = refuses m bay line h k b (ap (λ (x : Meaning). is_err (read_answer x bay line)) (sym same) ∙ ap is_err (sym answer) ∙ e)

module _ (switch : ℕ → Bool) where
  pub heard_none : (marks : List Bool) → marks ≡ replicate 260 false → (bay : ℕ) → marked marks bay ≡ silent_below switch 0 bay
  heard_none marks e bay = ap (λ l. marked l bay) e ∙ mark_none 260 bay ∙ grind (arith, nat_tests)

  module _ (n : ℕ) (marks : List Bool) (so : (bay : ℕ) → marked marks bay ≡ silent_below switch n bay) where
    -- the next bay answers
    pub heard_skip : switch n ≡ true → (bay : ℕ) → marked marks bay ≡ silent_below switch (n + 1) bay
    heard_skip on bay = so bay ∙ elim (cases_eq bay n) [
      | inl e ↦ let here : switch bay ≡ true = ap switch e ∙ on in grind (arith, nat_tests)
      | inr d ↦ grind (arith, nat_tests)
    ]

    -- it is silent, and marked
    pub heard_more : switch n ≡ false → (marks₂ : List Bool) → ((bay : ℕ) → marked marks₂ bay ≡ put (marked marks) n true bay) → (bay : ℕ) → marked marks₂ bay ≡ silent_below switch (n + 1) bay
    heard_more off marks₂ set bay = set bay ∙ elim (cases_eq bay n) [
      | inl e ↦ let here : switch bay ≡ false = ap switch e ∙ off in grind (arith, nat_tests)
      | inr d ↦ let old = so bay in grind (arith, nat_tests)
    ]
