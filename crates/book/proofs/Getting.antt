-- What a get gives from the restored line, and when it is refused. Assumes nothing.
use Rattle.std.proofs.Common.{◌≡◌, ℕ, suc, ◌+◌, ◌-◌, ◌<◌, ◌≤◌, Bool, true, false, cond, List, get_or, take, Some, None, Option, sym, refl, ap, ◌∙◌, subst, arith, get_or-take}
use Rattle.std.proofs.lemmas.Bool.Decides.{nat_tests}
use Rattle.fault.specs.declared.fault.BookFault.{BookFault}
use Rattle.field.specs.Structure.{Structure, size}
use Rattle.codeword.specs.Codeword.{codeword}
use Rattle.rack.specs.Meaning.{Meaning}
use Rattle.worksheet.specs.Present.{present}
use Rattle.worksheet.specs.Lines.{word_at, Holds, OnSheet, why_unrestored}
use Rattle.rules.specs.Known.{Known, front_of}
use Rattle.rules.specs.Rules.{why_cell, why_get, gone}
use Rattle.rules.specs.Effects.{Gives, Got}
use Rattle.rules.proofs.Refusals.{good}
use Rattle.book.proofs.Reasons.{get_by_line}

-- A word that is not given is that of an absent bay.
no_word : (b : Bool) (x : ℕ) → cond b (Some x) None ≡ None → b ≡ false
no_word false x e = refl
no_word true x e = absurd (grind arith)

module _ {K : Type 0} (s : Structure K) where
  -- The restored line on a worksheet, by the book's number of items.
  pub sheet_line : (k : Known) (m : Meaning) (line : ℕ) → m.bays ≡ k.items + 4 → (before after : List ℕ) → OnSheet s m k.behind line before after
      → Holds s k.items (present m.switch k.behind) (word_at s m line) before after
  sheet_line k m line bays before after held =
      let n : m.bays - 4 ≡ k.items = omega (arith, bays) in
      subst (λ x. Holds s x (present m.switch k.behind) (word_at s m line) before after) n held

  -- An item of the line whose codeword is on the worksheet.
  pub sheet_item : (n : ℕ) (items sheet : List ℕ) → take (n + 4) sheet ≡ codeword s items → (item : ℕ) → item < n → get_or sheet (item + 4) 0 ≡ get_or items item 0
  sheet_item n items sheet front item h =
      sym (get_or-take (n + 4) sheet (item + 4) 0 (omega arith)) ∙ ap (λ l. get_or l (item + 4) 0) front ∙ past_checks item
    where
      past_checks : (i : ℕ) → get_or (codeword s items) (i + 4) 0 ≡ get_or items i 0
      past_checks i = let e : i + 4 ≡ suc (suc (suc (suc i))) = omega arith in ap (λ j. get_or (codeword s items) j 0) e

  module _ (k : Known) (m : Meaning) (room item line : ℕ) (few : k.items ≤ size s) (cell : why_cell k (front_of m) room item line ≡ None)
      (m₁ : Meaning) (e₁ : m₁ ≡ m) (none : cond (present m₁.switch k.behind (item + 4)) (Some (word_at s m₁ line (item + 4))) None ≡ None) where
    absent_here : present m.switch k.behind (item + 4) ≡ false
    absent_here = subst (λ (x : Meaning). present x.switch k.behind (item + 4) ≡ false) e₁ (no_word _ _ none)

    away : gone k (front_of m) (item + 4) ≡ true
    away = let e = absent_here in grind (arith, nat_tests)

    pub get_line : why_get k (front_of m) room item line ≡ why_unrestored s m k.behind room line
    get_line = get_by_line s k m room line (omega (arith, (good k (front_of m) room item line cell).item_below)) few item cell away

    -- refused as the line is not restored
    pub not_got : (m₂ : Meaning) → m₂ ≡ m → (o : Option BookFault) → o ≡ why_unrestored s m₂ k.behind room line → o ≡ why_get k (front_of m) room item line
    not_got m₂ e₂ o r = r ∙ ap (λ (x : Meaning). why_unrestored s x k.behind room line) e₂ ∙ sym get_line

    -- given by the restored line
    pub got_line : (m₂ : Meaning) → m₂ ≡ m → why_unrestored s m₂ k.behind room line ≡ None → (before after : List ℕ) → OnSheet s m₂ k.behind line before after
        → (why_get k (front_of m) room item line ≡ None) × Got s k m item line (get_or after (item + 4) 0)
    got_line m₂ e₂ r before after on =
        let ok = good k (front_of m) room item line cell in
        let held = sheet_line k m line ok.bays before after (subst (λ (x : Meaning). OnSheet s x k.behind line before after) e₂ on) in (
          sym (not_got m₂ e₂ None (sym r)),
          subst (λ b. Gives s b k m item line (get_or after (item + 4) 0)) (sym absent_here)
              (held.items, held.restored, sheet_item k.items held.items after held.front item ok.item_below),
        )
