-- Words sent to one bay after the other, and the line that a post leaves. Assumes nothing.
use Rattle.std.proofs.Common.{◌≡◌, ℕ, ◌+◌, ◌<◌, Bool, true, false, cond, not, ◌&&◌, ◌||◌, eqb, ltb, List, get_or, take, set, sym, refl, ap, ◌∙◌, subst, subst₂, inl, inr, arith, get_or-take}
use Rattle.std.proofs.lemmas.Bool.{cases_eq}
use Rattle.std.proofs.lemmas.Bool.Decides.{nat_tests}
use Rattle.field.specs.Structure.{Structure}
use Rattle.codeword.specs.Codeword.{codeword}
use Rattle.rack.specs.Meaning.{Meaning}
use Rattle.rack.proofs.Laws.{same_meaning}
use Rattle.worksheet.specs.Present.{present}
use Rattle.rules.specs.Known.{Known, with_behind}
use Rattle.rules.specs.Effects.{with_line, concerned, Restored, Posted}
use Rattle.book.specs.Sending.{Sent}
use Rattle.rules.proofs.Knowing.{same_known}

module _ (k : Known) (m : Meaning) (line : ℕ) (w : ℕ → ℕ) where
  -- the same test, bay by bay
  pub sent_same : (test other : ℕ → Bool) → ((b : ℕ) → test b ≡ other b) → (k' : Known) (m' : Meaning) → Sent k m test line w k' m' → Sent k m other line w k' m'
  sent_same test other same k' m' sent = subst (λ (t : ℕ → Bool). Sent k m t line w k' m') (λ i b. same b i) sent

  -- the state after the bays that pass the test
  abbrev marks_after : (ℕ → Bool) → Known
  marks_after test = with_behind k (λ b. k.behind b || (test b && not (m.switch b)))

  abbrev rack_after : (ℕ → Bool) → Meaning
  rack_after test = with_line m (λ b. test b && present m.switch k.behind b) line w

  step : (test : ℕ → Bool) (bay : ℕ) (k₂ : Known) (m₂ : Meaning) → Sent (marks_after test) (rack_after test) (λ b. eqb b bay) line (λ _. w bay) k₂ m₂
      → Sent k m (λ b. test b || eqb b bay) line w k₂ m₂
  step test bay k₂ m₂ sent = record {
    rack = sent.rack ∙ same_meaning _ _ refl refl (λ b. refl) (λ b l. elim (cases_eq b bay) [
      | inl e ↦ let same : w b ≡ w bay = ap w e in grind (arith, nat_tests)
      | inr d ↦ grind (arith, nat_tests)
    ]);
    book = sent.book ∙ same_known _ _ refl refl (λ b. grind (arith, nat_tests));
  }

  -- one more bay
  pub sent_more : (test : ℕ → Bool) (bay : ℕ) (k₁ : Known) (m₁ : Meaning) → Sent k m test line w k₁ m₁
      → (k₂ : Known) (m₂ : Meaning) → Sent k₁ m₁ (λ b. eqb b bay) line (λ _. w bay) k₂ m₂ → Sent k m (λ b. test b || eqb b bay) line w k₂ m₂
  sent_more test bay k₁ m₁ so k₂ m₂ sent =
      step test bay k₂ m₂ (subst₂ (λ (x : Known) (y : Meaning). Sent x y (λ b. eqb b bay) line (λ _. w bay) k₂ m₂) so.book so.rack sent)

  -- one more of the first bays
  pub sent_next : (bay : ℕ) (k₁ : Known) (m₁ : Meaning) → Sent k m (λ b. ltb b bay) line w k₁ m₁
      → (k₂ : Known) (m₂ : Meaning) → Sent k₁ m₁ (λ b. eqb b bay) line (λ _. w bay) k₂ m₂ → Sent k m (λ b. ltb b (bay + 1)) line w k₂ m₂
  sent_next bay k₁ m₁ so k₂ m₂ sent =
      sent_same (λ b. ltb b bay || eqb b bay) (λ b. ltb b (bay + 1)) (λ b. grind (arith, nat_tests)) k₂ m₂ (sent_more (λ b. ltb b bay) bay k₁ m₁ so k₂ m₂ sent)

  -- the first four bays, and then the item's own
  pub sent_all : (item bay : ℕ) → bay ≡ 4 → (k₁ : Known) (m₁ : Meaning) → Sent k m (λ b. ltb b bay) line w k₁ m₁
      → (k₂ : Known) (m₂ : Meaning) → Sent k₁ m₁ (λ b. eqb b (item + 4)) line (λ _. w (item + 4)) k₂ m₂ → Sent k m (concerned item) line w k₂ m₂
  sent_all item bay four k₁ m₁ so k₂ m₂ own =
      sent_same (λ b. ltb b bay || eqb b (item + 4)) (concerned item) (λ b. grind (arith, nat_tests)) k₂ m₂ (sent_more (λ b. ltb b bay) (item + 4) k₁ m₁ so k₂ m₂ own)

-- What a post leaves: the words of the line with its new item, where they are on the worksheet.
module _ {K : Type 0} (s : Structure K) (k : Known) (m : Meaning) (item line word : ℕ) (less : item < k.items) (items sheet : List ℕ)
    (restored : Restored s k m line items) (front : take (k.items + 4) sheet ≡ codeword s (set items item word)) where
  on_sheet : (b : ℕ) → b < k.items + 4 → get_or sheet b 0 ≡ get_or (codeword s (set items item word)) b 0
  on_sheet b h = sym (get_or-take (k.items + 4) sheet b 0 h) ∙ ap (λ l. get_or l b 0) front

  near : (b : ℕ) → concerned item b ≡ true → b < k.items + 4
  near b h = grind (arith, nat_tests)

  cell : (x : ℕ → ℕ) (b l : ℕ) → (c : Bool) → concerned item b ≡ c
      → cond ((c && present m.switch k.behind b) && eqb l line) (get_or sheet b 0) (x l)
      ≡ cond ((c && present m.switch k.behind b) && eqb l line) (get_or (codeword s (set items item word)) b 0) (x l)
  cell x b l true e = ap (λ z. cond (present m.switch k.behind b && eqb l line) z (x l)) (on_sheet b (near b e))
  cell x b l false e = refl

  pub posted : (k' : Known) (m' : Meaning) → Sent k m (concerned item) line (λ b. get_or sheet b 0) k' m' → Posted s k m item line word k' m'
  posted k' m' sent = record {
    items = items;
    restored = restored;
    rack = sent.rack ∙ same_meaning _ _ refl refl (λ b. refl) (λ b l. cell (m.word b) b l (concerned item b) refl);
    book = sent.book;
  }
