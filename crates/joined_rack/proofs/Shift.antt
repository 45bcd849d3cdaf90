-- A change of one of two racks side by side is that change of the whole. Assumes nothing.
use Rattle.std.proofs.Common.{◌≡◌, ℕ, ◌-◌, ◌<◌, ◌≤◌, sym, refl, ap, ◌∙◌, arith}
use Rattle.std.proofs.lemmas.Bool.Decides.{nat_tests}
use Rattle.rack.specs.Meaning.{Meaning}
use Rattle.rack.specs.Calls.{bay_refusal, with_word, with_bay, exchange_after}
use Rattle.rack.proofs.Laws.{same_meaning, bay_accepted, after_accepted, exchange_own}
use Rattle.joined_rack.specs.Beside.{beside}

module _ (m n : Meaning) (bay : ℕ) where
  -- A word of the first rack, and one of the second, set.
  module _ (line w : ℕ) (inside : line < m.lines) where
    pub first_word : bay < m.bays → beside (with_word m bay line w) n ≡ with_word (beside m n) bay line w
    first_word has = same_meaning (beside (with_word m bay line w) n) (with_word (beside m n) bay line w) refl refl (λ b. refl) (λ b l. grind (arith, nat_tests))

    pub second_word : m.bays ≤ bay → beside m (with_word n (bay - m.bays) line w) ≡ with_word (beside m n) bay line w
    second_word past = same_meaning (beside m (with_word n (bay - m.bays) line w)) (with_word (beside m n) bay line w) refl refl (λ b. refl) (λ b l. grind (arith, nat_tests))

  -- A bay of the first rack, and one of the second, exchanged.
  module _ (ws : ℕ → ℕ) where
    first_bay : bay < m.bays → beside (with_bay m bay ws) n ≡ with_bay (beside m n) bay ws
    first_bay has = same_meaning (beside (with_bay m bay ws) n) (with_bay (beside m n) bay ws) refl refl (λ b. grind (arith, nat_tests)) (λ b l. grind (arith, nat_tests))

    second_bay : m.lines ≡ n.lines → m.bays ≤ bay → beside m (with_bay n (bay - m.bays) ws) ≡ with_bay (beside m n) bay ws
    second_bay lined past = same_meaning (beside m (with_bay n (bay - m.bays) ws)) (with_bay (beside m n) bay ws) refl refl (λ b. grind (arith, nat_tests)) (λ b l. grind (arith, nat_tests))

-- k is what the exchanged rack means after.
module _ (m n k : Meaning) (bay : ℕ) (within : bay < (beside m n).bays) where
  whole : (x : Meaning) (ws : ℕ → ℕ) → x ≡ with_bay (beside m n) bay ws → x ≡ exchange_after (beside m n) bay (x.word bay)
  whole x ws e =
      exchange_own (beside m n) bay ws x
      (e ∙ sym (after_accepted (bay_refusal (beside m n) bay) (beside m n) (with_bay (beside m n) bay ws) (bay_accepted (beside m n) bay within)))

  pub first_exchange : bay < m.bays → k ≡ exchange_after m bay (k.word bay) → beside k n ≡ exchange_after (beside m n) bay ((beside k n).word bay)
  first_exchange has e =
      let changed : k ≡ with_bay m bay (k.word bay) = e ∙ after_accepted (bay_refusal m bay) m (with_bay m bay (k.word bay)) (bay_accepted m bay has) in
      whole (beside k n) (k.word bay) (ap (λ (x : Meaning). beside x n) changed ∙ first_bay m n bay (k.word bay) has)

  pub second_exchange : m.lines ≡ n.lines → m.bays ≤ bay → k ≡ exchange_after n (bay - m.bays) (k.word (bay - m.bays)) → beside m k ≡ exchange_after (beside m n) bay ((beside m k).word bay)
  second_exchange lined past e =
      let b = bay - m.bays in
      let has : b < n.bays = omega arith in
      let changed : k ≡ with_bay n b (k.word b) = e ∙ after_accepted (bay_refusal n b) n (with_bay n b (k.word b)) (bay_accepted n b has) in
      whole (beside m k) (k.word b) (ap (λ (x : Meaning). beside m x) changed ∙ second_bay m n bay (k.word b) lined past)
