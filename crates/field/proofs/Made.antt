-- What making an element answers, and what an answer tells of the number. Assumes nothing.
use Rattle.std.proofs.Common.{◌≡◌, ℕ, ◌<◌, ◌≤◌, T, is_ok, is_err, Ok, Err, Result, ◌∙◌, subst, arith, le-ltb, lt-ltb}
use native.Mathlib.Decide.{dec_lt}
use Rattle.fault.specs.declared.fault.BookFault.{BookFault}
use Rattle.fault.specs.declared.fault.BookFault.TheVariants.{NoElement}
use Rattle.field.specs.Structure.{Structure, size}
use Rattle.field.specs.Numbers.{element_answer}

module _ {K : Type 0} (s : Structure K) (n : ℕ) where
  pub made : n < size s → element_answer s n ≡ Ok (s.of n)
  made h = rw (lt-ltb n (size s) h)

  pub refused : size s ≤ n → element_answer s n ≡ Err (NoElement n)
  refused h = rw (le-ltb n (size s) h)

  -- an element was made: the number is below q, and the element is the number's
  pub taken : (x : K) → Ok x ≡ element_answer s n → (n < size s) × (x ≡ s.of n)
  taken x e = elim (dec_lt n (size s)) [
    | yes h ↦ let m : ◌≡◌ {A = Result K BookFault} (Ok x) (Ok (s.of n)) = e ∙ made h in (h, cc)
    | no h ↦
        let m : ◌≡◌ {A = Result K BookFault} (Ok x) (Err (NoElement n)) = e ∙ refused (omega arith) in
        absurd (subst (λ r. T (is_ok r)) m tt)
  ]

  -- none was made: the number is not below q, and the fault names it
  pub not_taken : (f : BookFault) → Err f ≡ element_answer s n → (size s ≤ n) × (f ≡ NoElement n)
  not_taken f e = elim (dec_lt n (size s)) [
    | yes h ↦
        let m : ◌≡◌ {A = Result K BookFault} (Err f) (Ok (s.of n)) = e ∙ made h in
        absurd (subst (λ r. T (is_err r)) m tt)
    | no h ↦
        let m : ◌≡◌ {A = Result K BookFault} (Err f) (Err (NoElement n)) = e ∙ refused (omega arith) in (omega arith, cc)
  ]
