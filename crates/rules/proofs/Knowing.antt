-- What a book knows, place by place. Assumes nothing.
use Rattle.std.proofs.Common.{◌≡◌, ℕ, eqb, refl}
use Rattle.std.proofs.lemmas.Bool.{eq-eqb, ne_eqb, cond-true, cond-false}
use Rattle.rules.specs.Known.{Known, put}

pub put_same : {A : Type 0} (f : ℕ → A) (i : ℕ) (x : A) → put f i x i ≡ x
put_same f i x = cond-true (eqb i i) x (f i) (eq-eqb i i refl)

pub put_other : {A : Type 0} (f : ℕ → A) (i : ℕ) (x : A) (k : ℕ) → (k ≡ i → ⊥) → put f i x k ≡ f k
put_other f i x k h = cond-false (eqb k i) x (f k) (ne_eqb k i h)

pub same_known : (k n : Known) → k.items ≡ n.items → k.lines ≡ n.lines → ((b : ℕ) → k.behind b ≡ n.behind b) → k ≡ n
same_known k n items lines marks t = record { items = items t; lines = lines t; behind = λ b. marks b t }
