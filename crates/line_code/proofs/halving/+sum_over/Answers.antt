-- Words past the end are zero, and the parts of the list are the halves of the run.
use Rattle.std.proofs.Common.{◌≡◌, suc, ◌-◌, ◌^◌, min, length, sym, ap, ◌∙◌, ap₂, arith, rules}
use Rattle.extension.specs.Extend.{extend}
use Rattle.halves.specs.Runs.{run}
use Rattle.halves.specs.Moments.{items_of}
use Rattle.halves.proofs.Halving.{run_word, run_zero}
use Rattle.halves.proofs.Checks.{past_zero}
use Rattle.line_code.specs.Sets.{holds}
use Rattle.line_code.proofs.Parts.{upper_alone, both_halves}
use Rattle.line_code.proofs.halving.+sum_over.Goals as goal

pub returns-then-is_empty : goal.returns-then-is_empty
returns-then-is_empty g t c =
    let s = g.F.Field.structure in
    let none : length c.args.line.now.words.now ≡ 0 = search rules in
    c.zero.ensures
    ∙ sym (run_zero (extend s) (holds c.args.set) c.args.exponent (items_of s c.args.line.now.words.now) (λ i h. past_zero s c.args.line.now.words.now i (omega arith)))

pub returns-then-exponent-eq0 : goal.returns-then-exponent-eq0
returns-then-exponent-eq0 g t c =
    let s = g.F.Field.structure in
    c.element.ensures ∙ sym (run_word (extend s) (holds c.args.set) (items_of s c.args.line.now.words.now))
    ∙ ap (λ n. run (extend s) (holds c.args.set) n (items_of s c.args.line.now.words.now)) (sym c.if-exponent-eq0.true)

pub returns-then-holds : goal.returns-then-holds
returns-then-holds g t c =
    let s = g.F.Field.structure in
    let top = c.args.exponent - 1 in
    let e : suc (c.args.exponent - 1) ≡ c.args.exponent = omega (arith, c.if-exponent-eq0.false) in
    let cut : c.min.result ≡ min (length c.args.line.now.words.now) (2 ^ (c.args.exponent - 1)) = c.min.ensures ∙ ap (min (length c.args.line.now.words.now)) c.run_length.ensures in
    c.sum_over-above.ensures ∙ ap (λ l. run (extend s) (holds c.args.set) (c.args.exponent - 1) (items_of s l)) c.split_at.ensures.upper
    ∙ upper_alone c.args.line.now.words.now (c.args.exponent - 1) c.min.result cut s (holds c.args.set) (sym c.holds.ensures ∙ c.if-holds.true)
    ∙ ap (λ n. run (extend s) (holds c.args.set) n (items_of s c.args.line.now.words.now)) e

pub returns-else-holds : goal.returns-else-holds
returns-else-holds g t c =
    let s = g.F.Field.structure in
    let e : suc (c.args.exponent - 1) ≡ c.args.exponent = omega (arith, c.if-exponent-eq0.false) in
    let cut : c.min.result ≡ min (length c.args.line.now.words.now) (2 ^ (c.args.exponent - 1)) = c.min.ensures ∙ ap (min (length c.args.line.now.words.now)) c.run_length.ensures in
    c.plus.ensures
    ∙ ap₂ (extend s).plus
    (c.sum_over.ensures ∙ ap (λ l. run (extend s) (holds c.args.set) (c.args.exponent - 1) (items_of s l)) c.split_at.ensures.lower)
    (c.sum_over-above.ensures ∙ ap (λ l. run (extend s) (holds c.args.set) (c.args.exponent - 1) (items_of s l)) c.split_at.ensures.upper)
    ∙ both_halves c.args.line.now.words.now (c.args.exponent - 1) c.min.result cut s (holds c.args.set) (sym c.holds.ensures ∙ c.if-holds.false)
    ∙ ap (λ n. run (extend s) (holds c.args.set) n (items_of s c.args.line.now.words.now)) e
