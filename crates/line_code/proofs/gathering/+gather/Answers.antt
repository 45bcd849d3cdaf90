-- One word is its own sum; otherwise the upper half by itself, where sets may hold the top bit, and then the lower half.
use Rattle.std.proofs.Common.{◌≡◌, ℕ, suc, ◌-◌, ◌+◌, ◌^◌, ◌<◌, ◌++◌, Bool, length, get_or, sym, ap, ◌∙◌, subst, arith, get_or-drop, get_or-take}
use lib.Bits.{bit_xor}
use Rattle.codeword.specs.Sums.{count}
use Rattle.halves.specs.Gathered.{run_by, place, Gathered}
use Rattle.halves.proofs.Halving.{run_by_ext}
use Rattle.halves.proofs.Gathering.{gathered_word, gathered_more}
use Rattle.line_code.specs.Padded.{Below}
use Rattle.line_code.proofs.Halfway.{doubled, below_append, below_take, below_drop, below_added}
use Rattle.line_code.proofs.gathering.+gather.Goals as goal
use Rattle.line_code.proofs.gathering.+gather.Goals.{then-most-gt0, else-most-gt0}

pub returns-then-exponent-eq0-clause-sums : goal.returns-then-exponent-eq0-clause-sums
returns-then-exponent-eq0-clause-sums t c =
    subst (λ n. Gathered n c.args.most c.args.words.now c.args.words.now) (sym c.if-exponent-eq0.true) (gathered_word c.args.most c.args.words.now)

pub add_upper-requires : goal.add_upper-requires
add_upper-requires t c = omega (arith, doubled c.args.exponent c.if-exponent-eq0.false)

pub split_at_mut-lower-requires : goal.split_at_mut-lower-requires
split_at_mut-lower-requires t c = omega (arith, doubled c.args.exponent c.if-exponent-eq0.false)

pub gather-requires : goal.gather-requires
gather-requires t c = omega (arith, doubled c.args.exponent c.if-exponent-eq0.false)

pub returns-clause-sums : goal.returns-clause-sums
returns-clause-sums t c =
    let top = c.args.exponent - 1 in
    let words = c.args.words.now in
    let added = c.add_upper.new.words in
    let half = c.run_length-half.result in
    let low = c.split_at_mut-lower.result.0.now in
    let e : suc (c.args.exponent - 1) ≡ c.args.exponent = omega (arith, c.if-exponent-eq0.false) in
    let is : c.run_length-half.result ≡ 2 ^ (c.args.exponent - 1) = c.run_length-half.ensures in
    let long : length c.gather-2.new.words ≡ 2 ^ (c.args.exponent - 1) = omega (arith, c.gather-2.auto.words) in
    let sums : (i : ℕ) → i < 2 ^ (c.args.exponent - 1)
    → get_or c.split_at_mut-lower.result.0.now i 0 ≡ bit_xor (get_or c.args.words.now i 0) (get_or c.args.words.now (2 ^ (c.args.exponent - 1) + i) 0)
    = λ i h.
    ap (λ l. get_or l i 0) c.split_at_mut-lower.ensures.front ∙ get_or-take half added i 0 (omega arith) ∙ c.add_upper.ensures.lower i (omega arith)
    ∙ ap (λ n. bit_xor (get_or words i 0) (get_or words (n + i) 0)) is in
    let back_word : (i : ℕ) → get_or c.split_at_mut-lower.result.1.now i 0 ≡ get_or c.args.words.now (2 ^ (c.args.exponent - 1) + i) 0
    = λ i.
    ap (λ l. get_or l i 0) c.split_at_mut-lower.ensures.back ∙ get_or-drop half added i 0 ∙ c.add_upper.ensures.upper (half + i) (omega arith)
    ∙ ap (λ n. get_or words (n + i) 0) is in
    let high : (set : ℕ → Bool) → count set (c.args.exponent - 1) < c.args.most
    → get_or c.if-most-gt0.upper (place set (c.args.exponent - 1)) 0 ≡ run_by bit_xor set (c.args.exponent - 1) (λ i. get_or c.args.words.now (2 ^ (c.args.exponent - 1) + i) 0)
    = elim c.if-most-gt0.branch [
      | then-most-gt0 w ↦ λ set h.
          ap (λ l. get_or l (place set (c.args.exponent - 1)) 0) w.upper-is ∙ w.gather.ensures.sums set (omega arith)
          ∙ run_by_ext bit_xor set (c.args.exponent - 1) (λ i. get_or c.split_at_mut-lower.result.1.now i 0) (λ i. get_or words (2 ^ (c.args.exponent - 1) + i) 0) (λ i l. back_word i)
      | else-most-gt0 w ↦ λ set h. absurd (omega arith)
    ] in
    subst (λ n. Gathered n c.args.most words (c.gather-2.new.words ++ c.if-most-gt0.upper)) e
    (gathered_more top c.args.most words low c.gather-2.new.words c.if-most-gt0.upper long sums high c.gather-2.ensures.sums)

pub returns-clause-small : goal.returns-clause-small
returns-clause-small t c b h =
    let half = c.run_length-half.result in
    let added = below_added b half c.args.words.now c.add_upper.new.words c.add_upper.ensures.lower c.add_upper.ensures.upper h in
    let low : Below b c.split_at_mut-lower.result.0.now = subst (Below b) (sym c.split_at_mut-lower.ensures.front) (below_take b half c.add_upper.new.words added) in
    let back : Below b c.split_at_mut-lower.result.1.now = subst (Below b) (sym c.split_at_mut-lower.ensures.back) (below_drop b half c.add_upper.new.words added) in
    let upper : Below b c.if-most-gt0.upper = elim c.if-most-gt0.branch [
      | then-most-gt0 w ↦ subst (Below b) (sym w.upper-is) (w.gather.ensures.small b back)
      | else-most-gt0 w ↦ subst (Below b) (sym w.upper-is) back
    ] in
    below_append b c.gather-2.new.words c.if-most-gt0.upper (c.gather-2.ensures.small b low) upper
