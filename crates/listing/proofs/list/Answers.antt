use Rattle.std.proofs.Common.{◌++◌, [], ◌∷◌, string_bytes, sym, ap, ◌∙◌, subst, arith}
use Rattle.frame.specs.Reading.{told}
use Rattle.listing.specs.Lines.{line_text}
use Rattle.listing.proofs.Turns.{Turn, turn_more, turn_end}
use Rattle.listing.proofs.list.Goals as goal

pub loop-number-preserved : goal.loop-number-preserved
loop-number-preserved c =
    let one = c.in-Some.ensures.steps in
    let t = c.next.new.self.iter in
    let a = c.in-Some.answer in
    let text = c.in_ok-writeln.ensures.bytes ∙ ap (λ n. string_bytes c.loop-number.text ++ (line_text n (told a) ++ (10 ∷ []))) one.1 in
    subst (λ n. Turn c.args.file.now n (string_bytes c.writeln.new.self) t) (sym one.2)
    (turn_more c.loop-number.invariant t (λ i. omega (arith, c.type_inv.file i)) a one.0 _ text)

pub returns : goal.returns
returns c = turn_end c.loop-number.invariant c.next.new.self.iter c.in-None.ensures.steps.0
