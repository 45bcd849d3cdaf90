use Rattle.std.proofs.Common.{take, drop, ap, ◌∙◌, arith, length-drop}
use native.Mathlib.Nat.{sub-zero}
use Rattle.frame.proofs.Fronts.{front_is, rest_of}
use Rattle.frame.proofs.reader.next.split_front.Goals as goal

pub returns : goal.returns
returns c =
    let bytes = c.args.bytes.now in
    let n = c.from-length.result in
    let more = rw (rest_of bytes 4) at c.in_ok-body.ensures.lookup.0 in
    front_is bytes _ n c.number-2.result
    (omega (arith, more, length-drop 4 bytes))
    (c.from-length.ensures ∙ c.number.ensures) c.number-2.ensures
    (more.2 ∙ ap (λ k. take k (drop 4 bytes)) (sub-zero n))
