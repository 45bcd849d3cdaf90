-- A row of the words that is filled is a bay of blank lines.
use Rattle.std.proofs.Common.{◌≡◌, ℕ, ◌+◌, ◌-◌, ◌≤◌, List, true, set, length, replicate, vec_items, lit<, ap, ◌∙◌, rules, arith}
use borrow.Rule.Slice.PartMut.{put_mid}
use Rattle.std.proofs.lemmas.List.{places, with_items_is}
use Rattle.plain_rack.specs.Plain.{place_of, rack_of}
use Rattle.plain_rack.proofs.Places.{row_below, set_bay}
use Rattle.plain_rack.proofs.parts.PlainRack.renew.Goals as goal

pub returns : goal.returns
returns c =
    let p = c.args.self.now in
    let ws = vec_items p.words in
    let lines = p.shape.lines in
    let from = c.place-from.result in
    let size : from + lines - from ≡ lines = omega arith in
    let fits : from + lines ≤ length c.deref_mut.result.now = omega (arith, row_below lines c.args.bay p.shape.bays c.requires) in
    let row : c.fill.new.self ≡ replicate lines 65535 = c.fill.ensures.after (λ y e. search rules) ∙ ap (λ (n : ℕ). replicate n 65535) (grind (arith, places)) in
    let filled = put_mid from (from + lines - from) c.deref_mut.result.now c.fill.new.self in
    let list : filled ≡ put_mid (place_of lines c.args.bay 0) lines ws (replicate lines 65535) = simp (size, row, c.deref_mut.ensures.value) (search (rules, places)) in
    let items = with_items_is p.words filled (search (rules, places)) ∙ list in
    ap (λ (xs : List ℕ). rack_of p.shape.bays lines (set p.switches c.args.bay true) xs) items
    ∙ set_bay p.shape.bays lines p.switches ws c.args.bay 65535 c.requires (search rules) (lit< tt) (search rules)
