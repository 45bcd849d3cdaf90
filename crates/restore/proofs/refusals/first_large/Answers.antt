-- The word of the first pair that `find` answers.
use Rattle.std.proofs.Common.{◌≡◌, ◌&&◌, ℕ, eqb, leb, ◌∙◌, ap, rules, tests, arith}
use Rattle.std.specs.Option.{option_map}
use Rattle.std.proofs.lemmas.Iterator.{YieldsList-from_slice, YieldsList-from_zip}
use Rattle.std.proofs.lemmas.Iterator.Search.{find_from_yields_List}
use Rattle.restore.proofs.Counting.{large_found}
use Rattle.restore.proofs.refusals.first_large.Goals as goal

pub returns : goal.returns
returns c =
    let words = c.args.words.now in
    let marks = c.args.marks.now in
    let found = find_from_yields_List (λ (p : ℕ × ℕ). eqb p.1 0 && leb c.args.bound p.0) c.find.new.self _ c.find.result c.find.ensures.ran
    (YieldsList-from_zip (YieldsList-from_slice words cc) (YieldsList-from_slice marks cc)) (λ x b q k. search (rules, tests)) in
    let word : c.map.result ≡ option_map (λ (p : ℕ × ℕ). p.0) (option_map (λ x. (x.0.now, x.1.now)) c.find.result) = grind arith in
    word ∙ ap (option_map (λ (p : ℕ × ℕ). p.0)) found ∙ large_found c.args.bound words marks
