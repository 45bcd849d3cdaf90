-- The first word that is too large is the answer.
use Rattle.std.proofs.Common.{◌≡◌, leb, sym, ap, ◌∙◌, rules, tests}
use Rattle.std.specs.Option.{option_map}
use Rattle.std.proofs.lemmas.Iterator.{YieldsList-from_slice}
use Rattle.std.proofs.lemmas.Iterator.Search.{find_from_yields_List}
use Rattle.field.specs.Structure.{size}
use Rattle.extension.specs.Extend.{extend}
use Rattle.line_code.specs.Answers.{words_answer}
use Rattle.line_code.proofs.Words.{answer_to, words_found}
use Rattle.line_code.proofs.admit.admit_words.Goals as goal
use Rattle.line_code.proofs.admit.admit_words.Given.{Over}
use Rattle.line_code.proofs.admit.admit_words.Goals.{After-find}

-- the answer by what the search found
found : (g : Over) (c : After-find g) → answer_to (option_map (λ x. x.now) c.find.result) ≡ words_answer g.F.Field.structure c.args.words.now
found g c =
    ap answer_to
    (find_from_yields_List (λ w. leb (size (extend g.F.Field.structure)) w) _ _ c.find.result c.find.ensures.ran (YieldsList-from_slice _ c.iter.ensures.rest) (λ x b q k. search (rules, tests)))
    ∙ words_found g.F.Field.structure c.args.words.now

pub returns-in-Some : goal.returns-in-Some
returns-in-Some g c = ap (λ r. answer_to (option_map (λ x. x.now) r)) (sym c.in-Some.is) ∙ found g (goal.at.returns-in-Some g c).After-find

pub returns-in-None : goal.returns-in-None
returns-in-None g c = ap (λ r. answer_to (option_map (λ x. x.now) r)) (sym c.in-None.is) ∙ found g (goal.at.returns-in-None g c).After-find
