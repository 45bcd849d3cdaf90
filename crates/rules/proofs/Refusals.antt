-- What is known of the numbers where a rule refuses nothing. Assumes nothing.
use Rattle.std.proofs.Common.{◌≡◌, ℕ, ◌+◌, ◌<◌, ◌≤◌, true, false, ◌&&◌, ltb, None, arith}
use Rattle.std.proofs.lemmas.Bool.Decides.{nat_tests}
use Rattle.rules.specs.Known.{Known, Front}
use Rattle.rules.specs.Rules.{silences, how_many_gone, gone, others_behind, why_start, why_cell, why_get, why_post, why_mend, why_release}

pub record Startable (q items : ℕ) (f : Front) : Type 0 where
  pub some : 1 ≤ items
  pub fits : items ≤ q
  pub bays : f.bays ≡ items + 4
  pub few : silences f ≤ 4

pub startable : (q items : ℕ) (f : Front) → why_start q items f ≡ None → Startable q items f
startable q items f e = record {
  some = grind (arith, nat_tests);
  fits = grind (arith, nat_tests);
  bays = grind (arith, nat_tests);
  few = grind (arith, nat_tests);
}

-- the numbers of a get or a post are good
pub record Good (k : Known) (f : Front) (room item line : ℕ) : Type 0 where
  pub bays : f.bays ≡ k.items + 4
  pub lines : f.lines ≡ k.lines
  pub wide : k.items + 4 ≤ room
  pub item_below : item < k.items
  pub line_below : line < k.lines

pub good : (k : Known) (f : Front) (room item line : ℕ) → why_cell k f room item line ≡ None → Good k f room item line
good k f room item line e = record {
  bays = grind (arith, nat_tests);
  lines = grind (arith, nat_tests);
  wide = grind (arith, nat_tests);
  item_below = grind (arith, nat_tests);
  line_below = grind (arith, nat_tests);
}

pub record Gettable (k : Known) (f : Front) (room item line : ℕ) : Type 0 where
  pub cell : Good k f room item line
  pub decided : (ltb 4 (how_many_gone k f) && gone k f (item + 4)) ≡ false

pub gettable : (k : Known) (f : Front) (room item line : ℕ) → why_get k f room item line ≡ None → Gettable k f room item line
gettable k f room item line e =
    let cell : why_cell k f room item line ≡ None = grind (arith, nat_tests) in
    record { cell = good k f room item line cell; decided = grind (arith, nat_tests) }

pub record Postable (qq : ℕ) (k : Known) (f : Front) (room item line word : ℕ) : Type 0 where
  pub cell : Good k f room item line
  pub small : word < qq
  pub few : how_many_gone k f ≤ 4

pub postable : (qq : ℕ) (k : Known) (f : Front) (room item line word : ℕ) → why_post qq k f room item line word ≡ None → Postable qq k f room item line word
postable qq k f room item line word e =
    let cell : why_cell k f room item line ≡ None = grind (arith, nat_tests) in
    record { cell = good k f room item line cell; small = grind (arith, nat_tests); few = grind (arith, nat_tests) }

pub record Mendable (k : Known) (f : Front) (bay : ℕ) : Type 0 where
  pub answers : f.switch bay ≡ true
  pub few : how_many_gone k f ≤ 4

pub mendable : (k : Known) (f : Front) (room bay : ℕ) → why_mend k f room bay ≡ None → Mendable k f bay
mendable k f room bay e = record { answers = grind (arith, nat_tests); few = grind (arith, nat_tests) }

pub record Releasable (k : Known) (bay : ℕ) : Type 0 where
  pub inside : bay < k.items + 4
  pub few : others_behind k bay < 4

pub releasable : (k : Known) (bay : ℕ) → why_release k bay ≡ None → Releasable k bay
releasable k bay e = record { inside = grind (arith, nat_tests); few = grind (arith, nat_tests) }
