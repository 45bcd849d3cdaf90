-- The piles are towers: the field of four elements, and step by step its extensions. Assumes nothing.
use Rattle.std.proofs.Common.{◌≡◌, ℕ, zero, suc, ◌^◌, ◌<◌, refl, arith}
use Rattle.field.specs.Four.{four}
use Rattle.field.specs.FourLaws.{same_number}
use Rattle.extension.specs.Piles.{gf16, gf256}
use Rattle.tower.specs.Tower.{Tower, generator, all_generators, monomial}
use Rattle.tower.specs.Piles.{PilesAreTowers}
use Rattle.tower.proofs.Span.{spanned, bilinear}
use Rattle.tower.proofs.Step.{tower_step}

four_basis : (i : ℕ) → i < 2 → four.of (2 ^ i) ≡ monomial four 1 i
four_basis zero h = same_number (four.of 1) (monomial four 1 0) refl
four_basis (suc zero) h = same_number (four.of 2) (monomial four 1 1) refl
four_basis (suc (suc i)) h = let f : ⊥ = omega arith in absurd f

four_squares : (k : ℕ) → k < 1 → four.times (generator four k) (generator four k) ≡ four.plus (generator four k) (all_generators four k)
four_squares zero h =
    same_number (four.times (generator four 0) (generator four 0)) (four.plus (generator four 0) (all_generators four 0)) refl
four_squares (suc k) h = let f : ⊥ = omega arith in absurd f

-- u_0 is the element numbered 2
four_tower : Tower four 1
four_tower = record {
  bits_are = refl;
  basis = four_basis;
  squares = four_squares;
  constant = same_number four.v (all_generators four 1) refl;
  spanned = spanned four;
  bilinear = bilinear four;
}

pub tower_16 : Tower gf16 2
tower_16 = tower_step four 1 four_tower

pub tower_256 : Tower gf256 3
tower_256 = tower_step gf16 2 tower_16

pub piles_are_towers : PilesAreTowers
piles_are_towers = record {
  in_4 = four_tower;
  in_16 = tower_16;
  in_256 = tower_256;
  in_65536 = tower_step gf256 3 tower_256;
}
