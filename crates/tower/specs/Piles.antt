-- The fields of 4, 16, 256 and 65536 elements are towers, of one to four generators. Assumes nothing.
use Rattle.std.specs.Prelude.{ℕ, suc}
use Rattle.field.specs.Structure.{Structure}
use Rattle.field.specs.Four.{four}
use Rattle.extension.specs.Extend.{extend}
use Rattle.extension.specs.Piles.{gf16, gf256, gf65536}
use Rattle.tower.specs.Tower.{Tower}

-- whatever tower a field is, its extension has one generator more
abbrev pub Grows : {K : Type 0} → Structure K → Type 0
Grows s = (m : ℕ) → Tower s m → Tower (extend s) (suc m)

pub record PilesAreTowers : Type 0 where
  pub in_4 : Tower four 1
  pub in_16 : Tower gf16 2
  pub in_256 : Tower gf256 3
  pub in_65536 : Tower gf65536 4
