-- The piles: the fields of 16, 256 and 65536 elements, each the extension of the one before. Assumes nothing.
use Rattle.field.specs.Structure.{Structure}
use Rattle.field.specs.Four.{four}
use Rattle.field.specs.declared.gf4.Gf4.{Gf4}
use Rattle.extension.specs.Extend.{extend}
use Rattle.extension.specs.declared.ext.Ext.{Ext}

abbrev pub gf16 : Structure (Ext Gf4)
gf16 = extend four

abbrev pub gf256 : Structure (Ext (Ext Gf4))
gf256 = extend gf16

abbrev pub gf65536 : Structure (Ext (Ext (Ext Gf4)))
gf65536 = extend gf256
