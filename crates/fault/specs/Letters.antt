-- The letters of the layers: f, b and r. Assumes nothing.
use Rattle.std.specs.Prelude.{◌≡◌, ℕ, cond, Some, None, Option, Result, MatchResult, ◌==◌}
use Rattle.fault.specs.declared.layer.Layer.{Layer}
use Rattle.fault.specs.declared.layer.Layer.TheVariants.{File, Book, Rack}
use Rattle.fault.specs.declared.layer.NoLayer.{NoLayer}

abbrev pub letter_of : Layer → ℕ
letter_of File = 102
letter_of Book = 98
letter_of Rack = 114

abbrev pub layer_of : ℕ → Option Layer
layer_of c = cond (c == 102) (Some File) (cond (c == 98) (Some Book) (cond (c == 114) (Some Rack) None))

-- What a letter is read as: the layer that it stands for, whose letter it is, or an error that names it, where it stands for none.
abbrev pub Decodes : ℕ → Result Layer NoLayer → Type 0
Decodes letter r =
    MatchResult r (λ layer. (layer_of letter ≡ Some layer) × (letter_of layer ≡ letter)) (λ fault. (layer_of letter ≡ None) × (fault.0 ≡ letter))
