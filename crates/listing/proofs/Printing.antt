-- The printed form of a text, byte by byte. Assumes nothing.
use Rattle.std.proofs.Common.{◌≡◌, ℕ, ◌+◌, ◌<◌, List, [], ◌∷◌, ◌++◌, map, length, get_or, take, sym, ap, ◌∙◌, arith}
use mathlib.Core.List.{map-append}
use lib.Utf8.{encode}
use Rattle.std.proofs.lemmas.Str.Ascii.{encode_ascii}
use Rattle.std.proofs.lemmas.List.{take_more}
use Rattle.std.proofs.lemmas.Bool.Decides.{nat_tests}
use Rattle.listing.specs.Text.{visible}

visible_ascii : (byte : ℕ) → visible byte < 128
visible_ascii byte = grind (arith, nat_tests)

pub one_more : (bytes : List ℕ) (i c : ℕ) → i < length bytes → c ≡ visible (get_or bytes i 0) → map visible (take i bytes) ++ encode c ≡ map visible (take (i + 1) bytes)
one_more bytes i c within is =
    let byte = get_or bytes i 0 in
    ap (λ (l : List ℕ). map visible (take i bytes) ++ l) (ap encode is ∙ encode_ascii (visible byte) (visible_ascii byte))
    ∙ sym (map-append visible (take i bytes) (byte ∷ []))
    ∙ ap (map visible) (sym (take_more bytes i 0 within))
