-- Hexadecimal text by parts, and back.
use Rattle.std.proofs.Common.{◌≡◌, ℕ, List, [], ◌∷◌, ◌++◌, length, Ok, refl}
use Rattle.hex.specs.Hex.{IsBytes, decode_sized, encode_lower, encode_with}
use Rattle.hex.proofs.HexLemmas.{decode_sized-encode_lower}

encode_with_append : (digits xs ys : List ℕ)
    → encode_with digits (xs ++ ys) ≡ encode_with digits xs ++ encode_with digits ys
unfolding encode_with
encode_with_append digits [] ys = refl
encode_with_append digits (x ∷ xs) ys = rw (encode_with_append digits xs ys) refl

-- the text of two parts is their texts, one after the other
pub encode_append : (xs ys : List ℕ) → encode_lower (xs ++ ys) ≡ encode_lower xs ++ encode_lower ys
encode_append = encode_with_append _

-- the text of some bytes decodes to them
pub decode_encoded : (xs : List ℕ) → IsBytes xs → decode_sized (encode_lower xs) (length xs) ≡ Ok xs
decode_encoded xs h = decode_sized-encode_lower xs (length xs) refl h
