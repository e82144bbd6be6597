-- The digits of bytes, as the crate that prints them gives them.
use Rattle.std.proofs.Common.{◌≡◌, refl, ◌∙◌, ap₂, ℕ, ◌/◌, ◌%◌, List, [], ◌∷◌, ◌++◌, arith}
use Rattle.std.specs.Prelude.{Result, Ok, Err, IfOk, flat_map}
use Rattle.dwg_base.specs.Bytes.{AreBytes}
use Rattle.hex.specs.Hex.{encode_with, encode_lower}
use Rattle.dwg_text.specs.Lines.{byte_digits}
use Rattle.dwg_text.proofs.Digits.{digit_entry}

-- bytes have two digits each
pub digits_of_bytes : (bytes : List ℕ) → AreBytes bytes → encode_lower bytes ≡ flat_map byte_digits bytes
unfolding encode_with
digits_of_bytes [] are = refl
digits_of_bytes (byte ∷ bytes) are =
    ap₂ (λ two others. two ++ others)
    (ap₂ (λ high low. high ∷ low ∷ []) (digit_entry (byte / 16) (omega (arith, are.0))) (digit_entry (byte % 16) (omega arith)))
    (digits_of_bytes bytes are.1)

-- and so has their text, where there was memory for it
pub encoded_digits : {T E : Type 0} (text : T → List ℕ) (result : Result T E) (bytes : List ℕ) → AreBytes bytes → IfOk result (λ made. text made ≡ encode_lower bytes)
    → IfOk result (λ made. text made ≡ flat_map byte_digits bytes)
encoded_digits {T} {E} text (Ok made) bytes are is = is ∙ digits_of_bytes bytes are
encoded_digits {T} {E} text (Err wanted) bytes are is = tt
