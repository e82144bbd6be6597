-- Hexadecimal digits, as the crate that prints them gives them.
use Rattle.std.proofs.Common.{◌≡◌, refl, ◌∙◌, ap, ap₂, ℕ, ◌/◌, ◌%◌, ◌<◌, [], ◌∷◌, map, arith}
use Rattle.std.specs.Prelude.{slice_index}
use Rattle.std.specs.List.{range_with_len}
use Rattle.std.proofs.lemmas.List.FromFn.{get_or-map-range_with_len}
use Rattle.hex.specs.Hex.{lower_digits, encode_with, encode_lower}
use Rattle.dwg_text.specs.Lines.{lower_digit}

-- the table of digits
table_is : lower_digits ≡ map lower_digit (range_with_len 0 16)
table_is = refl

-- the digit of each number below sixteen
pub digit_entry : (number : ℕ) → number < 16 → slice_index lower_digits number ≡ lower_digit number
digit_entry number small =
    ap (λ table. slice_index table number) table_is ∙ get_or-map-range_with_len lower_digit 0 16 number number 0 small (omega arith)

-- a byte has two digits
pub two_digits : (byte : ℕ) → byte < 256 → encode_lower (byte ∷ []) ≡ lower_digit (byte / 16) ∷ lower_digit (byte % 16) ∷ []
unfolding encode_with
two_digits byte small =
    ap₂ (λ high low. high ∷ low ∷ []) (digit_entry (byte / 16) (omega arith)) (digit_entry (byte % 16) (omega arith))
