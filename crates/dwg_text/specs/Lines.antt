-- Lines of text, and what stands in them. A rule of this project.
use Rattle.std.specs.Prelude.{ℕ, ◌+◌, ◌/◌, ◌%◌, Bool, not, ◌&&◌, List, [], ◌∷◌, ◌++◌, codes, flat_map, nat_lt, nat_le, ◌==◌, if◌then◌else◌}

-- a text and the line feed that ends it
abbrev pub line : List ℕ → List ℕ
line text = text ++ 10 ∷ []

-- a truth value
abbrev pub truth : Bool → List ℕ
truth value = if value then codes "1" else codes "0"

-- the character of a number below sixteen
abbrev pub lower_digit : ℕ → ℕ
lower_digit number = if nat_lt number 10 then 48 + number else 87 + number

-- the two digits of a byte, lower-case hexadecimal ones
abbrev pub byte_digits : ℕ → List ℕ
byte_digits byte = lower_digit (byte / 16) ∷ lower_digit (byte % 16) ∷ []

-- a byte stands between quotation marks as it is: it is visible or a space, and neither a quotation mark nor a backslash
abbrev pub is_plain : ℕ → Bool
is_plain byte = nat_le 32 byte && nat_le byte 126 && not (byte == 34) && not (byte == 92)

-- a byte between quotation marks: as it is, or a backslash and two digits
unfoldable pub quoted_byte : ℕ → List ℕ
quoted_byte byte = if is_plain byte then byte ∷ [] else 92 ∷ byte_digits byte

-- a text between quotation marks
unfoldable pub quoted : List ℕ → List ℕ
quoted text = codes "\"" ++ flat_map quoted_byte text ++ codes "\""
