-- What is printed of single values. A rule of this project.
use Rattle.std.specs.Prelude.{ℕ, ◌-◌, true, List, [], ◌∷◌, ◌++◌, codes, length, flat_map, replicate}
use Rattle.std.specs.Fmt.{digits}
use Rattle.dwg_grammar.specs.declared.points.Point2.{Point2}
use Rattle.dwg_grammar.specs.declared.points.Point3.{Point3}
use Rattle.dwg_grammar.specs.Reference.{Reference}
use Rattle.dwg_text.specs.Lines.{byte_digits}

-- upper-case hexadecimal digits without leading zeros, 0 for zero: so are handles printed
abbrev pub upper_digits : ℕ → List ℕ
upper_digits number = digits 16 true number

-- a word: sixteen upper-case hexadecimal digits
unfoldable pub word_text : ℕ → List ℕ
word_text word = replicate (16 - length (upper_digits word)) 48 ++ upper_digits word

-- points: their words with spaces between
unfoldable pub point2_text : Point2 → List ℕ
point2_text point = word_text point.x ++ codes " " ++ word_text point.y

unfoldable pub point3_text : Point3 → List ℕ
point3_text point = word_text point.x ++ codes " " ++ word_text point.y ++ codes " " ++ word_text point.z

-- a reference: the digit of its code, a full stop, and its target
unfoldable pub reference_text : Reference → List ℕ
reference_text reference = upper_digits reference.code ++ codes "." ++ upper_digits reference.target

-- bytes: two lower-case digits each, or a hyphen where there are none
unfoldable pub bytes_text : List ℕ → List ℕ
bytes_text [] = codes "-"
bytes_text (byte ∷ bytes) = flat_map byte_digits (byte ∷ bytes)
