-- Items of extended data byte by byte: the table of what each code byte is followed by (Open Design Specification, "Extended entity data"). Which items there are, and that the handle of a layer has eight bytes, are rules of this project.
use Rattle.std.specs.Prelude.{◌≡◌, ℕ, ◌<◌, ◌≤◌, ◌^◌, List, [], ◌∷◌, ◌++◌, length, if◌then◌else◌}
use Rattle.std.specs.Int.{w16, w32, w64, to_be_bytes, to_le_bytes}
use Rattle.dwg_grammar.specs.Codes.{IsPoint3}
use Rattle.dwg_appitems.specs.declared.item.AppItem.{AppItem}
use Rattle.dwg_appitems.specs.declared.item.AppItem.TheVariants.{Text, Brace, Layer, Bytes, Object, Point, Word, Short, Long}

-- an item is these bytes, of which the first is its code
abbrev pub IsItemBytes : AppItem → List ℕ → Type 0
-- 0: how many bytes the text has, two bytes of its mark, the text
IsItemBytes (Text mark text) bytes = (length mark ≡ 2) × (length text < 2 ^ 8) × (bytes ≡ 0 ∷ length text ∷ mark ++ text)
-- 2: 1 closes, and 0 doesn't
IsItemBytes (Brace close) bytes = bytes ≡ 2 ∷ (if close then 1 else 0) ∷ []
-- 3: the handle of a layer in eight bytes, the most significant first
IsItemBytes (Layer named) bytes = (named < 2 ^ 64) × (bytes ≡ 3 ∷ to_be_bytes w64 named)
-- 4: how many bytes there are, and these
IsItemBytes (Bytes held) bytes = (length held < 2 ^ 8) × (bytes ≡ 4 ∷ length held ∷ held)
-- 5: the handle of an object in eight bytes, the most significant first
IsItemBytes (Object named) bytes = (named < 2 ^ 64) × (bytes ≡ 5 ∷ to_be_bytes w64 named)
-- 10 to 13: the words of x, y and z in eight bytes each, the least significant first
IsItemBytes (Point code words) bytes =
    (10 ≤ code) × (code ≤ 13) × IsPoint3 words × (bytes ≡ code ∷ to_le_bytes w64 words.x ++ to_le_bytes w64 words.y ++ to_le_bytes w64 words.z)
-- 40 to 42: a word in eight bytes, the least significant first
IsItemBytes (Word code value) bytes = (40 ≤ code) × (code ≤ 42) × (value < 2 ^ 64) × (bytes ≡ code ∷ to_le_bytes w64 value)
-- 70: a number in two bytes, the least significant first
IsItemBytes (Short value) bytes = (value < 2 ^ 16) × (bytes ≡ 70 ∷ to_le_bytes w16 value)
-- 71: a number in four bytes, the least significant first
IsItemBytes (Long value) bytes = (value < 2 ^ 32) × (bytes ≡ 71 ∷ to_le_bytes w32 value)

-- the bytes are these items, one after the other, and nothing else
abbrev pub AreItemBytes : List AppItem → List ℕ → Type 0
AreItemBytes [] bytes = bytes ≡ []
AreItemBytes (one ∷ others) bytes = (first : List ℕ) × (rest : List ℕ) × (bytes ≡ first ++ rest) × IsItemBytes one first × AreItemBytes others rest
