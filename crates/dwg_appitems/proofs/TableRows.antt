-- What follows the code byte of an item, and that it is spelled by the bits of these bytes.
use Rattle.std.proofs.Common.{◌≡◌, refl, sym, ◌∙◌, ap, ap₂, subst, ℕ, ◌*◌, ◌^◌, ◌<◌, ◌≤◌, Bool, true, false, List, [], ◌∷◌, ◌++◌, length, Option, Some, arith}
use Rattle.std.specs.Prelude.{⊤, ◌==◌, ◌&&◌, nat_le, if◌then◌else◌}
use Rattle.std.specs.Int.{w16, w32, w64, to_be_bytes, to_le_bytes}
use Rattle.std.proofs.lemmas.Bool.Decides.{nat_tests}
use Rattle.std.proofs.lemmas.Nat.{from_be_bytes-to_be_bytes_8}
use Rattle.std.proofs.lemmas.Option.{same_Some}
use Rattle.dwg_base.specs.Bytes.{AreBytes}
use Rattle.dwg_base.proofs.ByteLists.{joined_are_bytes, byte_below}
use Rattle.dwg_bits.specs.Bits.{bits, low_bits, num}
use Rattle.dwg_bits.proofs.BitLaws.{length_of_bits, low_bits_of_num, bits_joined, bits_between_all}
use Rattle.dwg_bits.proofs.WordParts.{eight_spell}
use Rattle.dwg_grammar.specs.Codes.{rc, rs, rl, rd, word_bytes, IsPoint3}
use Rattle.dwg_grammar.specs.Combinators.{chain, items, counted}
use Rattle.dwg_grammar.specs.Grammar.{Grammar}
use Rattle.dwg_grammar.specs.declared.points.Point3.{Point3}
use Rattle.dwg_grammar.proofs.ByteRunLemmas.{short_of_bytes, values_of_bytes}
use Rattle.dwg_grammar.proofs.NumberLemmas.{bytes_of_number, bytes_of_items, items_of_bytes}
use Rattle.dwg_appitems.specs.declared.item.AppItem.{AppItem}
use Rattle.dwg_appitems.specs.declared.item.AppItem.TheVariants.{Text, Brace, Layer, Bytes, Object, Point, Word, Short, Long}
use Rattle.dwg_appitems.specs.ItemLists.{CanBeWritten}
use Rattle.dwg_appitems.specs.Items.{variant, handle, marked_text, closing, words_of_point, text_in, brace_in, layer_in, bytes_in, object_in, point_in, word_in, short_in, long_in, item_by, code_of}
use Rattle.dwg_appitems.proofs.VariantLemmas.{of_chosen}

-- the bytes that follow the code of an item
abbrev pub after : AppItem → List ℕ
after (Text mark text) = length text ∷ (mark ++ text)
after (Brace close) = (if close then 1 else 0) ∷ []
after (Layer named) = to_be_bytes w64 named
after (Bytes held) = length held ∷ held
after (Object named) = to_be_bytes w64 named
after (Point code words) = to_le_bytes w64 words.x ++ (to_le_bytes w64 words.y ++ to_le_bytes w64 words.z)
after (Word code value) = to_le_bytes w64 value
after (Short value) = to_le_bytes w16 value
after (Long value) = to_le_bytes w32 value

-- what an item holds lies in the ranges of these bytes
abbrev pub HoldsBytes : AppItem → Type 0
HoldsBytes (Text mark text) = (length mark ≡ 2) × (length text < 2 ^ 8) × AreBytes mark × AreBytes text
HoldsBytes (Brace close) = ⊤
HoldsBytes (Layer named) = named < 2 ^ 64
HoldsBytes (Bytes held) = (length held < 2 ^ 8) × AreBytes held
HoldsBytes (Object named) = named < 2 ^ 64
HoldsBytes (Point code words) = IsPoint3 words
HoldsBytes (Word code value) = value < 2 ^ 64
HoldsBytes (Short value) = value < 2 ^ 16
HoldsBytes (Long value) = value < 2 ^ 32

-- a code has an item as a value where what that holds lies in these ranges, and spells it by these bytes
pub record IsRow (value : AppItem) (code : Grammar Bool AppItem) : Type 0 where
  pub fits : HoldsBytes value → code.IsValue value
  pub holds : code.IsValue value → HoldsBytes value
  pub short : HoldsBytes value → code.short value ≡ bits (after value)

-- the bits of a byte and others
pub bits_first : (byte : ℕ) (bytes : List ℕ) → bits (byte ∷ bytes) ≡ low_bits 8 byte ++ bits bytes
unfolding bits
bits_first byte bytes = refl

-- so many RCs are written by the bits of their bytes
short_of_items : (count : ℕ) (bytes : List ℕ) → (items rc count).short bytes ≡ bits bytes
unfolding chain
short_of_items count bytes = short_of_bytes bytes

-- eight bytes of a number, the most significant first, are bytes
word_is_bytes : (word : ℕ) → AreBytes (to_be_bytes w64 word)
word_is_bytes word = (omega arith, (omega arith, (omega arith, (omega arith, (omega arith, (omega arith, (omega arith, (omega arith, tt))))))))

-- a handle is written by the bits of these
short_of_handle : (named : ℕ) → named < 2 ^ 64 → handle.short named ≡ bits (to_be_bytes w64 named)
short_of_handle named small =
    let row : List ℕ = to_be_bytes w64 named in
    let number : named ≡ num (bits row) =
    sym (from_be_bytes-to_be_bytes_8 named small) ∙ eight_spell row 0 (byte_below row (word_is_bytes named)) (omega arith) ∙ ap num (bits_between_all row 64 refl) in
    ap (low_bits 64) number ∙ ap (λ count. low_bits count (num (bits row))) (sym (length_of_bits row)) ∙ low_bits_of_num (bits row)

-- an RD is written by the bits of its bytes
short_of_word : (value : ℕ) → rd.short value ≡ bits (to_le_bytes w64 value)
unfolding word_bytes
short_of_word value = short_of_items 8 (to_le_bytes w64 value)

-- what an item holds by a variant is a value
value_held : {V : Type 0} (into : V → AppItem) (inside : AppItem → Option V) (code : Grammar Bool V) (held : V) → ((one : V) → inside (into one) ≡ Some one)
    → (variant into inside code).IsValue (into held) → code.IsValue held
value_held into inside code held reported (one, same, fits) =
    subst code.IsValue (sym (same_Some held one (sym (reported held) ∙ ap inside same ∙ reported one))) fits

-- a text
text_row : (mark text : List ℕ) → IsRow (Text mark text) (variant (λ both. Text both.0 both.1) text_in marked_text)
text_row mark text = record {
  fits = λ holds. ((mark, text), refl, ((values_of_bytes 2 mark).1 (holds.0, holds.2), (values_of_bytes (length text) text).1 (refl, holds.3), holds.1));
  holds = λ value.
      let fits = value_held (λ (both : List ℕ × List ℕ). Text both.0 both.1) text_in marked_text (mark, text) (λ one. refl) value in
      let of_mark = (values_of_bytes 2 mark).0 fits.0 in
      (of_mark.0, fits.2, of_mark.1, ((values_of_bytes (length text) text).0 fits.1).1);
  short = λ holds.
      ap (λ rest. low_bits 8 (length text) ++ rest) (ap₂ (λ one other. one ++ other) (short_of_items 2 mark) (short_of_items (length text) text) ∙ sym (bits_joined mark text))
      ∙ sym (bits_first (length text) (mark ++ text));
}

-- a brace
brace_row : (close : Bool) → IsRow (Brace close) (variant Brace brace_in closing)
unfolding bits low_bits
brace_row true = record { fits = λ holds. (true, refl, tt); holds = λ value. tt; short = λ holds. refl }
brace_row false = record { fits = λ holds. (false, refl, tt); holds = λ value. tt; short = λ holds. refl }

-- a layer
layer_row : (named : ℕ) → IsRow (Layer named) (variant Layer layer_in handle)
layer_row named = record { fits = λ holds. (named, refl, holds); holds = value_held Layer layer_in handle named (λ one. refl); short = short_of_handle named }

-- counted bytes
bytes_row : (held : List ℕ) → IsRow (Bytes held) (variant Bytes bytes_in (counted rc rc))
bytes_row held = record {
  fits = λ holds. (held, refl, (holds.0, items_of_bytes rc (λ value small. small) held holds.1));
  holds = λ value.
      let fits = value_held Bytes bytes_in (counted rc rc) held (λ one. refl) value in (fits.0, bytes_of_items rc (λ value small. small) held fits.1);
  short = λ holds. ap (λ rest. low_bits 8 (length held) ++ rest) (short_of_items (length held) held) ∙ sym (bits_first (length held) held);
}

-- an object
object_row : (named : ℕ) → IsRow (Object named) (variant Object object_in handle)
object_row named = record { fits = λ holds. (named, refl, holds); holds = value_held Object object_in handle named (λ one. refl); short = short_of_handle named }

-- a point
point_row : (code : ℕ) (words : Point3) → IsRow (Point code words) (variant (Point code) point_in words_of_point)
point_row code words = record {
  fits = λ holds. (words, refl, holds);
  holds = value_held (Point code) point_in words_of_point words (λ one. refl);
  short = λ holds.
      ap₂ (λ one other. one ++ other) (short_of_word words.x) (ap₂ (λ one other. one ++ other) (short_of_word words.y) (short_of_word words.z) ∙ sym (bits_joined (to_le_bytes w64 words.y) (to_le_bytes w64 words.z)))
      ∙ sym (bits_joined (to_le_bytes w64 words.x) (to_le_bytes w64 words.y ++ to_le_bytes w64 words.z));
}

-- a word
word_row : (code value : ℕ) → IsRow (Word code value) (variant (Word code) word_in rd)
word_row code value = record { fits = λ holds. (value, refl, holds); holds = value_held (Word code) word_in rd value (λ one. refl); short = λ holds. short_of_word value }

-- numbers
short_row : (value : ℕ) → IsRow (Short value) (variant Short short_in rs)
short_row value = record { fits = λ holds. (value, refl, holds); holds = value_held Short short_in rs value (λ one. refl); short = λ holds. short_of_items 2 (to_le_bytes w16 value) }

long_row : (value : ℕ) → IsRow (Long value) (variant Long long_in rl)
long_row value = record { fits = λ holds. (value, refl, holds); holds = value_held Long long_in rl value (λ one. refl); short = λ holds. short_of_items 4 (to_le_bytes w32 value) }

-- a point by its code
row_of_point : (code : ℕ) (words : Point3) → 10 ≤ code → code ≤ 13 → IsRow (Point code words) (item_by code)
unfolding item_by
row_of_point code words least most =
    let Holds : Grammar Bool AppItem → Type 0 = IsRow (Point code words) in
    of_chosen Holds (code == 0) _ _ (λ at. absurd (grind (arith, nat_tests)))
    (λ not. of_chosen Holds (code == 2) _ _ (λ at. absurd (grind (arith, nat_tests)))
    (λ not. of_chosen Holds (code == 3) _ _ (λ at. absurd (grind (arith, nat_tests)))
    (λ not. of_chosen Holds (code == 4) _ _ (λ at. absurd (grind (arith, nat_tests)))
    (λ not. of_chosen Holds (code == 5) _ _ (λ at. absurd (grind (arith, nat_tests)))
    (λ not. of_chosen Holds (nat_le 10 code && nat_le code 13) _ _ (λ at. point_row code words) (λ not. absurd (grind (arith, nat_tests))))))))

-- a word by its code
row_of_word : (code value : ℕ) → 40 ≤ code → code ≤ 42 → IsRow (Word code value) (item_by code)
unfolding item_by
row_of_word code value least most =
    let Holds : Grammar Bool AppItem → Type 0 = IsRow (Word code value) in
    of_chosen Holds (code == 0) _ _ (λ at. absurd (grind (arith, nat_tests)))
    (λ not. of_chosen Holds (code == 2) _ _ (λ at. absurd (grind (arith, nat_tests)))
    (λ not. of_chosen Holds (code == 3) _ _ (λ at. absurd (grind (arith, nat_tests)))
    (λ not. of_chosen Holds (code == 4) _ _ (λ at. absurd (grind (arith, nat_tests)))
    (λ not. of_chosen Holds (code == 5) _ _ (λ at. absurd (grind (arith, nat_tests)))
    (λ not. of_chosen Holds (nat_le 10 code && nat_le code 13) _ _ (λ at. absurd (grind (arith, nat_tests)))
    (λ not. of_chosen Holds (nat_le 40 code && nat_le code 42) _ _ (λ at. word_row code value) (λ not. absurd (grind (arith, nat_tests)))))))))

-- each item by its code
pub row_of : (value : AppItem) → CanBeWritten value → IsRow value (item_by (code_of value))
unfolding item_by
row_of (Text mark text) can = text_row mark text
row_of (Brace close) can = brace_row close
row_of (Layer named) can = layer_row named
row_of (Bytes held) can = bytes_row held
row_of (Object named) can = object_row named
row_of (Point code words) can = row_of_point code words can.0 can.1
row_of (Word code value) can = row_of_word code value can.0 can.1
row_of (Short value) can = short_row value
row_of (Long value) can = long_row value

-- the code of an item and what follows it are bytes
pub row_is_bytes : (value : AppItem) → CanBeWritten value → HoldsBytes value → AreBytes (code_of value ∷ after value)
row_is_bytes (Text mark text) can holds = (omega arith, (holds.1, joined_are_bytes mark text holds.2 holds.3))
row_is_bytes (Brace true) can holds = (omega arith, (omega arith, tt))
row_is_bytes (Brace false) can holds = (omega arith, (omega arith, tt))
row_is_bytes (Layer named) can holds = (omega arith, word_is_bytes named)
row_is_bytes (Bytes held) can holds = (omega arith, (holds.0, holds.1))
row_is_bytes (Object named) can holds = (omega arith, word_is_bytes named)
row_is_bytes (Point code words) can holds = (
  omega (arith, can.1),
  joined_are_bytes (to_le_bytes w64 words.x) (to_le_bytes w64 words.y ++ to_le_bytes w64 words.z) (bytes_of_number 0 8 words.x)
      (joined_are_bytes (to_le_bytes w64 words.y) (to_le_bytes w64 words.z) (bytes_of_number 0 8 words.y) (bytes_of_number 0 8 words.z)),
)
row_is_bytes (Word code value) can holds = (omega (arith, can.1), bytes_of_number 0 8 value)
row_is_bytes (Short value) can holds = (omega arith, bytes_of_number 0 2 value)
row_is_bytes (Long value) can holds = (omega arith, bytes_of_number 0 4 value)
