-- What is written of an item, and how many bits that are.
use Rattle.std.proofs.Common.{◌≡◌, refl, sym, ◌∙◌, ap, subst, ℕ, ◌+◌, ◌*◌, ◌^◌, ◌<◌, ◌≤◌, List, ◌++◌, length, arith}
use Rattle.std.specs.Prelude.{if◌then◌else◌}
use Rattle.std.proofs.lemmas.List.{length-append}
use Rattle.dwg_base.specs.Bytes.{AreBytes}
use Rattle.dwg_bits.proofs.BitLaws.{length_of_low_bits}
use Rattle.dwg_bits.specs.Sink.{Written, Extends}
use Rattle.dwg_bits.proofs.SinkLemmas.{extends_by_both}
use Rattle.dwg_codes.proofs.RunReading.{length_of_run}
use Rattle.dwg_grammar.specs.Codes.{rc, rd}
use Rattle.dwg_grammar.specs.Combinators.{chain, counted}
use Rattle.dwg_grammar.specs.ToEnd.{short_all}
use Rattle.dwg_grammar.specs.declared.points.Point3.{Point3}
use Rattle.dwg_grammar.proofs.ByteRunLemmas.{values_of_bytes}
use Rattle.dwg_grammar.proofs.NumberLemmas.{length_of_rs, length_of_rl, length_of_rd}
use Rattle.dwg_appitems.specs.declared.item.AppItem.{AppItem}
use Rattle.dwg_appitems.specs.declared.item.AppItem.TheVariants.{Text, Brace, Layer, Bytes, Object, Point, Word, Short, Long}
use Rattle.dwg_appitems.specs.Items.{marked_text, words_of_point, item_by, code_of, item}
use Rattle.dwg_appitems.specs.ItemLists.{CanBeWritten}
use Rattle.dwg_appitems.proofs.ItemReading.{by_point, by_word}

-- the words of a point after its code are written as they are
pub point_short : (code : ℕ) (words : Point3) → 10 ≤ code → code ≤ 13 → (item_by code).short (Point code words) ≡ words_of_point.short words
point_short code words from to = by_point (λ by. by.short (Point code words) ≡ words_of_point.short words) code from to refl

-- so is a word after its own
pub word_short : (code value : ℕ) → 40 ≤ code → code ≤ 42 → (item_by code).short (Word code value) ≡ rd.short value
word_short code value from to = by_word (λ by. by.short (Word code value) ≡ rd.short value) code from to refl

-- a text is written by its count, its mark and its bytes
pub text_short : (mark text : List ℕ) → marked_text.short (mark, text) ≡ rc.short (length text) ++ (short_all rc mark ++ short_all rc text)
unfolding chain
text_short mark text = refl

-- counted bytes are written by their count and themselves
pub counted_short : (bytes : List ℕ) → (counted rc rc).short bytes ≡ rc.short (length bytes) ++ short_all rc bytes
unfolding chain
counted_short bytes = refl

-- how many bytes follow the code byte of an item
abbrev pub size_after : AppItem → ℕ
size_after (Text mark text) = 1 + length mark + length text
size_after (Brace close) = 1
size_after (Layer named) = 8
size_after (Bytes bytes) = 1 + length bytes
size_after (Object named) = 8
size_after (Point code words) = 24
size_after (Word code value) = 8
size_after (Short value) = 2
size_after (Long value) = 4

-- a text has the bits of each
pub length_of_text : (mark text : List ℕ) → length (marked_text.short (mark, text)) ≡ 8 * (1 + length mark + length text)
length_of_text mark text =
    omega (
      arith,
      ap length (text_short mark text),
      length-append (rc.short (length text)) (short_all rc mark ++ short_all rc text),
      length-append (short_all rc mark) (short_all rc text),
      length_of_low_bits 8 (length text),
      length_of_run mark,
      length_of_run text,
    )

-- so have counted bytes
pub length_of_counted : (bytes : List ℕ) → length ((counted rc rc).short bytes) ≡ 8 * (1 + length bytes)
length_of_counted bytes =
    omega (arith, ap length (counted_short bytes), length-append (rc.short (length bytes)) (short_all rc bytes), length_of_low_bits 8 (length bytes), length_of_run bytes)

-- a point has 192 bits
pub length_of_words : (words : Point3) → length (words_of_point.short words) ≡ 192
length_of_words words =
    omega (
      arith,
      length-append (rd.short words.x) (rd.short words.y ++ rd.short words.z),
      length-append (rd.short words.y) (rd.short words.z),
      length_of_rd words.x,
      length_of_rd words.y,
      length_of_rd words.z,
    )

-- what follows the code byte of an item has whole bytes
pub length_after : (one : AppItem) → CanBeWritten one → length ((item_by (code_of one)).short one) ≡ 8 * size_after one
unfolding item_by
length_after (Text mark text) can = length_of_text mark text
length_after (Brace close) can = length_of_low_bits 8 (if close then 1 else 0)
length_after (Layer named) can = length_of_low_bits 64 named
length_after (Bytes bytes) can = length_of_counted bytes
length_after (Object named) can = length_of_low_bits 64 named
length_after (Point code words) can = ap length (point_short code words can.0 can.1) ∙ length_of_words words
length_after (Word code value) can = ap length (word_short code value can.0 can.1) ∙ length_of_rd value
length_after (Short value) can = length_of_rs value
length_after (Long value) can = length_of_rl value

-- an item has the bits of its code byte, and of what follows it
pub length_of_item : (one : AppItem) → CanBeWritten one → length (item.short one) ≡ 8 * (1 + size_after one)
unfolding item
length_of_item one can =
    omega (arith, length-append (rc.short (code_of one)) ((item_by (code_of one)).short one), length_of_low_bits 8 (code_of one), length_after one can)

-- so has a text after its code byte
pub length_with_text : (one : AppItem) (mark text bytes : List ℕ) (count : ℕ) → one ≡ Text mark text → bytes ≡ text → length (marked_text.short (mark, bytes)) ≡ 8 * count
    → length (item.short one) ≡ 8 * (1 + count)
unfolding item item_by
length_with_text one mark text bytes count same run counted =
    let after : length (marked_text.short (mark, text)) ≡ 8 * count = subst (λ (all : List ℕ). length (marked_text.short (mark, all)) ≡ 8 * count) run counted in
    subst (λ (value : AppItem). length (item.short value) ≡ 8 * (1 + count)) (sym same)
    (omega (arith, after, length-append (rc.short 0) (marked_text.short (mark, text)), length_of_low_bits 8 0))

-- a sink that grew by the count, the mark and the bytes of a text grew by the text
pub text_written : (mark text : List ℕ) (s0 s1 s2 s3 : Written) → Extends s0 s1 (rc.short (length text)) → Extends s1 s2 (short_all rc mark) → Extends s2 s3 (short_all rc text)
    → Extends s0 s3 (marked_text.short (mark, text))
text_written mark text s0 s1 s2 s3 count of_mark of_text =
    subst (Extends s0 s3) (sym (text_short mark text)) (extends_by_both s0 s1 s3 _ _ count (extends_by_both s1 s2 s3 _ _ of_mark of_text))

-- after its count there is room for the mark and the bytes of a text, where there was room for the text
pub room_after_count : (mark text : List ℕ) (s0 s1 : Written) → length (marked_text.short (mark, text)) ≤ s0.spare → Extends s0 s1 (rc.short (length text)) → 8 * (length mark + length text) ≤ s1.spare
room_after_count mark text s0 s1 room count = omega (arith, room, count.spare, length_of_text mark text, length_of_low_bits 8 (length text))

-- bytes of a mark and fewer than 256 bytes are those of a text
pub text_value : (mark text : List ℕ) → length mark ≡ 2 → AreBytes mark → AreBytes text → length text < 2 ^ 8 → marked_text.IsValue (mark, text)
text_value mark text two bytes all few = ((values_of_bytes 2 mark).1 (two, bytes), (values_of_bytes (length text) text).1 (refl, all), few)

-- and then they are what follows the code of a text
pub text_after : (one : AppItem) (mark text bytes : List ℕ) → one ≡ Text mark text → bytes ≡ text → marked_text.IsValue (mark, bytes) → (item_by (code_of one)).IsValue one
unfolding item_by
text_after one mark text bytes same run fits =
    subst (λ (value : AppItem). (item_by (code_of value)).IsValue value) (sym same) ((mark, text), refl, subst (λ (all : List ℕ). marked_text.IsValue (mark, all)) run fits)

-- and counted bytes
pub counted_written : (bytes : List ℕ) (s0 s1 s2 : Written) → Extends s0 s1 (rc.short (length bytes)) → Extends s1 s2 (short_all rc bytes) → Extends s0 s2 ((counted rc rc).short bytes)
counted_written bytes s0 s1 s2 count all = subst (Extends s0 s2) (sym (counted_short bytes)) (extends_by_both s0 s1 s2 _ _ count all)

pub counted_value : (bytes : List ℕ) → AreBytes bytes → length bytes < 2 ^ 8 → (counted rc rc).IsValue bytes
unfolding chain
counted_value bytes all few = (few, ((values_of_bytes (length bytes) bytes).1 (refl, all)).1)
