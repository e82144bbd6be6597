-- Bytes are items exactly where they are by the table.
use Rattle.std.proofs.Common.{◌≡◌, refl, sym, ◌∙◌, ap, subst, ℕ, ◌*◌, ◌^◌, ◌<◌, ◌≤◌, Bool, true, false, List, [], ◌∷◌, ◌++◌, length, take, drop, arith}
use Rattle.std.specs.Prelude.{◌↔◌}
use Rattle.std.proofs.lemmas.List.{take-append-drop, length-take-le, drop_at}
use Rattle.dwg_base.specs.Bytes.{AreBytes}
use Rattle.dwg_bits.specs.Bits.{bits, low_bits}
use Rattle.dwg_bits.proofs.BitLaws.{length_of_bits, bits_joined, bits_same}
use Rattle.dwg_grammar.specs.ToEnd.{SpellsAll}
use Rattle.dwg_appitems.specs.declared.item.AppItem.{AppItem}
use Rattle.dwg_appitems.specs.declared.item.AppItem.TheVariants.{Text, Brace, Layer, Bytes, Object, Point, Word, Short, Long}
use Rattle.dwg_appitems.specs.ItemLists.{AreItems, CanBeWritten}
use Rattle.dwg_appitems.specs.Items.{code_of, item}
use Rattle.dwg_appitems.specs.ItemTable.{IsItemBytes, AreItemBytes}
use Rattle.dwg_appitems.proofs.ExactSpellings.{item_exact}
use Rattle.dwg_appitems.proofs.ItemCounts.{item_counted}
use Rattle.dwg_appitems.proofs.ItemLemmas.{item_is_code, item_can_be_written}
use Rattle.dwg_appitems.proofs.ItemPrefixes.{bits_split, prefix_of_bytes}
use Rattle.dwg_appitems.proofs.TableRows.{after, HoldsBytes, bits_first, row_of, row_is_bytes}

-- bytes are bytes in both of their parts
bytes_apart : (a b : List ℕ) → AreBytes (a ++ b) → AreBytes a × AreBytes b
bytes_apart [] b all = (tt, all)
bytes_apart (byte ∷ a) b all = let parts = bytes_apart a b all.1 in ((all.0, parts.0), parts.1)

-- the first so many bytes, and the others
taken_apart : (bytes : List ℕ) (count : ℕ) → AreBytes bytes → AreBytes (take count bytes) × AreBytes (drop count bytes)
taken_apart bytes count are = bytes_apart (take count bytes) (drop count bytes) (subst AreBytes (sym (take-append-drop count bytes)) are)

-- by the table an item is its code and what follows it, where what it holds lies in the ranges of the table
by_table : (value : AppItem) (bytes : List ℕ) → CanBeWritten value → HoldsBytes value → bytes ≡ code_of value ∷ after value → IsItemBytes value bytes
by_table (Text mark text) bytes can holds same = (holds.0, holds.1, same)
by_table (Brace close) bytes can holds same = same
by_table (Layer named) bytes can holds same = (holds, same)
by_table (Bytes held) bytes can holds same = (holds.0, same)
by_table (Object named) bytes can holds same = (holds, same)
by_table (Point code words) bytes can holds same = (can.0, can.1, holds, same)
by_table (Word code value) bytes can holds same = (can.0, can.1, holds, same)
by_table (Short value) bytes can holds same = (holds, same)
by_table (Long value) bytes can holds same = (holds, same)

-- bytes that an item is by the table
record IsTabled (value : AppItem) (bytes : List ℕ) : Type 0 where
  can : CanBeWritten value
  holds : HoldsBytes value
  same : bytes ≡ code_of value ∷ after value

-- are these
tabled : (value : AppItem) (bytes : List ℕ) → AreBytes bytes → IsItemBytes value bytes → IsTabled value bytes
tabled (Text mark text) bytes are is =
    let parts = bytes_apart mark text (subst AreBytes is.2 are).1.1 in record { can = is.1; holds = (is.0, is.1, parts.0, parts.1); same = is.2 }
tabled (Brace close) bytes are is = record { can = tt; holds = tt; same = is }
tabled (Layer named) bytes are is = record { can = tt; holds = is.0; same = is.1 }
tabled (Bytes held) bytes are is = record { can = is.0; holds = (is.0, (subst AreBytes is.1 are).1.1); same = is.1 }
tabled (Object named) bytes are is = record { can = tt; holds = is.0; same = is.1 }
tabled (Point code words) bytes are is = record { can = (is.0, is.1); holds = is.2; same = is.3 }
tabled (Word code value) bytes are is = record { can = (is.0, is.1); holds = is.2; same = is.3 }
tabled (Short value) bytes are is = record { can = tt; holds = is.0; same = is.1 }
tabled (Long value) bytes are is = record { can = tt; holds = is.0; same = is.1 }

-- an item is written by the bits of its code and of what follows it
short_of_row : (value : AppItem) → CanBeWritten value → HoldsBytes value → item.short value ≡ bits (code_of value ∷ after value)
unfolding item
short_of_row value can holds =
    ap (λ rest. low_bits 8 (code_of value) ++ rest) ((row_of value can).short holds) ∙ sym (bits_first (code_of value) (after value))

-- what an item holds lies in these ranges
holds_bytes : (value : AppItem) → CanBeWritten value → item.IsValue value → HoldsBytes value
unfolding item
holds_bytes value can fits = (row_of value can).holds fits.1

-- and where it does it is an item
is_value : (value : AppItem) → CanBeWritten value → HoldsBytes value → item.IsValue value
unfolding item
is_value value can holds = ((row_is_bytes value can holds).0, (row_of value can).fits holds)

-- bytes that spell an item are it by the table
one_tabled : (value : AppItem) (bytes : List ℕ) → AreBytes bytes → item.Spells value (bits bytes) → IsItemBytes value bytes
one_tabled value bytes are spelled =
    let fits = item_is_code.value (bits bytes) value spelled in
    let can = item_can_be_written value fits in
    let holds = holds_bytes value can fits in
    by_table value bytes can holds (bits_same bytes (code_of value ∷ after value) are (row_is_bytes value can holds) (item_exact value (bits bytes) spelled ∙ short_of_row value can holds))

-- and those that it is by the table spell it
one_spelled : (value : AppItem) (bytes : List ℕ) → AreBytes bytes → IsItemBytes value bytes → item.Spells value (bits bytes)
one_spelled value bytes are is =
    let row = tabled value bytes are is in
    subst (item.Spells value) (short_of_row value row.can row.holds ∙ ap bits (sym row.same)) (item_is_code.canonical value (is_value value row.can row.holds))

-- bytes without bits are none
no_bytes : (bytes : List ℕ) → bits bytes ≡ [] → bytes ≡ []
no_bytes [] none = refl
no_bytes (byte ∷ bytes) none = absurd (omega (arith, ap length none, length_of_bits (byte ∷ bytes)))

-- no bytes have no bits
no_bits : bits [] ≡ []
unfolding bits
no_bits = refl

-- what is left after the bits of so many bytes are the bits of the others
left_of_bytes : (bytes : List ℕ) (prefix rest : List Bool) (count : ℕ) → bits bytes ≡ prefix ++ rest → length prefix ≡ 8 * count → count ≤ length bytes → rest ≡ bits (drop count bytes)
left_of_bytes bytes prefix rest count same counted within =
    let long : length (bits (take count bytes)) ≡ 8 * count = length_of_bits (take count bytes) ∙ ap (λ m. 8 * m) (length-take-le count bytes within) in
    sym (drop_at prefix rest (8 * count) counted) ∙ ap (drop (8 * count)) (sym same ∙ bits_split bytes count) ∙ drop_at (bits (take count bytes)) (bits (drop count bytes)) (8 * count) long

-- bytes that are items are these by the table
all_tabled : (all : List AppItem) (bytes : List ℕ) → AreBytes bytes → AreItems all bytes → AreItemBytes all bytes
all_tabled [] bytes are none = no_bytes bytes none
all_tabled (one ∷ others) bytes are (prefix, back, spelled, more, same) =
    let sized = item_counted one prefix spelled in
    let at = prefix_of_bytes bytes prefix back sized.count same sized.whole in
    let parts = taken_apart bytes sized.count are in (
      take sized.count bytes,
      drop sized.count bytes,
      sym (take-append-drop sized.count bytes),
      one_tabled one (take sized.count bytes) parts.0 (subst (item.Spells one) at.1 spelled),
      all_tabled others (drop sized.count bytes) parts.1 (subst (SpellsAll item others) (left_of_bytes bytes prefix back sized.count same sized.whole at.0) more),
    )

-- and those that are items by the table are these
all_spelled : (all : List AppItem) (bytes : List ℕ) → AreBytes bytes → AreItemBytes all bytes → AreItems all bytes
all_spelled [] bytes are none = ap bits none ∙ no_bits
all_spelled (one ∷ others) bytes are (first, rest, whole, is, more) =
    let parts = bytes_apart first rest (subst AreBytes whole are) in
    (bits first, bits rest, one_spelled one first parts.0 is, all_spelled others rest parts.1 more, ap bits whole ∙ bits_joined first rest)

-- so the table says which items bytes are
pub items_tabled : (all : List AppItem) (bytes : List ℕ) → AreBytes bytes → AreItems all bytes ↔ AreItemBytes all bytes
items_tabled all bytes are = (all_tabled all bytes are, all_spelled all bytes are)
