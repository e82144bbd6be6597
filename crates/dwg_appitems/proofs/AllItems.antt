-- Items counted and written, one by one.
use Rattle.std.proofs.Common.{◌≡◌, refl, sym, ◌∙◌, ap, subst, ℕ, ◌+◌, ◌*◌, ◌%◌, ◌<◌, ◌≤◌, Bool, List, [], ◌∷◌, ◌++◌, length, drop, get_or, arith}
use Rattle.std.specs.List.{AllByRecursion}
use Rattle.std.proofs.lemmas.List.{append-nil, length-append, drop_more, drop_all}
use Rattle.dwg_bits.specs.Bits.{bits}
use Rattle.dwg_bits.specs.Sink.{Written, Extends}
use Rattle.dwg_bits.proofs.SinkLemmas.{extends_by_none}
use Rattle.dwg_bits.proofs.WholeBytes.{bits_of_whole, length_of_whole}
use Rattle.dwg_grammar.specs.Grammar.{AnyLetters}
use Rattle.dwg_grammar.specs.ToEnd.{SpellsAll, AreValues, short_all}
use Rattle.dwg_grammar.proofs.ToEndLemmas.{canonical_all, value_all}
use Rattle.dwg_appitems.specs.declared.item.AppItem.{AppItem}
use Rattle.dwg_appitems.specs.Items.{item}
use Rattle.dwg_appitems.specs.ItemLists.{AreItems, CanBeWritten, items_bytes}
use Rattle.dwg_appitems.proofs.ItemLemmas.{item_is_code, item_can_be_written}
use Rattle.dwg_appitems.proofs.ItemWriting.{length_of_item}

-- items can be written
abbrev CanAllBeWritten : List AppItem → Type 0
CanAllBeWritten all = AllByRecursion CanBeWritten all

-- items are written by whole bytes
whole_items : (all : List AppItem) → CanAllBeWritten all → length (short_all item all) % 8 ≡ 0
whole_items [] can = refl
whole_items (one ∷ all) can =
    omega (arith, length-append (item.short one) (short_all item all), length_of_item one can.0, whole_items all can.1)

-- what is an item can be written
all_can_be_written : (all : List AppItem) → AreValues item all → CanAllBeWritten all
all_can_be_written [] are = tt
all_can_be_written (one ∷ all) are = (item_can_be_written one are.0, all_can_be_written all are.1)

-- what is written of items are the bits of their bytes
pub bits_of_items : (all : List AppItem) → AllByRecursion CanBeWritten all → short_all item all ≡ bits (items_bytes all)
bits_of_items all can = sym (bits_of_whole (short_all item all) (whole_items all can))

-- and these are the items
pub items_whole : (all : List AppItem) → AreValues item all → AreItems all (items_bytes all)
items_whole all are = subst (SpellsAll item all) (bits_of_items all (all_can_be_written all are)) (canonical_all AnyLetters item all item_is_code are)

-- the bytes of items are an eighth of their bits
bytes_of_items : (all : List AppItem) → CanAllBeWritten all → length (short_all item all) ≡ 8 * length (items_bytes all)
bytes_of_items all can = length_of_whole (short_all item all) (whole_items all can)

-- so has each count of their bytes
pub items_counted : (all : List AppItem) (count : ℕ) → CanAllBeWritten all → count ≡ length (items_bytes all) → length (short_all item all) ≡ 8 * count
items_counted all count can same = omega (arith, same, bytes_of_items all can)

-- items that bytes are can be written
pub items_can_be_written : (all : List AppItem) (bytes : List ℕ) → AreItems all bytes → AllByRecursion CanBeWritten all
items_can_be_written all bytes are = all_can_be_written all (value_all AnyLetters item all (bits bytes) item_is_code are)

-- what is left from a place on is the item there and what is left after it
left_at : (all : List AppItem) (i : ℕ) (one : AppItem) → i < length all → one ≡ get_or all i one → drop i all ≡ one ∷ drop (i + 1) all
left_at all i one inside here = drop_more all i one inside ∙ ap (λ (first : AppItem). first ∷ drop (i + 1) all) (sym here)

-- the item at a place can be written, where those from there on can
pub one_can_be_written : (all : List AppItem) (i : ℕ) (one : AppItem) → i < length all → one ≡ get_or all i one → AllByRecursion CanBeWritten (drop i all) → CanBeWritten one
one_can_be_written all i one inside here can = (subst CanAllBeWritten (left_at all i one inside here) can).0

-- items are counted up to those that are left: so many bytes so far and theirs are all
pub record AreCountedSoFar (all left : List AppItem) (count : ℕ) : Type 0 where
  pub can : AllByRecursion CanBeWritten left
  pub bits : length (short_all item all) ≡ 8 * count + length (short_all item left)

-- at the begin none is counted
pub none_counted : (all : List AppItem) → AllByRecursion CanBeWritten all → AreCountedSoFar all (drop 0 all) 0
none_counted all can = record { can = can; bits = omega arith }

-- with the first of those that are left counted, those after it are left
one_counted : (all left : List AppItem) (one : AppItem) (count more : ℕ) → length (item.short one) ≡ 8 * more → AreCountedSoFar all (one ∷ left) count → AreCountedSoFar all left (count + more)
one_counted all left one count more same counted = record {
  can = counted.can.1;
  bits = omega (arith, same, counted.bits, length-append (item.short one) (short_all item left));
}

-- the same by its place
pub counted_at : (all : List AppItem) (i : ℕ) (one : AppItem) (count more : ℕ) → i < length all → one ≡ get_or all i one → length (item.short one) ≡ 8 * more
    → AreCountedSoFar all (drop i all) count → AreCountedSoFar all (drop (i + 1) all) (count + more)
counted_at all i one count more inside here same counted =
    one_counted all (drop (i + 1) all) one count more same (subst (λ (left : List AppItem). AreCountedSoFar all left count) (left_at all i one inside here) counted)

-- and it has no more bytes than all
pub counted_within : (all : List AppItem) (i : ℕ) (one : AppItem) (count more : ℕ) → AllByRecursion CanBeWritten all → i < length all → one ≡ get_or all i one → length (item.short one) ≡ 8 * more
    → AreCountedSoFar all (drop i all) count → count + more ≤ length (items_bytes all)
counted_within all i one count more can inside here same counted =
    let after = counted_at all i one count more inside here same counted in
    omega (arith, after.bits, bytes_of_items all can)

-- where none is left, all are counted
pub all_counted : (all : List AppItem) (i count : ℕ) → AllByRecursion CanBeWritten all → length all ≤ i → AreCountedSoFar all (drop i all) count → count ≡ length (items_bytes all)
all_counted all i count can past counted =
    omega (arith, counted.bits, bytes_of_items all can, ap (λ (left : List AppItem). length (short_all item left)) (drop_all i all past))

-- items are written up to those that are left: the sink grew by so many bits, these and what is written of those that are left are what is written of all, and all are items where those that are left are
pub record AreWrittenSoFar (all left : List AppItem) (old now : Written) : Type 0 where
  pub can : AllByRecursion CanBeWritten left
  pub are : AreValues item left → AreValues item all
  pub done : List Bool
  pub grown : Extends old now done
  pub whole : short_all item all ≡ done ++ short_all item left

-- at the begin none is written
pub none_written : (all : List AppItem) (sink : Written) → AllByRecursion CanBeWritten all → AreWrittenSoFar all (drop 0 all) sink sink
none_written all sink can = record {
  can = can;
  are = λ fit. fit;
  done = [];
  grown = extends_by_none sink;
  whole = refl;
}

-- there is room for the item at a place, where there was room for all
pub room_at : (all : List AppItem) (i : ℕ) (one : AppItem) (old mid : Written) → i < length all → one ≡ get_or all i one → length (short_all item all) ≤ old.spare
    → AreWrittenSoFar all (drop i all) old mid → length (item.short one) ≤ mid.spare
room_at all i one old mid inside here room so_far =
    let left = drop (i + 1) all in
    let whole : short_all item all ≡ so_far.done ++ (item.short one ++ short_all item left) =
    so_far.whole ∙ ap (λ (rest : List AppItem). so_far.done ++ short_all item rest) (left_at all i one inside here) in
    omega (
      arith,
      room,
      so_far.grown.spare,
      ap length whole,
      length-append so_far.done (item.short one ++ short_all item left),
      length-append (item.short one) (short_all item left),
    )

-- where none is left, all are written
pub all_written : (all : List AppItem) (i : ℕ) (old new : Written) → length all ≤ i → AreWrittenSoFar all (drop i all) old new → Extends old new (short_all item all)
all_written all i old new past so_far =
    let whole : short_all item all ≡ so_far.done =
    so_far.whole ∙ ap (λ (rest : List AppItem). so_far.done ++ short_all item rest) (drop_all i all past) ∙ append-nil so_far.done in
    subst (Extends old new) (sym whole) so_far.grown

-- and they are what is written of them
pub written_are : (all : List AppItem) (i : ℕ) (old new : Written) → length all ≤ i → AreWrittenSoFar all (drop i all) old new → AreItems all (items_bytes all)
written_are all i old new past so_far = items_whole all (so_far.are (subst (AreValues item) (sym (drop_all i all past)) tt))
