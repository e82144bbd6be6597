-- Items at the begin of bytes: an item is read of the first 259 bytes, since none has more.
use Rattle.std.proofs.Common.{◌≡◌, refl, sym, ◌∙◌, ap, ap₂, subst, ℕ, ◌+◌, ◌-◌, ◌*◌, ◌/◌, ◌<◌, ◌≤◌, Bool, List, [], ◌∷◌, ◌++◌, length, take, drop, Option, Some, None, arith}
use Rattle.std.specs.Option.{option_map}
use Rattle.std.proofs.lemmas.List.{append-nil, length-append, length-take-le, take-append-drop, take_at, drop-drop, drop_all, take-take}
use Rattle.dwg_bits.specs.Bits.{bits}
use Rattle.dwg_bits.proofs.BitLaws.{length_of_bits, bits_joined, bits_between_all}
use Rattle.dwg_bits.specs.Cursor.{bits_between}
use Rattle.dwg_grammar.specs.Grammar.{AnyLetters, BeginsWith, Reads}
use Rattle.dwg_grammar.specs.ToEnd.{SpellsAll, SpellsToEnd, HaveLeast}
use Rattle.dwg_grammar.proofs.BodyReading.{parsed_read, parsed_unread}
use Rattle.dwg_grammar.proofs.ToEndLemmas.{cut_uniquely, no_cut_to_end}
use Rattle.dwg_codes.proofs.ListReading.{AreRead, one_more}
use Rattle.dwg_appitems.specs.declared.item.AppItem.{AppItem}
use Rattle.dwg_appitems.specs.Items.{item}
use Rattle.dwg_appitems.specs.ItemPrefix.{IsPrefix, ReadsItem}
use Rattle.dwg_appitems.specs.ItemLists.{AreItems}
use Rattle.dwg_appitems.proofs.ItemLemmas.{item_is_code}
use Rattle.dwg_appitems.proofs.ItemCounts.{item_counted}

-- the bits of bytes are those of the first so many, and those of the others
pub bits_split : (bytes : List ℕ) (n : ℕ) → bits bytes ≡ bits (take n bytes) ++ bits (drop n bytes)
bits_split bytes n = ap bits (sym (take-append-drop n bytes)) ∙ bits_joined (take n bytes) (drop n bytes)

-- a prefix of so many bytes is the bits of the first so many
pub prefix_of_bytes : (bytes : List ℕ) (prefix rest : List Bool) (n : ℕ) → bits bytes ≡ prefix ++ rest → length prefix ≡ 8 * n → (n ≤ length bytes) × (prefix ≡ bits (take n bytes))
prefix_of_bytes bytes prefix rest n same counted =
    let within : n ≤ length bytes = omega (arith, counted, ap length same, length-append prefix rest, length_of_bits bytes) in
    let long : length (bits (take n bytes)) ≡ 8 * n = length_of_bits (take n bytes) ∙ ap (λ m. 8 * m) (length-take-le n bytes within) in
    (within, sym (take_at prefix rest (8 * n) counted) ∙ ap (take (8 * n)) (sym same ∙ bits_split bytes n) ∙ take_at (bits (take n bytes)) (bits (drop n bytes)) (8 * n) long)

-- an item that was read of the first 259 bytes stands at the begin of all
pub prefix_read : (bytes piece : List ℕ) (value : AppItem) (new : List Bool) (moved : ℕ) → piece ≡ take 259 bytes → Reads item (Some value) (bits piece) new
    → moved + length new ≡ 8 * length piece → IsPrefix bytes value (moved / 8)
prefix_read bytes piece value new moved cut (prefix, spelled, same) place =
    let sized = item_counted value prefix spelled in
    let all = prefix_of_bytes piece prefix new sized.count same sized.whole in
    let count : sized.count ≡ moved / 8 = omega (arith, sized.whole, place, ap length same, length-append prefix new, length_of_bits piece) in
    let first : prefix ≡ bits (take sized.count bytes) =
    all.1 ∙ ap bits (ap (take sized.count) cut ∙ take-take sized.count 259 bytes sized.few) in
    subst (IsPrefix bytes value) count
    (record {
      spelled = subst (item.Spells value) first spelled;
      some = omega (arith, sized.some);
      within = omega (arith, all.0, ap length cut, ap length (take-append-drop 259 bytes), length-append (take 259 bytes) (drop 259 bytes));
    })

-- where none was read of them none stands there
pub prefix_unread : (bytes piece : List ℕ) (left : List Bool) → piece ≡ take 259 bytes → Reads item None (bits piece) left → BeginsWith item (bits bytes) → ⊥
prefix_unread bytes piece left cut none (value, prefix, rest, spelled, same) =
    let sized = item_counted value prefix spelled in
    let all = prefix_of_bytes bytes prefix rest sized.count same sized.whole in
    let first : bits (take sized.count piece) ≡ prefix =
    ap bits (ap (take sized.count) cut ∙ take-take sized.count 259 bytes sized.few) ∙ sym all.1 in
    none.0 (value, prefix, bits (drop sized.count piece), spelled, bits_split piece sized.count ∙ ap (λ bits_of. bits_of ++ bits (drop sized.count piece)) first)

-- a cursor over all bytes has their bits left
pub all_left : (bytes own : List ℕ) (place end : ℕ) → own ≡ bytes → place ≡ 0 → end ≡ 8 * length bytes → bits_between own place end ≡ bits bytes
all_left bytes own place end same first last =
    ap (λ (all : List ℕ). bits_between all place end) same ∙ ap₂ (λ from to. bits_between bytes from to) first last ∙ bits_between_all bytes (8 * length bytes) refl

-- so an item that was parsed of the first 259 bytes is read at the begin of all
pub prefix_parsed : (bytes piece : List ℕ) (found : Option AppItem) (value : AppItem) (old new : List Bool) (end moved : ℕ) → piece ≡ take 259 bytes → old ≡ bits piece → found ≡ Some value
    → item.parse old ≡ option_map (λ one. (one, new)) found → end ≡ 8 * length piece → length new ≡ end - moved → moved ≤ end → ReadsItem (Some (value, moved / 8)) bytes
prefix_parsed bytes piece found value old new end moved cut all is was last left within =
    prefix_read bytes piece value new moved cut (subst (λ letters. Reads item (Some value) letters new) all (parsed_read item found value old new item_is_code is was))
    (omega (arith, last, left, within))

-- and where none was parsed none stands there
pub prefix_unparsed : (bytes piece : List ℕ) (found : Option AppItem) (old new : List Bool) → piece ≡ take 259 bytes → old ≡ bits piece → found ≡ None
    → item.parse old ≡ option_map (λ one. (one, new)) found → ReadsItem None bytes
prefix_unparsed bytes piece found old new cut all is was =
    prefix_unread bytes piece old cut (subst (λ letters. Reads item None letters old) all (parsed_unread item found old new item_is_code is was))

-- an item more is read
pub one_so_far : (found more : List AppItem) (value : AppItem) (bytes left : List ℕ) (at count : ℕ) → more ≡ found ++ value ∷ [] → left ≡ drop at bytes → IsPrefix left value count
    → AreRead item found (bits bytes) (bits (drop at bytes)) → AreRead item more (bits bytes) (bits (drop (at + count) bytes))
one_so_far found more value bytes left at count pushed here prefix so_far =
    one_more item found more value (bits bytes) (bits (drop at bytes)) (bits (drop (at + count) bytes)) pushed so_far (
      bits (take count left),
      prefix.spelled,
      ap bits (sym here) ∙ bits_split left count ∙ ap (λ (after : List ℕ). bits (take count left) ++ bits after) (ap (drop count) here ∙ drop-drop count at bytes),
    )

-- items after which no byte is left are all of the bytes
pub all_so_far : (all : List AppItem) (bytes : List ℕ) (at : ℕ) → length bytes ≤ at → AreRead item all (bits bytes) (bits (drop at bytes)) → AreItems all bytes
unfolding bits
all_so_far all bytes at past so_far =
    subst (SpellsAll item all) (sym (so_far.whole ∙ ap (λ (after : List ℕ). so_far.prefix ++ bits after) (drop_all at bytes past) ∙ append-nil so_far.prefix)) so_far.spelled

-- bytes that are items are cut to their end
pub items_to_end : (all : List AppItem) (bytes : List ℕ) → AreItems all bytes → SpellsToEnd 1 item all (bits bytes) []
items_to_end all bytes are = record { prefix = bits bytes; spelled = are; whole = sym (append-nil (bits bytes)); short = omega arith }

-- where no item begins what is left, the bytes are no items
pub none_after_them : (before all : List AppItem) (bytes left : List ℕ) (at : ℕ) → at < length bytes → left ≡ drop at bytes → AreRead item before (bits bytes) (bits (drop at bytes))
    → (BeginsWith item (bits left) → ⊥) → AreItems all bytes → ⊥
none_after_them before all bytes left at inside here so_far none are =
    let some : 1 ≤ length (bits left) =
    omega (arith, inside, length_of_bits left, ap length here, ap length (take-append-drop at bytes), length-append (take at bytes) (drop at bytes), length-take-le at bytes (omega (arith, inside))) in
    no_cut_to_end AnyLetters 1 item item_is_code before (bits bytes) so_far.prefix (bits left) so_far.spelled
    (so_far.whole ∙ ap (λ (after : List ℕ). so_far.prefix ++ bits after) (sym here)) some none all [] (items_to_end all bytes are)

-- an item has some bits
pub item_least : HaveLeast 1 item
item_least value prefix spelled = let sized = item_counted value prefix spelled in omega (arith, sized.whole, sized.some)

-- bytes are at most one list of items
pub items_unique : (all others : List AppItem) (bytes : List ℕ) → AreItems all bytes → AreItems others bytes → all ≡ others
items_unique all others bytes are other =
    (cut_uniquely AnyLetters 1 item item_is_code item_least all others (bits bytes) [] [] (items_to_end all bytes are) (items_to_end others bytes other)).0
