-- An item has one spelling, the one that is written of it: so what is read is written again by the same bytes.
use Rattle.std.proofs.Common.{◌≡◌, refl, sym, ◌∙◌, ap, ap₂, ℕ, Bool, List, [], ◌∷◌, ◌++◌, length, Option, Some}
use Rattle.std.specs.Prelude.{⊤, ◌==◌, ◌&&◌, nat_lt, nat_le, if◌then◌else◌}
use Rattle.std.specs.Int.{w16, w32, w64, from_le_bytes, to_le_bytes}
use Rattle.std.specs.Option.{option_map_or}
use Rattle.dwg_base.specs.Bytes.{AreBytes}
use Rattle.dwg_bits.specs.Bits.{bits, low_bits}
use Rattle.dwg_bits.specs.WholeBytes.{whole_bytes}
use Rattle.dwg_bits.proofs.BitLaws.{low_bits_of_num}
use Rattle.dwg_bits.proofs.WholeBytes.{whole_of_bits}
use Rattle.dwg_grammar.specs.Codes.{rc, rs, rl, rd, word_bytes}
use Rattle.dwg_grammar.specs.Combinators.{fixed, seq, image, restrict, chain, items, counted}
use Rattle.dwg_grammar.specs.Grammar.{Grammar, IsCode, AnyLetters}
use Rattle.dwg_grammar.specs.declared.points.Point3.{Point3}
use Rattle.dwg_grammar.specs.ToEnd.{SpellsAll, short_all}
use Rattle.dwg_grammar.proofs.CombinatorLemmas.{any_letters_closed, restrict_is_code, seq_is_code}
use Rattle.dwg_grammar.proofs.ListLemmas.{items_is_code}
use Rattle.dwg_grammar.proofs.NumberLemmas.{bytes_of_items, bytes_of_16, bytes_of_32, bytes_of_64, rc_is_code}
use Rattle.dwg_appitems.specs.declared.item.AppItem.{AppItem}
use Rattle.dwg_appitems.specs.declared.item.AppItem.TheVariants.{Text, Brace, Layer, Bytes, Object, Point, Word, Short, Long}
use Rattle.dwg_appitems.specs.Items.{variant, handle, marked_text, closing, words_of_point, text_in, brace_in, layer_in, bytes_in, object_in, point_in, word_in, short_in, long_in, item_by, code_of, item}
use Rattle.dwg_appitems.specs.ItemLists.{AreItems, items_bytes}
use Rattle.dwg_appitems.proofs.VariantLemmas.{of_chosen}
use Rattle.dwg_appitems.proofs.ItemLemmas.{marked, marked_is_code, byte_below_two, three_words, three_words_is_code, item_by_is_code, own_code}

-- a value has no spelling but the one that is written of it
abbrev pub IsExact : {V : Type 0} → Grammar Bool V → Type 0
IsExact {V} code = (value : V) (prefix : List Bool) → code.Spells value prefix → prefix ≡ code.short value

-- so have so many bits
fixed_exact : (count : ℕ) → IsExact (fixed count)
fixed_exact count value prefix spelled = sym (low_bits_of_num prefix) ∙ ap₂ low_bits spelled.0 (sym spelled.1)

-- values one after the other
all_exact : {V : Type 0} (code : Grammar Bool V) → IsExact code → (values : List V) (letters : List Bool) → SpellsAll code values letters → letters ≡ short_all code values
all_exact code exact [] letters spelled = spelled
all_exact code exact (value ∷ values) letters (prefix, back, one, others, same) = same ∙ ap₂ (λ first rest. first ++ rest) (exact value prefix one) (all_exact code exact values back others)

-- so many bytes
bytes_exact : (count : ℕ) → IsExact (items rc count)
unfolding chain
bytes_exact count bytes letters spelled = all_exact rc (fixed_exact 8) bytes letters spelled.1

-- one code and then another
seq_exact : {V W : Type 0} (first : Grammar Bool V) (second : V → Grammar Bool W) → IsExact first → ((value : V) → IsExact (second value)) → IsExact (seq first second)
seq_exact first second one two both letters (prefix, back, spelled, others, same) =
    same ∙ ap₂ (λ before after. before ++ after) (one both.0 prefix spelled) (two both.0 both.1 back others)

-- what a code's values are seen as, where each follows from what it is seen as
image_exact : {V W : Type 0} (into : V → W) (back : W → V) (code : Grammar Bool V) → IsCode AnyLetters code → IsExact code
    → ((value : V) → code.IsValue value → back (into value) ≡ value) → IsExact (image (λ value. ⊤) into back code)
image_exact into back code is exact same value prefix (inner, seen, spelled) =
    exact inner prefix spelled ∙ ap code.short (sym (same inner (is.value prefix inner spelled)) ∙ ap back (sym seen))

-- a variant of an enum
variant_exact : {V W : Type 0} (into : V → W) (inside : W → Option V) (code : Grammar Bool V) → IsExact code → ((held : V) → inside (into held) ≡ Some held) → IsExact (variant into inside code)
variant_exact {V} {W} into inside code exact reported value prefix (held, same, spelled) =
    exact held prefix spelled ∙ sym (ap (λ (one : Option V). option_map_or code.short one []) (ap inside same ∙ reported held))

-- RS, RL and RD
rs_exact : IsExact rs
unfolding chain
rs_exact = image_exact (from_le_bytes w16) (to_le_bytes w16) (items rc 2) (items_is_code AnyLetters rc 2 any_letters_closed rc_is_code) (bytes_exact 2)
    (λ bytes fits. (bytes_of_16 bytes fits.0 (bytes_of_items rc (λ value small. small) bytes fits.1)).1)

rl_exact : IsExact rl
unfolding chain
rl_exact = image_exact (from_le_bytes w32) (to_le_bytes w32) (items rc 4) (items_is_code AnyLetters rc 4 any_letters_closed rc_is_code) (bytes_exact 4)
    (λ bytes fits. (bytes_of_32 bytes fits.0 (bytes_of_items rc (λ value small. small) bytes fits.1)).1)

rd_exact : IsExact rd
unfolding chain word_bytes
rd_exact = image_exact (from_le_bytes w64) (to_le_bytes w64) (items rc 8) (items_is_code AnyLetters rc 8 any_letters_closed rc_is_code) (bytes_exact 8)
    (λ bytes fits. (bytes_of_64 bytes fits.0 (bytes_of_items rc (λ value small. small) bytes fits.1)).1)

-- a text
text_exact : IsExact marked_text
unfolding chain
text_exact =
    image_exact (λ parts. (parts.1.0, parts.1.1)) (λ both. (length both.1, (both.0, both.1))) (seq rc marked) marked_is_code
    (seq_exact rc marked (fixed_exact 8) (λ n. seq_exact (items rc 2) (λ mark. items rc n) (bytes_exact 2) (λ mark. bytes_exact n)))
    (λ parts fits. ap (λ (n : ℕ). (n, parts.1)) fits.1.1.0)

-- counted bytes
run_exact : IsExact (counted rc rc)
unfolding chain
run_exact =
    image_exact (λ both. both.1) (λ bytes. (length bytes, bytes)) (seq rc (items rc))
    (seq_is_code AnyLetters rc (items rc) any_letters_closed rc_is_code (λ n fits. items_is_code AnyLetters rc n any_letters_closed rc_is_code))
    (seq_exact rc (items rc) (fixed_exact 8) bytes_exact) (λ parts fits. ap (λ (n : ℕ). (n, parts.1)) fits.1.0)

-- a brace
closing_exact : IsExact closing
closing_exact =
    image_exact (λ byte. byte == 1) (λ close. if close then 1 else 0) (restrict (λ byte. nat_lt byte 2) rc)
    (restrict_is_code AnyLetters (λ byte. nat_lt byte 2) rc rc_is_code) (λ value prefix spelled. fixed_exact 8 value prefix spelled.1) (λ byte fits. byte_below_two byte fits.0)

-- a point
words_exact : IsExact words_of_point
words_exact =
    image_exact {W = Point3} (λ words. record { x = words.0; y = words.1.0; z = words.1.1 }) (λ point. (point.x, (point.y, point.z))) three_words three_words_is_code
    (seq_exact rd (λ x. seq rd (λ y. rd)) rd_exact (λ x. seq_exact rd (λ y. rd) rd_exact (λ y. rd_exact))) (λ words fits. refl)

-- what follows a code byte
after_exact : (code : ℕ) → IsExact (item_by code)
unfolding item_by
after_exact code =
    of_chosen IsExact (code == 0) _ _ (λ at. variant_exact (λ both. Text both.0 both.1) text_in marked_text text_exact (λ held. refl))
    (λ not. of_chosen IsExact (code == 2) _ _ (λ at. variant_exact Brace brace_in closing closing_exact (λ held. refl))
    (λ not. of_chosen IsExact (code == 3) _ _ (λ at. variant_exact Layer layer_in handle (fixed_exact 64) (λ held. refl))
    (λ not. of_chosen IsExact (code == 4) _ _ (λ at. variant_exact Bytes bytes_in (counted rc rc) run_exact (λ held. refl))
    (λ not. of_chosen IsExact (code == 5) _ _ (λ at. variant_exact Object object_in handle (fixed_exact 64) (λ held. refl))
    (λ not. of_chosen IsExact (nat_le 10 code && nat_le code 13) _ _ (λ at. variant_exact (Point code) point_in words_of_point words_exact (λ held. refl))
    (λ not. of_chosen IsExact (nat_le 40 code && nat_le code 42) _ _ (λ at. variant_exact (Word code) word_in rd rd_exact (λ held. refl))
    (λ not. of_chosen IsExact (code == 70) _ _ (λ at. variant_exact Short short_in rs rs_exact (λ held. refl))
    (λ not. of_chosen IsExact (code == 71) _ _ (λ at. variant_exact Long long_in rl rl_exact (λ held. refl)) (λ not value prefix spelled. absurd spelled)))))))))

-- an item
pub item_exact : IsExact item
unfolding item
item_exact value letters (code, prefix, back, tagged, spelled, same) =
    let own : code_of value ≡ code = (own_code code value ((item_by_is_code code).value back value spelled)).0 in
    same ∙ ap₂ (λ first rest. first ++ rest) (fixed_exact 8 code prefix tagged) (after_exact code value back spelled)
    ∙ ap (λ n. rc.short n ++ (item_by n).short value) (sym own)

-- bytes that are items are what is written of these items
pub items_again : (all : List AppItem) (bytes : List ℕ) → AreBytes bytes → AreItems all bytes → items_bytes all ≡ bytes
items_again all bytes small are = ap whole_bytes (sym (all_exact item item_exact all (bits bytes) are)) ∙ whole_of_bits bytes small
