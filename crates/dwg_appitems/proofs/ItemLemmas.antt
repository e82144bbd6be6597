-- An item is a code: its parts are, and its code byte is reported by its variant.
use Rattle.std.proofs.Common.{◌≡◌, refl, sym, ap, subst, ℕ, ◌+◌, ◌^◌, ◌<◌, ◌≤◌, Bool, true, false, List, length, Option, arith}
use Rattle.std.specs.Prelude.{⊤, ◌==◌, ◌&&◌, nat_lt, nat_le, if◌then◌else◌}
use Rattle.std.proofs.lemmas.Bool.Decides.{nat_tests}
use Rattle.dwg_grammar.specs.Codes.{rc, rs, rl, rd}
use Rattle.dwg_grammar.specs.Combinators.{seq, restrict, items, chain, counted}
use Rattle.dwg_grammar.specs.Grammar.{Grammar, IsCode, AnyLetters}
use Rattle.dwg_grammar.proofs.CombinatorLemmas.{any_letters_closed, fixed_is_code, never_is_code, choose_is_code, restrict_is_code, seq_is_code, struct_is_code, tagged_is_code}
use Rattle.dwg_grammar.proofs.ListLemmas.{items_is_code, counted_is_code}
use Rattle.dwg_grammar.proofs.NumberLemmas.{rc_is_code, rs_is_code, rl_is_code, rd_is_code}
use Rattle.dwg_appitems.specs.declared.item.AppItem.{AppItem}
use Rattle.dwg_appitems.specs.declared.item.AppItem.TheVariants.{Text, Brace, Layer, Bytes, Object, Point, Word, Short, Long}
use Rattle.dwg_appitems.specs.Items.{variant, handle, marked_text, closing, words_of_point, text_in, brace_in, layer_in, bytes_in, object_in, point_in, word_in, short_in, long_in, item_by, code_of, item}
use Rattle.dwg_appitems.specs.ItemLists.{CanBeWritten}
use Rattle.dwg_appitems.proofs.VariantLemmas.{variant_is_code, of_chosen}

-- what a text is seen of: a count, and then a mark and so many bytes
abbrev pub marked : ℕ → Grammar Bool (List ℕ × List ℕ)
marked n = seq (items rc 2) (λ mark. items rc n)

-- it is a code
pub marked_is_code : IsCode AnyLetters (seq rc marked)
marked_is_code =
    seq_is_code AnyLetters rc marked any_letters_closed rc_is_code
    (λ n fits. seq_is_code AnyLetters (items rc 2) (λ mark. items rc n) any_letters_closed (items_is_code AnyLetters rc 2 any_letters_closed rc_is_code)
    (λ mark held. items_is_code AnyLetters rc n any_letters_closed rc_is_code))

-- so is the text
text_is_code : IsCode AnyLetters marked_text
unfolding chain
text_is_code =
    struct_is_code AnyLetters _ _ _ _ marked_is_code
    (λ parts fits.
    (fits.1.0, subst (λ n. (items rc n).IsValue parts.1.1) (sym fits.1.1.0) fits.1.1, subst (λ n. n < 2 ^ 8) (sym fits.1.1.0) fits.0))
    (λ both fits. ((fits.2, (fits.0, fits.1)), refl))
    (λ parts fits. ap (λ (n : ℕ). (n, parts.1)) fits.1.1.0)

-- a byte below 2 is reported by whether it is 1
pub byte_below_two : (byte : ℕ) → nat_lt byte 2 ≡ true → (if byte == 1 then 1 else 0) ≡ byte
byte_below_two byte small = grind (arith, nat_tests)

-- 0 or 1 is a code
closing_is_code : IsCode AnyLetters closing
closing_is_code =
    struct_is_code AnyLetters _ _ _ _ (restrict_is_code AnyLetters (λ byte. nat_lt byte 2) rc rc_is_code) (λ byte fits. tt) both (λ byte fits. byte_below_two byte fits.0)
  where
    both : (close : Bool) → ⊤ → (restrict (λ byte. nat_lt byte 2) rc).IsValue (if close then 1 else 0) × (((if close then 1 else 0) == 1) ≡ close)
    both true any = ((refl, omega arith), refl)
    both false any = ((refl, omega arith), refl)

-- three RDs, one after the other
abbrev pub three_words : Grammar Bool (ℕ × (ℕ × ℕ))
three_words = seq rd (λ x. seq rd (λ y. rd))

-- they are a code
pub three_words_is_code : IsCode AnyLetters three_words
three_words_is_code =
    seq_is_code AnyLetters rd (λ x. seq rd (λ y. rd)) any_letters_closed rd_is_code (λ x fits. seq_is_code AnyLetters rd (λ y. rd) any_letters_closed rd_is_code (λ y held. rd_is_code))

-- so is the point
words_is_code : IsCode AnyLetters words_of_point
words_is_code =
    struct_is_code AnyLetters _ _ _ _ three_words_is_code (λ words fits. record { x = fits.0; y = fits.1.0; z = fits.1.1 }) (λ point fits. ((fits.x, (fits.y, fits.z)), refl)) (λ words fits. refl)

-- what follows a code byte is a code
pub item_by_is_code : (code : ℕ) → IsCode AnyLetters (item_by code)
unfolding item_by
item_by_is_code code =
    choose_is_code AnyLetters (code == 0) _ _ (λ at. variant_is_code _ _ _ text_is_code (λ held. refl))
    (λ not. choose_is_code AnyLetters (code == 2) _ _ (λ at. variant_is_code _ _ _ closing_is_code (λ held. refl))
    (λ not. choose_is_code AnyLetters (code == 3) _ _ (λ at. variant_is_code _ _ _ (fixed_is_code 64) (λ held. refl))
    (λ not. choose_is_code AnyLetters (code == 4) _ _ (λ at. variant_is_code _ _ _ (counted_is_code AnyLetters rc rc any_letters_closed rc_is_code rc_is_code) (λ held. refl))
    (λ not. choose_is_code AnyLetters (code == 5) _ _ (λ at. variant_is_code _ _ _ (fixed_is_code 64) (λ held. refl))
    (λ not. choose_is_code AnyLetters (nat_le 10 code && nat_le code 13) _ _ (λ at. variant_is_code _ _ _ words_is_code (λ held. refl))
    (λ not. choose_is_code AnyLetters (nat_le 40 code && nat_le code 42) _ _ (λ at. variant_is_code _ _ _ rd_is_code (λ held. refl))
    (λ not. choose_is_code AnyLetters (code == 70) _ _ (λ at. variant_is_code _ _ _ rs_is_code (λ held. refl))
    (λ not. choose_is_code AnyLetters (code == 71) _ _ (λ at. variant_is_code _ _ _ rl_is_code (λ held. refl))
    (λ not. never_is_code AnyLetters)))))))))

-- an item has this code, and can be written
abbrev IsOwn : ℕ → AppItem → Type 0
IsOwn code value = (code_of value ≡ code) × CanBeWritten value

-- so has a variant, where it is so for all that it holds
own_variant : {V : Type 0} (code : ℕ) (into : V → AppItem) (inside : AppItem → Option V) (held_by : Grammar Bool V) (value : AppItem)
    → ((held : V) → held_by.IsValue held → IsOwn code (into held)) → (variant into inside held_by).IsValue value → IsOwn code value
own_variant code into inside held_by value own fits = subst (IsOwn code) (sym fits.1) (own fits.0 fits.2)

-- what follows a code byte has that code, and can be written
pub own_code : (code : ℕ) (value : AppItem) → (item_by code).IsValue value → IsOwn code value
unfolding item_by
own_code code value =
    let Holds : Grammar Bool AppItem → Type 0 = λ by. by.IsValue value → IsOwn code value in
    of_chosen Holds (code == 0) _ _ (λ at. own_variant code (λ both. Text both.0 both.1) text_in marked_text value (λ held fits. (grind (arith, nat_tests), fits.2)))
    (λ not. of_chosen Holds (code == 2) _ _ (λ at. own_variant code Brace brace_in closing value (λ held fits. (grind (arith, nat_tests), tt)))
    (λ not. of_chosen Holds (code == 3) _ _ (λ at. own_variant code Layer layer_in handle value (λ held fits. (grind (arith, nat_tests), tt)))
    (λ not. of_chosen Holds (code == 4) _ _ (λ at. own_variant code Bytes bytes_in (counted rc rc) value (λ held fits. (grind (arith, nat_tests), fits.0)))
    (λ not. of_chosen Holds (code == 5) _ _ (λ at. own_variant code Object object_in handle value (λ held fits. (grind (arith, nat_tests), tt)))
    (λ not. of_chosen Holds (nat_le 10 code && nat_le code 13) _ _
    (λ at. own_variant code (Point code) point_in words_of_point value (λ held fits. (refl, (grind (arith, nat_tests), grind (arith, nat_tests)))))
    (λ not. of_chosen Holds (nat_le 40 code && nat_le code 42) _ _
    (λ at. own_variant code (Word code) word_in rd value (λ held fits. (refl, (grind (arith, nat_tests), grind (arith, nat_tests)))))
    (λ not. of_chosen Holds (code == 70) _ _ (λ at. own_variant code Short short_in rs value (λ held fits. (grind (arith, nat_tests), tt)))
    (λ not. of_chosen Holds (code == 71) _ _ (λ at. own_variant code Long long_in rl value (λ held fits. (grind (arith, nat_tests), tt)))
    (λ not fits. absurd fits)))))))))

-- an item is a code
pub item_is_code : IsCode AnyLetters item
unfolding item
item_is_code =
    tagged_is_code AnyLetters rc item_by _ code_of any_letters_closed rc_is_code (λ code fits. item_by_is_code code)
    (λ code value fits held.
    let own = sym (own_code code value held).0 in
    (subst (λ n. n < 2 ^ 8) own fits, subst (λ n. (item_by n).IsValue value) own held))
    (λ value fits. fits)
    (λ code value fits held.
    subst (λ n. length (rc.short n) + length ((item_by n).short value) ≤ length (rc.short code) + length ((item_by code).short value))
    (sym (own_code code value held).0) (omega arith))

-- an item can be written
pub item_can_be_written : (value : AppItem) → item.IsValue value → CanBeWritten value
unfolding item
item_can_be_written value fits = (own_code (code_of value) value fits.1).1
