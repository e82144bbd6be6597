-- The items that are computed of bytes are those that the bytes are.
use Rattle.std.proofs.Common.{◌≡◌, refl, sym, ap, ◌∙◌, subst, ℕ, suc, ◌<◌, Bool, List, [], ◌∷◌, ◌++◌, length, Option, Some, None, arith}
use Rattle.std.specs.Prelude.{option_map}
use Rattle.std.proofs.lemmas.List.{append-nil}
use Rattle.dwg_bits.specs.Bits.{bits}
use Rattle.dwg_grammar.specs.MakingBodies.{parse_to_end}
use Rattle.dwg_grammar.specs.ToEnd.{SpellsAll}
use Rattle.dwg_grammar.proofs.CombinatorLemmas.{option_map_some}
use Rattle.dwg_grammar.proofs.ToEndBodies.{to_end_sound, to_end_complete}
use Rattle.dwg_appitems.specs.declared.item.AppItem.{AppItem}
use Rattle.dwg_appitems.specs.AppFindings.{items_in}
use Rattle.dwg_appitems.specs.Items.{item}
use Rattle.dwg_appitems.specs.ItemLists.{AreItems}
use Rattle.dwg_appitems.proofs.ItemPrefixes.{item_least}
use Rattle.dwg_appitems.proofs.ItemLemmas.{item_is_code}

-- letters of which fewer than one are left are all
none_left : (letters prefix left : List Bool) → letters ≡ prefix ++ left → length left < 1 → letters ≡ prefix
none_left letters prefix [] whole few = whole ∙ append-nil prefix
none_left letters prefix (x ∷ left) whole few = absurd (omega (arith, few))

-- what is computed, the bytes are
pub computed_are : (bytes : List ℕ) (all : List AppItem) → items_in bytes ≡ Some all → AreItems all bytes
unfolding items_in
computed_are bytes all is =
    option_map_some (λ (found : List AppItem × List Bool). found.0) (parse_to_end 1 item (suc (length (bits bytes))) (bits bytes)) all is
    (λ found parsed same.
    let cut = to_end_sound 1 item (suc (length (bits bytes))) (bits bytes) found item_is_code parsed in
    subst (λ (values : List AppItem). AreItems values bytes) same
    (subst (SpellsAll item found.0) (sym (none_left (bits bytes) cut.prefix found.1 cut.whole cut.short)) cut.spelled))

-- and what the bytes are is computed
pub are_computed : (bytes : List ℕ) (all : List AppItem) → AreItems all bytes → items_in bytes ≡ Some all
unfolding items_in
are_computed bytes all are =
    ap (λ (letters : List Bool). option_map (λ (found : List AppItem × List Bool). found.0) (parse_to_end 1 item (suc (length (bits bytes))) letters)) (sym (append-nil (bits bytes)))
    ∙ ap (option_map (λ (found : List AppItem × List Bool). found.0))
    (to_end_complete 1 item all (bits bytes) [] (suc (length (bits bytes))) item_is_code item_least (omega arith) are (omega arith) (omega arith))

-- where the bytes are no items nothing is computed
pub none_computed : (bytes : List ℕ) → ((all : List AppItem) → AreItems all bytes → ⊥) → items_in bytes ≡ None
none_computed bytes none = go (items_in bytes) refl
  where
    go : (found : Option (List AppItem)) → items_in bytes ≡ found → items_in bytes ≡ None
    go None is = is
    go (Some all) is = absurd (none all (computed_are bytes all is))
