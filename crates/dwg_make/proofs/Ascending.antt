-- The handles of a made drawing ascend.
use Rattle.std.proofs.Common.{◌≡◌, refl, subst, ℕ, zero, suc, ◌+◌, ◌≤◌, ◌<◌, Bool, true, List, [], ◌∷◌, ◌++◌, arith}
use Rattle.std.specs.Prelude.{⊤, nat_le, ◌&&◌, map}
use Rattle.std.specs.List.{AllByRecursion, range_with_len}
use Rattle.std.proofs.lemmas.Bool.Decides.{nat_tests}
use Rattle.std.proofs.lemmas.List.Elements.{All-from_recursion}
use Rattle.std.proofs.lemmas.List.Kept.{AllPairs-cons}
use Rattle.dwg_object.specs.Objects.{ObjectValue, handle_of}
use Rattle.dwg_file.specs.Spelled.{AreAscending}
use Rattle.dwg_make.specs.Fixed.{block_control, layer_control, style_control, ltype_control, appid_control, dictionary, xrecord, layer, style, appid, ltype, block_header, attribute_definition, line_of_block, attribute, insert, controls, dictionaries, table_entries, model_space, paper_space, tag_block, tag_insert, fixed_objects, by_block, by_layer, continuous, model_header, model_begin, model_end, paper_header, paper_begin, paper_end, tag_header, tag_begin, tag_end, attributes_end}
use Rattle.dwg_make.specs.RandomEntities.{drawn_entity, further_entity}

-- handles from a number on, each above the one before
abbrev Ascend : ℕ → List ObjectValue → Type 0
Ascend low [] = ⊤
Ascend low (object ∷ objects) = (low ≤ handle_of object) × Ascend (handle_of object + 1) objects

-- all are above a lower number
above : (base low : ℕ) (objects : List ObjectValue) → base < low → Ascend low objects → AllByRecursion (λ other. base < handle_of other) objects
above base low [] less ascend = tt
above base low (object ∷ objects) less ascend = (omega (arith, ascend.0), above base (handle_of object + 1) objects (omega (arith, ascend.0)) ascend.1)

-- so they ascend
pairs_ascend : (low : ℕ) (objects : List ObjectValue) → Ascend low objects → AreAscending objects
pairs_ascend low [] ascend = λ i j d less within. absurd (omega arith)
pairs_ascend low (object ∷ objects) ascend =
    AllPairs-cons (λ one other. handle_of one < handle_of other) object objects
    (All-from_recursion (λ other. handle_of object < handle_of other) objects (above (handle_of object) (handle_of object + 1) objects (omega arith) ascend.1))
    (pairs_ascend (handle_of object + 1) objects ascend.1)

-- a test of it, and the number from which handles may follow
abbrev ascends : ℕ → List ObjectValue → Bool
ascends low [] = true
ascends low (object ∷ objects) = nat_le low (handle_of object) && ascends (handle_of object + 1) objects

abbrev end_of : ℕ → List ObjectValue → ℕ
end_of low [] = low
end_of low (object ∷ objects) = end_of (handle_of object + 1) objects

prefix_ascends : (low : ℕ) (prefix back : List ObjectValue) → ascends low prefix ≡ true → Ascend (end_of low prefix) back → Ascend low (prefix ++ back)
prefix_ascends low [] back passed after = after
prefix_ascends low (object ∷ objects) back passed after = (grind (arith, nat_tests), prefix_ascends (handle_of object + 1) objects back (grind (arith, nat_tests)) after)

-- the further entities
further_ascends : (count seed from left : ℕ) → Ascend (0x30 + from) (map (further_entity count seed) (range_with_len from left))
unfolding further_entity drawn_entity
further_ascends count seed from zero = tt
further_ascends count seed from (suc left) =
    let same : 0x30 + (from + 1) ≡ 0x30 + from + 1 = omega arith in
    (omega arith, subst (λ low. Ascend low (map (further_entity count seed) (range_with_len (from + 1) left))) same (further_ascends count seed (from + 1) left))

-- all objects
pub all_ascend : (count seed : ℕ) → AreAscending (fixed_objects count ++ map (further_entity count seed) (range_with_len 1 count))
unfolding fixed_objects controls dictionaries table_entries model_space paper_space tag_block tag_insert block_control layer_control style_control ltype_control appid_control dictionary xrecord layer style appid ltype block_header attribute_definition line_of_block attribute insert by_block by_layer continuous model_header model_begin model_end paper_header paper_begin paper_end tag_header tag_begin tag_end attributes_end
all_ascend count seed =
    pairs_ascend 0 (fixed_objects count ++ map (further_entity count seed) (range_with_len 1 count))
    (prefix_ascends 0 (fixed_objects count) (map (further_entity count seed) (range_with_len 1 count)) refl (further_ascends count seed 1 count))
