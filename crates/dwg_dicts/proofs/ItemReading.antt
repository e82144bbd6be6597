-- Items of a dictionary read one after the other, the name of each among the main bits and its target among the references.
use Rattle.std.proofs.Common.{◌≡◌, refl, ◌∙◌, ap, ap₂, ℕ, Bool, List, [], ◌∷◌, ◌++◌, map, Option, Some, None}
use Rattle.std.specs.Prelude.{option_and_then}
use Rattle.std.specs.Option.{option_map}
use Rattle.std.proofs.lemmas.List.{map-append}
use Rattle.dwg_base.specs.declared.version.Version.{Version}
use Rattle.dwg_common.proofs.MemberLemmas.{joined_again}
use Rattle.dwg_grammar.specs.Codes.{tv}
use Rattle.dwg_grammar.specs.Combinators.{items}
use Rattle.dwg_grammar.specs.Reference.{Reference}
use Rattle.dwg_grammar.specs.ReferenceCodes.{reference}
use Rattle.dwg_dicts.specs.declared.dictionary.DictItem.{DictItem}
use Rattle.dwg_dicts.specs.declared.dictionary.Dictionary.{Dictionary}
use Rattle.dwg_dicts.specs.Dictionaries.{dictionary_start, item_of, named_items, names_of, targets_of, items_alone, dictionary_body}

-- names and targets, as they are found in their places
abbrev both_found : List (List ℕ) × List Bool → List Reference × List Bool → List DictItem × (List Bool × List Bool)
both_found names targets = (named_items names.0 targets.0, (names.1, targets.1))

-- a part of items and of an item more
pub part_more : {V W : Type 0} (part : V → W) (found more : List V) (value : V) → more ≡ found ++ value ∷ [] → map part more ≡ map part found ++ part value ∷ []
part_more part found more value pushed = ap (map part) pushed ∙ map-append part found (value ∷ [])

-- where the names aren't parsed, the items aren't
pub names_missing : (base count : ℕ) (main references : List Bool) → (items tv count).parse main ≡ None → (items_alone base count).parse main references ≡ None
names_missing base count main references missing =
    ap (option_and_then (λ (one : List (List ℕ) × List Bool). option_map (both_found one) ((items (reference base) count).parse references))) missing

-- nor where the targets aren't
pub targets_missing : (base count : ℕ) (main references : List Bool) → (items (reference base) count).parse references ≡ None → (items_alone base count).parse main references ≡ None
targets_missing base count main references missing =
    ap (λ (targets : Option (List Reference × List Bool)). option_and_then (λ (one : List (List ℕ) × List Bool). option_map (both_found one) targets) ((items tv count).parse main)) missing
    ∙ no_targets ((items tv count).parse main)
  where
    no_targets : (names : Option (List (List ℕ) × List Bool)) → option_and_then (λ (one : List (List ℕ) × List Bool). option_map (both_found one) None) names ≡ None
    no_targets None = refl
    no_targets (Some names) = refl

-- where the names and the targets of items are parsed, these are
pub all_found : (base count : ℕ) (found : List DictItem) (main main_left references references_left : List Bool) → (items tv count).parse main ≡ Some (names_of found, main_left)
    → (items (reference base) count).parse references ≡ Some (targets_of found, references_left)
    → (items_alone base count).parse main references ≡ Some (found, (main_left, references_left))
all_found base count found main main_left references references_left names targets =
    ap₂ (λ (one : Option (List (List ℕ) × List Bool)) (other : Option (List Reference × List Bool)). option_and_then (λ (one : List (List ℕ) × List Bool). option_map (both_found one) other) one)
    names targets
    ∙ ap (λ (all : List DictItem). Some (all, (main_left, references_left))) (joined_again item_of (λ item. item.name) (λ item. item.target) (λ item. refl) found)

-- a dictionary of what it begins with and of its items, as they are found
abbrev pub seen_as : ℕ × (ℕ × ℕ) → List DictItem × (List Bool × List Bool) → Dictionary × (List Bool × List Bool)
seen_as start found = (record { cloning = start.1.0; hard_owner = start.1.1; items = found.0 }, found.1)

-- whether the start is put before the names or of the items makes no difference
start_before : (start : ℕ × (ℕ × ℕ)) (names : Option (List (List ℕ) × List Bool)) (targets : ℕ → Option (List Reference × List Bool))
    → option_and_then (λ (parsed : ((ℕ × (ℕ × ℕ)) × List (List ℕ)) × List Bool). option_map (λ (named : List Reference × List Bool). seen_as parsed.0.0 (both_found (parsed.0.1, parsed.1) named)) (targets parsed.0.0.0))
    (option_map (λ (one : List (List ℕ) × List Bool). ((start, one.0), one.1)) names)
    ≡ option_map (seen_as start) (option_and_then (λ (one : List (List ℕ) × List Bool). option_map (both_found one) (targets start.0)) names)
start_before start None targets = refl
start_before start (Some names) targets =
    elim (targets start.0) as (λ found.
    option_map (λ (named : List Reference × List Bool). seen_as start (both_found names named)) found ≡ option_map (seen_as start) (option_map (both_found names) found))
    [ None ↦ refl | Some others ↦ refl ]

-- so a dictionary is parsed by what it begins with and then its items
pub dictionary_parsed : (version : Version) (base : ℕ) (main references : List Bool)
    → (dictionary_body version base).parse main references
    ≡ option_and_then (λ (one : (ℕ × (ℕ × ℕ)) × List Bool). option_map (seen_as one.0) ((items_alone base one.0.0).parse one.1 references)) ((dictionary_start version).parse main)
unfolding dictionary_body
dictionary_parsed version base main references =
    elim ((dictionary_start version).parse main) as (λ begun.
    option_and_then (λ (parsed : ((ℕ × (ℕ × ℕ)) × List (List ℕ)) × List Bool).
    option_map (λ (named : List Reference × List Bool). seen_as parsed.0.0 (both_found (parsed.0.1, parsed.1) named)) ((items (reference base) parsed.0.0.0).parse references))
    (option_and_then (λ (one : (ℕ × (ℕ × ℕ)) × List Bool). option_map (λ (two : List (List ℕ) × List Bool). ((one.0, two.0), two.1)) ((items tv one.0.0).parse one.1)) begun)
    ≡ option_and_then (λ (one : (ℕ × (ℕ × ℕ)) × List Bool). option_map (seen_as one.0) ((items_alone base one.0.0).parse one.1 references)) begun)
    [ None ↦ refl | Some one ↦ start_before one.0 ((items tv one.0.0).parse one.1) (λ (count : ℕ). (items (reference base) count).parse references) ]
