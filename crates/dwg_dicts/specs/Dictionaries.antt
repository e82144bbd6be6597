-- Dictionaries: names of objects (Open Design Specification, "DICTIONARY").
use Rattle.std.specs.Prelude.{ℕ, Bool, List, length, map}
use Rattle.dwg_common.specs.Members.{joined}
use Rattle.dwg_grammar.specs.Codes.{bl, rc, tv}
use Rattle.dwg_base.specs.declared.version.Version.{Version}
use Rattle.dwg_grammar.specs.Combinators.{◌⋄◌, seq, items}
use Rattle.dwg_grammar.specs.Grammar.{Grammar}
use Rattle.dwg_grammar.specs.ToEnd.{AreValues}
use Rattle.dwg_grammar.specs.Bodies.{BodyGrammar}
use Rattle.dwg_grammar.specs.MakingBodies.{body}
use Rattle.dwg_grammar.specs.References.{some_refs}
use Rattle.dwg_grammar.specs.Reference.{Reference}
use Rattle.dwg_grammar.specs.ReferenceCodes.{reference}
use Rattle.dwg_dicts.specs.Cloning.{cloning}
use Rattle.dwg_dicts.specs.declared.dictionary.DictItem.{DictItem}
use Rattle.dwg_dicts.specs.declared.dictionary.Dictionary.{Dictionary}

-- BL count of items; BS cloning, in AC1014 nothing; RC hard_owner
abbrev pub dictionary_start : Version → Grammar Bool (ℕ × (ℕ × ℕ))
dictionary_start version = bl ⋄ cloning version ⋄ rc

-- these; TV per name
abbrev pub dictionary_main : Version → Grammar Bool ((ℕ × (ℕ × ℕ)) × List (List ℕ))
dictionary_main version = seq (dictionary_start version) (λ start. items tv start.0)

-- the names of items, and their targets
abbrev pub names_of : List DictItem → List (List ℕ)
names_of listed = map (λ item. item.name) listed

abbrev pub targets_of : List DictItem → List Reference
targets_of listed = map (λ item. item.target) listed

-- an item of a name and a target
abbrev pub item_of : List ℕ → Reference → DictItem
item_of name target = record { name = name; target = target }

-- an item of each name and of the target that stands in its place
abbrev pub named_items : List (List ℕ) → List Reference → List DictItem
named_items names targets = joined item_of names targets

-- so many items by themselves: TV per name; target per item
abbrev pub items_alone : ℕ → ℕ → BodyGrammar (List DictItem)
items_alone base count = body (items tv count) (λ names. some_refs base count) named_items names_of targets_of

-- an item has a spelling: its name is a TV, and the code of its reference reaches its target
abbrev pub IsItem : ℕ → DictItem → Type 0
IsItem base item = tv.IsValue item.name × (reference base).IsValue item.target

-- each of the items has one
abbrev pub AreItems : ℕ → List DictItem → Type 0
AreItems base listed = AreValues tv (names_of listed) × AreValues (reference base) (targets_of listed)

-- the main bits; target per item
unfoldable pub dictionary_body : Version → ℕ → BodyGrammar Dictionary
dictionary_body version base =
    body (dictionary_main version) (λ parsed. some_refs base parsed.0.0)
    (λ ((count, (cloning, hard_owner)), names) targets. record { cloning = cloning; hard_owner = hard_owner; items = named_items names targets })
    (λ dictionary. ((length dictionary.items, (dictionary.cloning, dictionary.hard_owner)), names_of dictionary.items))
    (λ dictionary. targets_of dictionary.items)
