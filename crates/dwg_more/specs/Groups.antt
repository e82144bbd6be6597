-- GROUP (Open Design Specification, "GROUP").
use Rattle.std.specs.Prelude.{ℕ, Bool, List, length}
use Rattle.dwg_grammar.specs.Codes.{bs, bl, tv}
use Rattle.dwg_grammar.specs.Combinators.{◌⋄◌}
use Rattle.dwg_grammar.specs.Grammar.{Grammar}
use Rattle.dwg_grammar.specs.Bodies.{BodyGrammar}
use Rattle.dwg_grammar.specs.MakingBodies.{body}
use Rattle.dwg_grammar.specs.References.{some_refs}
use Rattle.dwg_more.specs.declared.group.Group.{Group}

-- TV name; BS unnamed; BS selectable; BL count of entries
abbrev pub group_main : Grammar Bool (List ℕ × (ℕ × (ℕ × ℕ)))
group_main = tv ⋄ bs ⋄ bs ⋄ bl

-- a group: its entries
unfoldable pub group_body : ℕ → BodyGrammar Group
group_body base =
    body group_main (λ parsed. some_refs base parsed.1.1.1)
    (λ (name, (unnamed, (selectable, count))) entries. record { name = name; unnamed = unnamed; selectable = selectable; entries = entries })
    (λ group. (group.name, (group.unnamed, (group.selectable, length group.entries)))) (λ group. group.entries)
