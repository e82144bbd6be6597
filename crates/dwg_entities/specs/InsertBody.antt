-- An insert of a block (Open Design Specification, "INSERT").
use Rattle.std.specs.Prelude.{ℕ, Bool, Option, is_some}
use Rattle.dwg_base.specs.declared.version.Version.{Version}
use Rattle.dwg_grammar.specs.Codes.{bd, bd3, b}
use Rattle.dwg_grammar.specs.Combinators.{◌⋄◌}
use Rattle.dwg_grammar.specs.Grammar.{Grammar}
use Rattle.dwg_grammar.specs.declared.points.Point3.{Point3}
use Rattle.dwg_grammar.specs.Bodies.{BodyGrammar}
use Rattle.dwg_grammar.specs.MakingBodies.{body}
use Rattle.dwg_grammar.specs.References.{ReferencePart, one_ref, maybe_refs, then_refs, seen_refs}
use Rattle.dwg_grammar.specs.Reference.{Reference}
use Rattle.dwg_entities.specs.declared.insert.Attributes.{Attributes}
use Rattle.dwg_entities.specs.declared.insert.Insert.{Insert}
use Rattle.dwg_entities.specs.Scale.{scale}

-- what its main bits give: place, scale, rotation, extrusion, whether it has attributes
abbrev pub Setting : Type 0
Setting = Point3 × (Point3 × (ℕ × (Point3 × Bool)))

-- 3BD place; scale, in AC1014 3BD; BD rotation; 3BD extrusion; B attributes
abbrev pub insert_main : Version → Grammar Bool Setting
insert_main version = bd3 ⋄ scale version ⋄ bd ⋄ bd3 ⋄ b

-- first, last, seqend
abbrev pub attributes : ℕ → ReferencePart Attributes
attributes base =
    seen_refs (λ parts. record { first = parts.0; last = parts.1.0; seqend = parts.1.1 }) (λ attributes. (attributes.first, (attributes.last, attributes.seqend)))
    (then_refs (one_ref base) (then_refs (one_ref base) (one_ref base)))

-- block; where it has attributes these
abbrev pub insert_refs : ℕ → Bool → ReferencePart (Reference × Option Attributes)
insert_refs base there = then_refs (one_ref base) (maybe_refs there (attributes base))

-- what the main bits of an insert give of it
abbrev pub setting_of : Insert → Setting
setting_of insert = (insert.place, (insert.scale, (insert.rotation, (insert.extrusion, is_some insert.attributes))))

-- an insert from these and from what it names
abbrev pub insert_of : Setting → Reference × Option Attributes → Insert
insert_of (place, (scale, (rotation, (extrusion, there)))) (block, attributes) =
    record { place = place; scale = scale; rotation = rotation; extrusion = extrusion; block = block; attributes = attributes }

-- the main bits, and the references that they give of
unfoldable pub insert_body : Version → ℕ → BodyGrammar Insert
insert_body version base = body (insert_main version) (λ parsed. insert_refs base parsed.1.1.1.1) insert_of setting_of (λ insert. (insert.block, insert.attributes))
