-- The definition of an attribute (Open Design Specification, "ATTDEF").
use Rattle.std.specs.Prelude.{ℕ}
use Rattle.dwg_base.specs.declared.version.Version.{Version}
use Rattle.dwg_grammar.specs.Codes.{tv}
use Rattle.dwg_grammar.specs.Combinators.{◌⋄◌}
use Rattle.dwg_grammar.specs.Bodies.{BodyGrammar}
use Rattle.dwg_grammar.specs.MakingBodies.{body}
use Rattle.dwg_grammar.specs.References.{one_ref}
use Rattle.dwg_entities.specs.declared.attdef.Attdef.{Attdef}
use Rattle.dwg_entities.specs.AttribBody.{attrib_main, label_of, attrib_of}

-- the main bits of its attribute; TV prompt; and among the references the style of its attribute's text
unfoldable pub attdef_body : Version → ℕ → BodyGrammar Attdef
attdef_body version base =
    body (attrib_main version ⋄ tv) (λ parsed. one_ref base) (λ parsed style. record { attrib = attrib_of parsed.0 style; prompt = parsed.1 })
    (λ attdef. (label_of attdef.attrib, attdef.prompt)) (λ attdef. attdef.attrib.text.style)
