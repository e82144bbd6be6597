-- An attribute (Open Design Specification, "ATTRIB").
use Rattle.std.specs.Prelude.{ℕ, Bool, List}
use Rattle.dwg_base.specs.declared.version.Version.{Version}
use Rattle.dwg_grammar.specs.Codes.{rc, bs, tv}
use Rattle.dwg_grammar.specs.Combinators.{◌⋄◌}
use Rattle.dwg_grammar.specs.Grammar.{Grammar}
use Rattle.dwg_grammar.specs.Bodies.{BodyGrammar}
use Rattle.dwg_grammar.specs.MakingBodies.{body}
use Rattle.dwg_grammar.specs.References.{one_ref}
use Rattle.dwg_grammar.specs.Reference.{Reference}
use Rattle.dwg_entities.specs.declared.attrib.Attrib.{Attrib}
use Rattle.dwg_entities.specs.TextBody.{Inscription, text_main, inscription_of, text_of}

-- after those of its text: TV tag; BS length; RC flags
abbrev pub attrib_more : Grammar Bool (List ℕ × (ℕ × ℕ))
attrib_more = tv ⋄ bs ⋄ rc

-- its main bits
unfoldable pub attrib_main : Version → Grammar Bool (Inscription × (List ℕ × (ℕ × ℕ)))
attrib_main version = text_main version ⋄ attrib_more

-- what the main bits of an attribute give
abbrev pub label_of : Attrib → Inscription × (List ℕ × (ℕ × ℕ))
label_of attrib = (inscription_of attrib.text, (attrib.tag, (attrib.length, attrib.flags)))

-- an attribute from these and from the style of its text
abbrev pub attrib_of : Inscription × (List ℕ × (ℕ × ℕ)) → Reference → Attrib
attrib_of (inscription, (tag, (length, flags))) style = record { text = text_of inscription style; tag = tag; length = length; flags = flags }

-- the main bits, and among the references the style of its text
unfoldable pub attrib_body : Version → ℕ → BodyGrammar Attrib
attrib_body version base = body (attrib_main version) (λ parsed. one_ref base) attrib_of label_of (λ attrib. attrib.text.style)
