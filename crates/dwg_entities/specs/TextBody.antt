-- A line of text (Open Design Specification, "TEXT").
use Rattle.std.specs.Prelude.{ℕ, ◌+◌, Bool, List, Option}
use Rattle.dwg_base.specs.declared.version.Version.{Version}
use Rattle.dwg_grammar.specs.Codes.{rc, rd, bs, bd, tv}
use Rattle.dwg_grammar.specs.Combinators.{seq, ◌⋄◌}
use Rattle.dwg_grammar.specs.Grammar.{Grammar}
use Rattle.dwg_grammar.specs.declared.points.Point2.{Point2}
use Rattle.dwg_grammar.specs.declared.points.Point3.{Point3}
use Rattle.dwg_grammar.specs.Bodies.{BodyGrammar}
use Rattle.dwg_grammar.specs.MakingBodies.{body}
use Rattle.dwg_grammar.specs.References.{one_ref}
use Rattle.dwg_grammar.specs.Reference.{Reference}
use Rattle.dwg_entities.specs.declared.text.Text.{Text}
use Rattle.dwg_entities.specs.Flags.{unless, weight_unless}
use Rattle.dwg_grammar.specs.Points.{rd2, dd2}
use Rattle.dwg_grammar.specs.Versions.{in_version, since_1015, thickness, extrusion}

-- a number of a text: RD, in AC1014 BD
abbrev pub word : Version → Grammar Bool ℕ
word version = in_version version bd rd

-- its alignment: 2DD against its insertion, in AC1014 2RD
abbrev pub aligned : Version → Point2 → Grammar Bool Point2
aligned version insertion = in_version version rd2 (dd2 insertion)

-- where it stands: RD elevation unless 01; 2RD insertion; 2DD alignment against it unless 02; BE extrusion; BT thickness. In AC1014 BD elevation; 2RD insertion; 2RD alignment; 3BD extrusion; BD thickness
abbrev pub text_placing : Version → ℕ → Grammar Bool (Option ℕ × (Point2 × (Option Point2 × (Point3 × ℕ))))
text_placing version flags = unless flags 0x01 (word version) ⋄ seq rd2 (λ insertion. unless flags 0x02 (aligned version insertion) ⋄ extrusion version ⋄ thickness version)

-- the form of its letters: RD oblique unless 04; RD rotation unless 08; RD height; RD width unless 10. In AC1014 each is a BD
abbrev pub text_lettering : Version → ℕ → Grammar Bool (Option ℕ × (Option ℕ × (ℕ × Option ℕ)))
text_lettering version flags = unless flags 0x04 (word version) ⋄ unless flags 0x08 (word version) ⋄ word version ⋄ unless flags 0x10 (word version)

-- its words: TV text; BS generation unless 20; BS horizontal unless 40; BS vertical unless 80. The same in AC1014
abbrev pub text_wording : ℕ → Grammar Bool (List ℕ × (Option ℕ × (Option ℕ × Option ℕ)))
text_wording flags = tv ⋄ unless flags 0x20 bs ⋄ unless flags 0x40 bs ⋄ unless flags 0x80 bs

-- what its main bits give: its flags, where it stands, the form of its letters, its words
abbrev pub Inscription : Type 0
Inscription = ℕ × ((Option ℕ × (Point2 × (Option Point2 × (Point3 × ℕ)))) × ((Option ℕ × (Option ℕ × (ℕ × Option ℕ))) × (List ℕ × (Option ℕ × (Option ℕ × Option ℕ)))))

-- RC flags, and the parts by them. AC1014 spells no flags: they are 0, so that each part is there
unfoldable pub text_main : Version → Grammar Bool Inscription
text_main version = seq (since_1015 version 0 rc) (λ flags. text_placing version flags ⋄ text_lettering version flags ⋄ text_wording flags)

-- a flag is set exactly where its part is missing
unfoldable pub flags_of : Text → ℕ
flags_of text =
    weight_unless text.elevation 0x01 + weight_unless text.alignment 0x02 + weight_unless text.oblique 0x04 + weight_unless text.rotation 0x08 + weight_unless text.width 0x10
    + weight_unless text.generation 0x20 + weight_unless text.horizontal 0x40 + weight_unless text.vertical 0x80

-- where a text stands
abbrev pub placing_of : Text → Option ℕ × (Point2 × (Option Point2 × (Point3 × ℕ)))
placing_of text = (text.elevation, (text.insertion, (text.alignment, (text.extrusion, text.thickness))))

-- the form of its letters
abbrev pub lettering_of : Text → Option ℕ × (Option ℕ × (ℕ × Option ℕ))
lettering_of text = (text.oblique, (text.rotation, (text.height, text.width)))

-- its words
abbrev pub wording_of : Text → List ℕ × (Option ℕ × (Option ℕ × Option ℕ))
wording_of text = (text.text, (text.generation, (text.horizontal, text.vertical)))

-- what the main bits of a text give of it
abbrev pub inscription_of : Text → Inscription
inscription_of text = (flags_of text, (placing_of text, (lettering_of text, wording_of text)))

-- a text from these and from its style
abbrev pub text_of : Inscription → Reference → Text
text_of (flags, ((elevation, (insertion, (alignment, (extrusion, thickness)))), ((oblique, (rotation, (height, width))), (text, (generation, (horizontal, vertical)))))) style = record {
  elevation = elevation;
  insertion = insertion;
  alignment = alignment;
  extrusion = extrusion;
  thickness = thickness;
  oblique = oblique;
  rotation = rotation;
  height = height;
  width = width;
  text = text;
  generation = generation;
  horizontal = horizontal;
  vertical = vertical;
  style = style;
}

-- the main bits, and among the references the style
unfoldable pub text_body : Version → ℕ → BodyGrammar Text
text_body version base = body (text_main version) (λ parsed. one_ref base) text_of inscription_of (λ text. text.style)
