-- What the reader of texts has read, as the parts that the grammar gives.
use Rattle.std.specs.Prelude.{ℕ, List, Option}
use Rattle.dwg_grammar.specs.declared.points.Point2.{Point2}
use Rattle.dwg_grammar.specs.declared.points.Point3.{Point3}
use Rattle.dwg_entities.specs.declared.text.Placing.{Placing}
use Rattle.dwg_entities.specs.declared.text.Lettering.{Lettering}
use Rattle.dwg_entities.specs.declared.text.Wording.{Wording}

-- where a text stands
abbrev pub placing_read : Placing → Option ℕ × (Point2 × (Option Point2 × (Point3 × ℕ)))
placing_read placing = (placing.elevation, (placing.insertion, (placing.alignment, (placing.extrusion, placing.thickness))))

-- the form of its letters
abbrev pub lettering_read : Lettering → Option ℕ × (Option ℕ × (ℕ × Option ℕ))
lettering_read lettering = (lettering.oblique, (lettering.rotation, (lettering.height, lettering.width)))

-- its words
abbrev pub wording_read : Wording → List ℕ × (Option ℕ × (Option ℕ × Option ℕ))
wording_read wording = (wording.text, (wording.generation, (wording.horizontal, wording.vertical)))
