-- What the objects of a made drawing have in common. What isn't reported of an object is 0, false, empty or None. A rule of this project.
use Rattle.std.specs.Prelude.{ℕ, false, List, [], Option, Some, None}
use Rattle.dwg_grammar.specs.Codes.{ONE, UPWARD}
use Rattle.dwg_grammar.specs.declared.points.Point2.{Point2}
use Rattle.dwg_grammar.specs.declared.points.Point3.{Point3}
use Rattle.dwg_common.specs.declared.entity.EntityCommon.{EntityCommon}
use Rattle.dwg_common.specs.declared.entity.Links.{Links}
use Rattle.dwg_common.specs.declared.object.ObjectCommon.{ObjectCommon}
use Rattle.dwg_entities.specs.declared.text.Text.{Text}
use Rattle.dwg_grammar.specs.Reference.{Reference}
use Rattle.dwg_object.specs.Objects.{ObjectValue, TypedValue}
use Rattle.dwg_object.specs.declared.body.Body.{Body}
use Rattle.dwg_object.specs.declared.common.Common.TheVariants as commons
use Rattle.dwg_tables.specs.declared.entry.Entry.{Entry}

-- references by their codes: 2 soft owner, 3 hard owner, 4 soft pointer, 5 hard pointer
abbrev pub soft_owner : ℕ → Reference
soft_owner target = record { code = 2; target = target }

abbrev pub hard_owner : ℕ → Reference
hard_owner target = record { code = 3; target = target }

abbrev pub soft_pointer : ℕ → Reference
soft_pointer target = record { code = 4; target = target }

abbrev pub hard_pointer : ℕ → Reference
hard_pointer target = record { code = 5; target = target }

-- points by their words
abbrev pub flat_point : ℕ → ℕ → Point2
flat_point x y = record { x = x; y = y }

abbrev pub point : ℕ → ℕ → ℕ → Point3
point x y z = record { x = x; y = y; z = z }

abbrev pub ORIGIN : Point3
ORIGIN = point 0 0 0

-- the common part of an object that isn't an entity, by its owner
abbrev pub owned_by : ℕ → ObjectCommon
owned_by owner = record { app = []; reactors = []; owner = soft_pointer owner; xdict = hard_owner 0 }

-- an object that isn't an entity, by type number, handle, owner and body
abbrev pub other_object : ℕ → ℕ → ℕ → Body → ObjectValue
other_object number handle owner body = TypedValue number handle (commons.Object (owned_by owner)) body

-- the entities before and after an entity
abbrev pub links : ℕ → ℕ → Links
links previous next = record { previous = soft_pointer previous; next = soft_pointer next }

-- the common part of an entity, by its mode, owner, links and layer
abbrev pub entity_common : ℕ → Option Reference → Option Links → ℕ → EntityCommon
entity_common mode owner links layer = record {
  app = [];
  graphic = None;
  mode = mode;
  owner = owner;
  reactors = [];
  xdict = hard_owner 0;
  links = links;
  colour = 256;
  linetype_scale = ONE;
  linetype_flag = 0;
  linetype = None;
  plotstyle_flag = 0;
  plotstyle = None;
  invisible = 0;
  lineweight = 29;
  layer = hard_pointer layer;
}

-- an entity of the model space (mode 2), by type number, handle, links, layer and body
abbrev pub model_entity : ℕ → ℕ → Option Links → ℕ → Body → ObjectValue
model_entity number handle links layer body = TypedValue number handle (commons.Entity (entity_common 2 None links layer)) body

-- an entity of the paper space (mode 1) on layer 10, by type number, handle and body
abbrev pub paper_entity : ℕ → ℕ → Body → ObjectValue
paper_entity number handle body = TypedValue number handle (commons.Entity (entity_common 1 None (Some (links 0 0)) 0x10)) body

-- an entity that names its owner (mode 0), on layer 10, by type number, handle, owner, links and body
abbrev pub owned_entity : ℕ → ℕ → ℕ → Links → Body → ObjectValue
owned_entity number handle owner links body =
    TypedValue number handle (commons.Entity (entity_common 0 (Some (soft_pointer owner)) (Some links) 0x10)) body

-- a table entry of a name
abbrev pub entry : List ℕ → Entry
entry name = record { name = name; flag64 = false; xref_index = 0; xref_dependent = false; xref = hard_pointer 0 }

-- a text in the style 11, by its insertion, height and bytes
abbrev pub plain_text : Point2 → ℕ → List ℕ → Text
plain_text insertion height text = record {
  elevation = None;
  insertion = insertion;
  alignment = None;
  extrusion = UPWARD;
  thickness = 0;
  oblique = None;
  rotation = None;
  height = height;
  width = None;
  text = text;
  generation = None;
  horizontal = None;
  vertical = None;
  style = hard_pointer 0x11;
}
