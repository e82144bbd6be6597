-- The references that an object holds beside that to its owner, in the order of the fields (Open Design Specification, the listed objects; the order is a rule of this project).
use Rattle.std.specs.Prelude.{ℕ, ◌+◌, List, [], ◌∷◌, ◌++◌, map, Option}
use Rattle.std.specs.Option.{option_map, option_map_or}
use Rattle.dwg_common.specs.declared.entity.EntityCommon.{EntityCommon}
use Rattle.dwg_common.specs.declared.object.ObjectCommon.{ObjectCommon}
use Rattle.dwg_entities.specs.declared.insert.Insert as declared
use Rattle.dwg_graph.specs.declared.slot.Slot.{Slot}
use Rattle.dwg_grammar.specs.Reference.{Reference}
use Rattle.dwg_kinds.specs.declared.field.Field.{Field}
use Rattle.dwg_kinds.specs.declared.field.Field.TheVariants.{Application, Reactor, Xdict, Previous, Next, Layer, Linetype, Plotstyle, Style, Block, First, Last, Seqend, Xref, Endblk, Insert, Layout, Entry, Model, Paper, Extra, Item, Target, Grouped}
use Rattle.dwg_object.specs.declared.body.Body.TheVariants as bodies
use Rattle.dwg_object.specs.declared.body.Body.{Body}
use Rattle.dwg_object.specs.declared.common.Common.TheVariants as commons
use Rattle.dwg_object.specs.declared.common.Common.{Common}
use Rattle.dwg_object.specs.Objects.{ObjectValue, TypedValue, PlainValue, RawValue}
use Rattle.dwg_tables.specs.declared.block_header.BlockHeader.{BlockHeader}

-- a field of an object, and its references in their order
pub record FieldReferences : Type 0 where
  pub field : Field
  pub references : List Reference

-- a field that is a list
abbrev pub listed : Field → List Reference → FieldReferences
listed field references = record { field = field; references = references }

-- a field that is one reference
abbrev pub one : Field → Reference → FieldReferences
one field reference = listed field (reference ∷ [])

-- a field that may be there
abbrev pub maybe : Field → Option Reference → FieldReferences
maybe field reference = listed field (option_map_or (λ there. there ∷ []) reference [])

-- what all entities hold
unfoldable pub held_by_entity : EntityCommon → List FieldReferences
held_by_entity common =
    listed Application (map (λ app. app.application) common.app)
    ∷ listed Reactor common.reactors
    ∷ one Xdict common.xdict
    ∷ maybe Previous (option_map (λ links. links.previous) common.links)
    ∷ maybe Next (option_map (λ links. links.next) common.links)
    ∷ one Layer common.layer
    ∷ maybe Linetype common.linetype
    ∷ maybe Plotstyle common.plotstyle ∷ []

-- what all other objects hold
unfoldable pub held_by_object : ObjectCommon → List FieldReferences
held_by_object common = listed Application (map (λ app. app.application) common.app) ∷ listed Reactor common.reactors ∷ one Xdict common.xdict ∷ []

-- what the common part of an object holds
unfoldable pub held_by_common : Common → List FieldReferences
held_by_common (commons.Entity common) = held_by_entity common
held_by_common (commons.Object common) = held_by_object common

-- what an insert holds of its own, alone or in columns and rows
abbrev pub held_by_insert : declared.Insert → List FieldReferences
held_by_insert insert =
    one Block insert.block
    ∷ maybe First (option_map (λ attributes. attributes.first) insert.attributes)
    ∷ maybe Last (option_map (λ attributes. attributes.last) insert.attributes)
    ∷ maybe Seqend (option_map (λ attributes. attributes.seqend) insert.attributes) ∷ []

-- what the header of a block holds of its own
abbrev pub held_by_block : BlockHeader → List FieldReferences
held_by_block header =
    one Block header.block
    ∷ maybe First (option_map (λ ends. ends.first) header.ends)
    ∷ maybe Last (option_map (λ ends. ends.last) header.ends)
    ∷ one Xref header.entry.xref
    ∷ one Endblk header.endblk
    ∷ listed Insert (map (λ mark. mark.target) header.inserts)
    ∷ one Layout header.layout ∷ []

-- what the kinds hold of their own; those that aren't listed refer to nothing
unfoldable pub held_by_body : Body → List FieldReferences
held_by_body (bodies.Text body) = one Style body.style ∷ []
held_by_body (bodies.Attrib body) = one Style body.text.style ∷ []
held_by_body (bodies.Attdef body) = one Style body.attrib.text.style ∷ []
held_by_body (bodies.Insert body) = held_by_insert body
held_by_body (bodies.MInsert body) = held_by_insert body.insert
held_by_body (bodies.Polyline3d body) = one First body.first ∷ one Last body.last ∷ one Seqend body.seqend ∷ []
held_by_body (bodies.Dictionary body) = listed Item (map (λ item. item.target) body.items) ∷ []
held_by_body (bodies.BlockControl body) = listed Entry body.entries ∷ one Model body.model ∷ one Paper body.paper ∷ []
held_by_body (bodies.BlockHeader body) = held_by_block body
held_by_body (bodies.LayerControl body) = listed Entry body.entries ∷ []
held_by_body (bodies.Layer body) = one Linetype body.linetype ∷ one Plotstyle body.plotstyle ∷ one Xref body.entry.xref ∷ []
held_by_body (bodies.StyleControl body) = listed Entry body.entries ∷ []
held_by_body (bodies.Style body) = one Xref body.entry.xref ∷ []
held_by_body (bodies.LtypeControl body) = listed Entry body.entries ∷ listed Extra (body.first ∷ body.second ∷ []) ∷ []
held_by_body (bodies.Ltype body) = listed Style (map (λ dash. dash.style) body.dashes) ∷ one Xref body.entry.xref ∷ []
held_by_body (bodies.AppIdControl body) = listed Entry body.entries ∷ []
held_by_body (bodies.AppId body) = one Xref body.entry.xref ∷ []
held_by_body (bodies.XRecord body) = listed Target body.targets ∷ []
held_by_body (bodies.Group body) = listed Grouped body.entries ∷ []
held_by_body other = []

-- the slots of one field, from a position on
unfoldable pub slots_from : Field → ℕ → List Reference → List Slot
slots_from field at [] = []
slots_from field at (reference ∷ more) = record { field = field; position = at; target = reference.target } ∷ slots_from field (at + 1) more

-- the slots of fields, one field after the other
unfoldable pub slots_of : List FieldReferences → List Slot
slots_of [] = []
slots_of (held ∷ more) = slots_from held.field 0 held.references ++ slots_of more

-- the slots of an object: those of a Typed one; of any other nothing is known but its common part, and none are reported
unfoldable pub slots : ObjectValue → List Slot
slots (TypedValue number handle common body) = slots_of (held_by_common common ++ held_by_body body)
slots (PlainValue number handle common rest refs) = []
slots (RawValue number handle bytes) = []
