-- The references that an object holds: their names, which kinds hold each, and what it must lead to (Open Design Specification, the listed objects; what must hold is a rule of this project).
use Rattle.std.specs.Prelude.{ℕ, Bool, List, [], ◌∷◌, Option, Some, None, get_or, codes, if◌then◌else◌}
use Rattle.std.specs.Option.{is_some}
use denote.Enum.Declared.{tag_of}
use Rattle.dwg_kinds.specs.contracts.field.Field.{the_type}
use Rattle.dwg_kinds.specs.declared.kind.Kind.{Kind}
use Rattle.dwg_kinds.specs.declared.kind.Kind.TheVariants as kind
use Rattle.dwg_kinds.specs.declared.field.Field.{Field}
use Rattle.dwg_kinds.specs.declared.field.Field.TheVariants.{Application, Owner, Reactor, Xdict, Previous, Next, Layer, Linetype, Plotstyle, Style, Block, First, Last, Seqend, Xref, Endblk, Insert, Layout, Entry, Model, Paper, Extra, Item, Target, Grouped}
use Rattle.dwg_kinds.specs.declared.field.Need.{Need}
use Rattle.dwg_kinds.specs.declared.field.Need.TheVariants.{Any, NullOrAny, Entity, NullOrEntity, Is, NullOrIs}
use Rattle.dwg_kinds.specs.Kinds.{row_of, is_entity_kind, same_kind}

-- what is reported of a field: its number, the field, and its name, as it is printed
pub record FieldRow : Type 0 where
  pub number : ℕ
  pub field : Field
  pub name : List ℕ

-- a row in one line
abbrev row : ℕ → Field → List ℕ → FieldRow
row number field name = record { number = number; field = field; name = name }

-- all fields, in the order in which they are declared
abbrev pub FIELD_ROWS : List FieldRow
FIELD_ROWS =
    row 1 Application (codes "application")
    ∷ row 2 Owner (codes "owner")
    ∷ row 3 Reactor (codes "reactor")
    ∷ row 4 Xdict (codes "xdict")
    ∷ row 5 Previous (codes "previous")
    ∷ row 6 Next (codes "next")
    ∷ row 7 Layer (codes "layer")
    ∷ row 8 Linetype (codes "linetype")
    ∷ row 9 Plotstyle (codes "plotstyle")
    ∷ row 10 Style (codes "style")
    ∷ row 11 Block (codes "block")
    ∷ row 12 First (codes "first")
    ∷ row 13 Last (codes "last")
    ∷ row 14 Seqend (codes "seqend")
    ∷ row 15 Xref (codes "xref")
    ∷ row 16 Endblk (codes "endblk")
    ∷ row 17 Insert (codes "insert")
    ∷ row 18 Layout (codes "layout")
    ∷ row 19 Entry (codes "entry")
    ∷ row 20 Model (codes "model")
    ∷ row 21 Paper (codes "paper")
    ∷ row 22 Extra (codes "extra")
    ∷ row 23 Item (codes "item")
    ∷ row 24 Target (codes "target")
    ∷ row 25 Grouped (codes "grouped") ∷ []

-- the row of a field, which stands at its place among those that are declared
abbrev pub row_of_field : Field → FieldRow
row_of_field field = get_or FIELD_ROWS (tag_of the_type field) (row 0 Application [])

-- the number of a field in its table, which is the order of fields
unfoldable pub field_number : Field → ℕ
field_number field = (row_of_field field).number

-- the name of a field, as it is printed
unfoldable pub field_name : Field → List ℕ
field_name field = (row_of_field field).name

-- a need of all entities, and of nothing else
unfoldable pub of_entities : Need → Kind → Option Need
of_entities need holder = if is_entity_kind holder then Some need else None

-- what owns an object of a kind
unfoldable pub owner_need : Kind → Option Need
owner_need holder = (row_of holder).owner

-- what the linetype of a holder is
unfoldable pub linetype_need : Kind → Option Need
linetype_need kind.Layer = Some (Is kind.Ltype)
linetype_need holder = of_entities (Is kind.Ltype) holder

-- what the plot style of a holder is
unfoldable pub plotstyle_need : Kind → Option Need
plotstyle_need kind.Layer = Some NullOrAny
plotstyle_need holder = of_entities Any holder

-- what the text style of a holder is; a linetype holds one for each dash
unfoldable pub style_need : Kind → Option Need
style_need kind.Text = Some (Is kind.Style)
style_need kind.Attrib = Some (Is kind.Style)
style_need kind.Attdef = Some (Is kind.Style)
style_need kind.Ltype = Some (NullOrIs kind.Style)
style_need holder = None

-- what the block of a holder is: the block that is inserted, or the begin of the block
unfoldable pub block_need : Kind → Option Need
block_need kind.Insert = Some (Is kind.BlockHeader)
block_need kind.MInsert = Some (Is kind.BlockHeader)
block_need kind.BlockHeader = Some (Is kind.Block)
block_need holder = None

-- what is first or last in a holder
unfoldable pub end_need : Kind → Option Need
end_need kind.Insert = Some (Is kind.Attrib)
end_need kind.MInsert = Some (Is kind.Attrib)
end_need kind.Polyline3d = Some (NullOrIs kind.Vertex3d)
end_need kind.BlockHeader = Some NullOrEntity
end_need holder = None

-- what ends the attributes or vertices of a holder
unfoldable pub seqend_need : Kind → Option Need
seqend_need kind.Insert = Some (Is kind.SeqEnd)
seqend_need kind.MInsert = Some (Is kind.SeqEnd)
seqend_need kind.Polyline3d = Some (Is kind.SeqEnd)
seqend_need holder = None

-- what the external reference of an entry is
unfoldable pub xref_need : Kind → Option Need
xref_need kind.Layer = Some (NullOrIs kind.BlockHeader)
xref_need kind.Style = Some (NullOrIs kind.BlockHeader)
xref_need kind.Ltype = Some (NullOrIs kind.BlockHeader)
xref_need kind.AppId = Some (NullOrIs kind.BlockHeader)
xref_need kind.BlockHeader = Some NullOrAny
xref_need holder = None

-- what the entries of a control are
unfoldable pub entry_need : Kind → Option Need
entry_need kind.BlockControl = Some (NullOrIs kind.BlockHeader)
entry_need kind.LayerControl = Some (NullOrIs kind.Layer)
entry_need kind.StyleControl = Some (NullOrIs kind.Style)
entry_need kind.LtypeControl = Some (NullOrIs kind.Ltype)
entry_need kind.AppIdControl = Some (NullOrIs kind.AppId)
entry_need holder = None

-- a need of one kind of holder, and of no other
unfoldable pub of_one : Kind → Need → Kind → Option Need
of_one one need holder = if same_kind one holder then Some need else None

-- what a field of a holder of that kind must lead to, or none where such a holder has no such field
unfoldable pub need_of : Field → Kind → Option Need
need_of Application holder = Some (Is kind.AppId)
need_of Owner holder = owner_need holder
need_of Reactor holder = Some Any
need_of Xdict holder = Some (NullOrIs kind.Dictionary)
need_of Previous holder = of_entities NullOrEntity holder
need_of Next holder = of_entities NullOrEntity holder
need_of Layer holder = of_entities (Is kind.Layer) holder
need_of Linetype holder = linetype_need holder
need_of Plotstyle holder = plotstyle_need holder
need_of Style holder = style_need holder
need_of Block holder = block_need holder
need_of First holder = end_need holder
need_of Last holder = end_need holder
need_of Seqend holder = seqend_need holder
need_of Xref holder = xref_need holder
need_of Endblk holder = of_one kind.BlockHeader (Is kind.EndBlk) holder
need_of Insert holder = of_one kind.BlockHeader Entity holder
need_of Layout holder = of_one kind.BlockHeader NullOrAny holder
need_of Entry holder = entry_need holder
need_of Model holder = of_one kind.BlockControl (Is kind.BlockHeader) holder
need_of Paper holder = of_one kind.BlockControl (Is kind.BlockHeader) holder
need_of Extra holder = of_one kind.LtypeControl (Is kind.Ltype) holder
need_of Item holder = of_one kind.Dictionary NullOrAny holder
need_of Target holder = of_one kind.XRecord NullOrAny holder
need_of Grouped holder = of_one kind.Group NullOrAny holder

-- a holder of that kind has the field
unfoldable pub has_field : Field → Kind → Bool
has_field field holder = is_some (need_of field holder)
