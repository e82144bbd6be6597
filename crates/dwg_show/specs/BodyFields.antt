-- The fields of the bodies of all kinds, in the order of their structs. A rule of this project.
use Rattle.std.specs.Prelude.{[], ◌++◌, codes}
use Rattle.dwg_dicts.specs.declared.appid_control.AppIdControl.{AppIdControl}
use Rattle.dwg_dicts.specs.declared.block_control.BlockControl.{BlockControl}
use Rattle.dwg_dicts.specs.declared.dictionary.DictItem.{DictItem}
use Rattle.dwg_dicts.specs.declared.dictionary.Dictionary.{Dictionary}
use Rattle.dwg_dicts.specs.declared.layer_control.LayerControl.{LayerControl}
use Rattle.dwg_dicts.specs.declared.ltype_control.LtypeControl.{LtypeControl}
use Rattle.dwg_dicts.specs.declared.style_control.StyleControl.{StyleControl}
use Rattle.dwg_dicts.specs.declared.xrecord.XRecord.{XRecord}
use Rattle.dwg_entities.specs.declared.attdef.Attdef.{Attdef}
use Rattle.dwg_entities.specs.declared.attrib.Attrib.{Attrib}
use Rattle.dwg_entities.specs.declared.block.Block.{Block}
use Rattle.dwg_entities.specs.declared.block_ends.EndBlk.{EndBlk}
use Rattle.dwg_entities.specs.declared.block_ends.SeqEnd.{SeqEnd}
use Rattle.dwg_entities.specs.declared.insert.Attributes.{Attributes}
use Rattle.dwg_entities.specs.declared.insert.Insert.{Insert}
use Rattle.dwg_entities.specs.declared.minsert.MInsert.{MInsert}
use Rattle.dwg_entities.specs.declared.text.Text.{Text}
use Rattle.dwg_more.specs.declared.ellipse.Ellipse.{Ellipse}
use Rattle.dwg_more.specs.declared.face.Face3d.{Face3d}
use Rattle.dwg_more.specs.declared.group.Group.{Group}
use Rattle.dwg_more.specs.declared.polyline.Polyline3d.{Polyline3d}
use Rattle.dwg_more.specs.declared.ray.Ray.{Ray}
use Rattle.dwg_more.specs.declared.solid.Solid.{Solid}
use Rattle.dwg_more.specs.declared.trace.Trace.{Trace}
use Rattle.dwg_more.specs.declared.vertex.Vertex3d.{Vertex3d}
use Rattle.dwg_more.specs.declared.xline.XLine.{XLine}
use Rattle.dwg_object.specs.declared.body.Body.TheVariants as bodies
use Rattle.dwg_object.specs.declared.body.Body.{Body}
use Rattle.dwg_shapes.specs.declared.arc.Arc.{Arc}
use Rattle.dwg_shapes.specs.declared.circle.Circle.{Circle}
use Rattle.dwg_shapes.specs.declared.line.Line.{Line}
use Rattle.dwg_shapes.specs.declared.lwpolyline.LwPolyline.{LwPolyline}
use Rattle.dwg_shapes.specs.declared.lwpolyline.Width.{Width}
use Rattle.dwg_shapes.specs.declared.point.Point.{Point}
use Rattle.dwg_tables.specs.declared.app_id.AppId.{AppId}
use Rattle.dwg_tables.specs.declared.block_header.BlockHeader.{BlockHeader}
use Rattle.dwg_tables.specs.declared.block_header.Ends.{Ends}
use Rattle.dwg_tables.specs.declared.block_header.InsertMark.{InsertMark}
use Rattle.dwg_tables.specs.declared.entry.Entry.{Entry}
use Rattle.dwg_tables.specs.declared.layer.Layer.{Layer}
use Rattle.dwg_tables.specs.declared.ltype.Dash.{Dash}
use Rattle.dwg_tables.specs.declared.ltype.Ltype.{Ltype}
use Rattle.dwg_tables.specs.declared.style.Style.{Style}
use Rattle.dwg_show.specs.Fields.{Printer, member, bytes, listed, number, optional, point2, point3, reference, text, truth_value, word}

-- a line of text
unfoldable pub text_fields : Printer Text
text_fields path value =
    member path (codes "elevation") (optional word) value.elevation
    ++ member path (codes "insertion") point2 value.insertion
    ++ member path (codes "alignment") (optional point2) value.alignment
    ++ member path (codes "extrusion") point3 value.extrusion
    ++ member path (codes "thickness") word value.thickness
    ++ member path (codes "oblique") (optional word) value.oblique
    ++ member path (codes "rotation") (optional word) value.rotation
    ++ member path (codes "height") word value.height
    ++ member path (codes "width") (optional word) value.width
    ++ member path (codes "text") text value.text
    ++ member path (codes "generation") (optional number) value.generation
    ++ member path (codes "horizontal") (optional number) value.horizontal
    ++ member path (codes "vertical") (optional number) value.vertical
    ++ member path (codes "style") reference value.style

-- an attribute
unfoldable pub attrib_fields : Printer Attrib
attrib_fields path attrib =
    member path (codes "text") text_fields attrib.text
    ++ member path (codes "tag") text attrib.tag
    ++ member path (codes "length") number attrib.length
    ++ member path (codes "flags") number attrib.flags

-- the definition of an attribute
unfoldable pub attdef_fields : Printer Attdef
attdef_fields path attdef = member path (codes "attrib") attrib_fields attdef.attrib ++ member path (codes "prompt") text attdef.prompt

-- the attributes of an insert
unfoldable pub attributes_fields : Printer Attributes
attributes_fields path attributes =
    member path (codes "first") reference attributes.first
    ++ member path (codes "last") reference attributes.last
    ++ member path (codes "seqend") reference attributes.seqend

-- an insert of a block
unfoldable pub insert_fields : Printer Insert
insert_fields path insert =
    member path (codes "place") point3 insert.place
    ++ member path (codes "scale") point3 insert.scale
    ++ member path (codes "rotation") word insert.rotation
    ++ member path (codes "extrusion") point3 insert.extrusion
    ++ member path (codes "block") reference insert.block
    ++ member path (codes "attributes") (optional attributes_fields) insert.attributes

-- an insert of a block in columns and rows
unfoldable pub minsert_fields : Printer MInsert
minsert_fields path minsert =
    member path (codes "insert") insert_fields minsert.insert
    ++ member path (codes "columns") number minsert.columns
    ++ member path (codes "rows") number minsert.rows
    ++ member path (codes "column_spacing") word minsert.column_spacing
    ++ member path (codes "row_spacing") word minsert.row_spacing

-- the begin of a block
unfoldable pub block_fields : Printer Block
block_fields path block = member path (codes "name") text block.name

-- the end of a block
unfoldable pub endblk_fields : Printer EndBlk
endblk_fields path endblk = []

-- the end of a sequence
unfoldable pub seqend_fields : Printer SeqEnd
seqend_fields path seqend = []

-- a line
unfoldable pub line_fields : Printer Line
line_fields path line =
    member path (codes "start") point3 line.start
    ++ member path (codes "end") point3 line.end
    ++ member path (codes "thickness") word line.thickness
    ++ member path (codes "extrusion") point3 line.extrusion

-- a point
unfoldable pub point_fields : Printer Point
point_fields path point =
    member path (codes "place") point3 point.place
    ++ member path (codes "thickness") word point.thickness
    ++ member path (codes "extrusion") point3 point.extrusion
    ++ member path (codes "angle") word point.angle

-- a circle
unfoldable pub circle_fields : Printer Circle
circle_fields path circle =
    member path (codes "centre") point3 circle.centre
    ++ member path (codes "radius") word circle.radius
    ++ member path (codes "thickness") word circle.thickness
    ++ member path (codes "extrusion") point3 circle.extrusion

-- an arc
unfoldable pub arc_fields : Printer Arc
arc_fields path arc =
    member path (codes "centre") point3 arc.centre
    ++ member path (codes "radius") word arc.radius
    ++ member path (codes "thickness") word arc.thickness
    ++ member path (codes "extrusion") point3 arc.extrusion
    ++ member path (codes "start_angle") word arc.start_angle
    ++ member path (codes "end_angle") word arc.end_angle

-- the widths of a segment of a lightweight polyline
unfoldable pub width_fields : Printer Width
width_fields path width = member path (codes "start") word width.start ++ member path (codes "end") word width.end

-- a lightweight polyline
unfoldable pub lwpolyline_fields : Printer LwPolyline
lwpolyline_fields path lwpolyline =
    member path (codes "flag") number lwpolyline.flag
    ++ member path (codes "width") (optional word) lwpolyline.width
    ++ member path (codes "elevation") (optional word) lwpolyline.elevation
    ++ member path (codes "thickness") (optional word) lwpolyline.thickness
    ++ member path (codes "normal") (optional point3) lwpolyline.normal
    ++ member path (codes "points") (listed point2) lwpolyline.points
    ++ member path (codes "bulges") (optional (listed word)) lwpolyline.bulges
    ++ member path (codes "widths") (optional (listed width_fields)) lwpolyline.widths

-- a vertex of a polyline in space
unfoldable pub vertex_fields : Printer Vertex3d
vertex_fields path vertex = member path (codes "flags") number vertex.flags ++ member path (codes "place") point3 vertex.place

-- a polyline in space
unfoldable pub polyline_fields : Printer Polyline3d
polyline_fields path polyline =
    member path (codes "flags_a") number polyline.flags_a
    ++ member path (codes "flags_b") number polyline.flags_b
    ++ member path (codes "first") reference polyline.first
    ++ member path (codes "last") reference polyline.last
    ++ member path (codes "seqend") reference polyline.seqend

-- a face in space
unfoldable pub face_fields : Printer Face3d
face_fields path face =
    member path (codes "first") point3 face.first
    ++ member path (codes "second") point3 face.second
    ++ member path (codes "third") point3 face.third
    ++ member path (codes "fourth") point3 face.fourth
    ++ member path (codes "invisible") (optional number) face.invisible

-- a solid
unfoldable pub solid_fields : Printer Solid
solid_fields path solid =
    member path (codes "thickness") word solid.thickness
    ++ member path (codes "elevation") word solid.elevation
    ++ member path (codes "first") point2 solid.first
    ++ member path (codes "second") point2 solid.second
    ++ member path (codes "third") point2 solid.third
    ++ member path (codes "fourth") point2 solid.fourth
    ++ member path (codes "extrusion") point3 solid.extrusion

-- a trace
unfoldable pub trace_fields : Printer Trace
trace_fields path trace =
    member path (codes "thickness") word trace.thickness
    ++ member path (codes "elevation") word trace.elevation
    ++ member path (codes "first") point2 trace.first
    ++ member path (codes "second") point2 trace.second
    ++ member path (codes "third") point2 trace.third
    ++ member path (codes "fourth") point2 trace.fourth
    ++ member path (codes "extrusion") point3 trace.extrusion

-- an ellipse
unfoldable pub ellipse_fields : Printer Ellipse
ellipse_fields path ellipse =
    member path (codes "centre") point3 ellipse.centre
    ++ member path (codes "axis") point3 ellipse.axis
    ++ member path (codes "extrusion") point3 ellipse.extrusion
    ++ member path (codes "ratio") word ellipse.ratio
    ++ member path (codes "start_angle") word ellipse.start_angle
    ++ member path (codes "end_angle") word ellipse.end_angle

-- a ray
unfoldable pub ray_fields : Printer Ray
ray_fields path ray = member path (codes "point") point3 ray.point ++ member path (codes "vector") point3 ray.vector

-- a line without ends
unfoldable pub xline_fields : Printer XLine
xline_fields path xline = member path (codes "point") point3 xline.point ++ member path (codes "vector") point3 xline.vector

-- what every entry of a table begins with
unfoldable pub entry_fields : Printer Entry
entry_fields path entry =
    member path (codes "name") text entry.name
    ++ member path (codes "flag64") truth_value entry.flag64
    ++ member path (codes "xref_index") number entry.xref_index
    ++ member path (codes "xref_dependent") truth_value entry.xref_dependent
    ++ member path (codes "xref") reference entry.xref

-- a layer
unfoldable pub layer_fields : Printer Layer
layer_fields path layer =
    member path (codes "entry") entry_fields layer.entry
    ++ member path (codes "values") number layer.values
    ++ member path (codes "colour") number layer.colour
    ++ member path (codes "plotstyle") reference layer.plotstyle
    ++ member path (codes "linetype") reference layer.linetype

-- a text style
unfoldable pub style_fields : Printer Style
style_fields path style =
    member path (codes "entry") entry_fields style.entry
    ++ member path (codes "flag_a") truth_value style.flag_a
    ++ member path (codes "flag_b") truth_value style.flag_b
    ++ member path (codes "height") word style.height
    ++ member path (codes "width") word style.width
    ++ member path (codes "oblique") word style.oblique
    ++ member path (codes "generation") number style.generation
    ++ member path (codes "last_height") word style.last_height
    ++ member path (codes "font") text style.font
    ++ member path (codes "big_font") text style.big_font

-- a dash of a linetype
unfoldable pub dash_fields : Printer Dash
dash_fields path dash =
    member path (codes "length") word dash.length
    ++ member path (codes "code") number dash.code
    ++ member path (codes "x") word dash.x
    ++ member path (codes "y") word dash.y
    ++ member path (codes "scale") word dash.scale
    ++ member path (codes "rotation") word dash.rotation
    ++ member path (codes "flag") number dash.flag
    ++ member path (codes "style") reference dash.style

-- a linetype
unfoldable pub ltype_fields : Printer Ltype
ltype_fields path ltype =
    member path (codes "entry") entry_fields ltype.entry
    ++ member path (codes "description") text ltype.description
    ++ member path (codes "length") word ltype.length
    ++ member path (codes "alignment") number ltype.alignment
    ++ member path (codes "dashes") (listed dash_fields) ltype.dashes
    ++ member path (codes "texts") bytes ltype.texts

-- an application
unfoldable pub app_id_fields : Printer AppId
app_id_fields path app_id = member path (codes "entry") entry_fields app_id.entry ++ member path (codes "extra") number app_id.extra

-- the mark of an insert
unfoldable pub insert_mark_fields : Printer InsertMark
insert_mark_fields path insert_mark =
    member path (codes "count") number insert_mark.count
    ++ member path (codes "target") reference insert_mark.target

-- the entities of a block
unfoldable pub ends_fields : Printer Ends
ends_fields path ends = member path (codes "first") reference ends.first ++ member path (codes "last") reference ends.last

-- the header of a block
unfoldable pub block_header_fields : Printer BlockHeader
block_header_fields path block_header =
    member path (codes "entry") entry_fields block_header.entry
    ++ member path (codes "anonymous") truth_value block_header.anonymous
    ++ member path (codes "has_attributes") truth_value block_header.has_attributes
    ++ member path (codes "is_xref") truth_value block_header.is_xref
    ++ member path (codes "overlaid") truth_value block_header.overlaid
    ++ member path (codes "loaded") truth_value block_header.loaded
    ++ member path (codes "base") point3 block_header.base
    ++ member path (codes "path") text block_header.path
    ++ member path (codes "inserts") (listed insert_mark_fields) block_header.inserts
    ++ member path (codes "description") text block_header.description
    ++ member path (codes "preview") bytes block_header.preview
    ++ member path (codes "block") reference block_header.block
    ++ member path (codes "ends") (optional ends_fields) block_header.ends
    ++ member path (codes "endblk") reference block_header.endblk
    ++ member path (codes "layout") reference block_header.layout

-- the control of blocks
unfoldable pub block_control_fields : Printer BlockControl
block_control_fields path block_control =
    member path (codes "entries") (listed reference) block_control.entries
    ++ member path (codes "model") reference block_control.model
    ++ member path (codes "paper") reference block_control.paper

-- the control of layers
unfoldable pub layer_control_fields : Printer LayerControl
layer_control_fields path layer_control = member path (codes "entries") (listed reference) layer_control.entries

-- the control of text styles
unfoldable pub style_control_fields : Printer StyleControl
style_control_fields path style_control = member path (codes "entries") (listed reference) style_control.entries

-- the control of linetypes
unfoldable pub ltype_control_fields : Printer LtypeControl
ltype_control_fields path ltype_control =
    member path (codes "entries") (listed reference) ltype_control.entries
    ++ member path (codes "first") reference ltype_control.first
    ++ member path (codes "second") reference ltype_control.second

-- the control of applications
unfoldable pub appid_control_fields : Printer AppIdControl
appid_control_fields path appid_control = member path (codes "entries") (listed reference) appid_control.entries

-- an item of a dictionary
unfoldable pub dict_item_fields : Printer DictItem
dict_item_fields path dict_item = member path (codes "name") text dict_item.name ++ member path (codes "target") reference dict_item.target

-- a dictionary
unfoldable pub dictionary_fields : Printer Dictionary
dictionary_fields path dictionary =
    member path (codes "cloning") number dictionary.cloning
    ++ member path (codes "hard_owner") number dictionary.hard_owner
    ++ member path (codes "items") (listed dict_item_fields) dictionary.items

-- a record
unfoldable pub xrecord_fields : Printer XRecord
xrecord_fields path xrecord =
    member path (codes "bytes") bytes xrecord.bytes
    ++ member path (codes "cloning") number xrecord.cloning
    ++ member path (codes "targets") (listed reference) xrecord.targets

-- a group
unfoldable pub group_fields : Printer Group
group_fields path group =
    member path (codes "name") text group.name
    ++ member path (codes "unnamed") number group.unnamed
    ++ member path (codes "selectable") number group.selectable
    ++ member path (codes "entries") (listed reference) group.entries

-- the fields of a body, by its kind
unfoldable pub body_fields : Printer Body
body_fields path (bodies.Text body) = text_fields path body
body_fields path (bodies.Attrib body) = attrib_fields path body
body_fields path (bodies.Attdef body) = attdef_fields path body
body_fields path (bodies.Block body) = block_fields path body
body_fields path (bodies.EndBlk body) = endblk_fields path body
body_fields path (bodies.SeqEnd body) = seqend_fields path body
body_fields path (bodies.Insert body) = insert_fields path body
body_fields path (bodies.MInsert body) = minsert_fields path body
body_fields path (bodies.Arc body) = arc_fields path body
body_fields path (bodies.Circle body) = circle_fields path body
body_fields path (bodies.Line body) = line_fields path body
body_fields path (bodies.Point body) = point_fields path body
body_fields path (bodies.LwPolyline body) = lwpolyline_fields path body
body_fields path (bodies.Vertex3d body) = vertex_fields path body
body_fields path (bodies.Polyline3d body) = polyline_fields path body
body_fields path (bodies.Face3d body) = face_fields path body
body_fields path (bodies.Solid body) = solid_fields path body
body_fields path (bodies.Trace body) = trace_fields path body
body_fields path (bodies.Ellipse body) = ellipse_fields path body
body_fields path (bodies.Ray body) = ray_fields path body
body_fields path (bodies.XLine body) = xline_fields path body
body_fields path (bodies.Dictionary body) = dictionary_fields path body
body_fields path (bodies.BlockControl body) = block_control_fields path body
body_fields path (bodies.BlockHeader body) = block_header_fields path body
body_fields path (bodies.LayerControl body) = layer_control_fields path body
body_fields path (bodies.Layer body) = layer_fields path body
body_fields path (bodies.StyleControl body) = style_control_fields path body
body_fields path (bodies.Style body) = style_fields path body
body_fields path (bodies.LtypeControl body) = ltype_control_fields path body
body_fields path (bodies.Ltype body) = ltype_fields path body
body_fields path (bodies.AppIdControl body) = appid_control_fields path body
body_fields path (bodies.AppId body) = app_id_fields path body
body_fields path (bodies.XRecord body) = xrecord_fields path body
body_fields path (bodies.Group body) = group_fields path body
