-- What the kinds of objects have of their own after their common part (Open Design Specification, the sections named by the kinds). Which kinds have a body is a rule of this project.
use Rattle.std.specs.Prelude.{⊤, ℕ, [], Some, None}
use Rattle.dwg_base.specs.declared.version.Version.{Version}
use Rattle.dwg_grammar.specs.Bodies.{BodyGrammar}
use Rattle.dwg_grammar.specs.MakingBodies.{variant}
use Rattle.dwg_grammar.specs.Versions.{only_1015}
use Rattle.dwg_dicts.specs.Dictionaries.{dictionary_body}
use Rattle.dwg_dicts.specs.Entries.{layer_control_body, style_control_body, appid_control_body}
use Rattle.dwg_dicts.specs.EntriesAndTwo.{block_control_body, ltype_control_body}
use Rattle.dwg_dicts.specs.XRecords.{xrecord_body}
use Rattle.dwg_dicts.specs.DictLaws.{dictionary_is_body, block_control_is_body, layer_control_is_body, style_control_is_body, ltype_control_is_body, appid_control_is_body, xrecord_is_body}
use Rattle.dwg_entities.specs.AttdefBody.{attdef_body}
use Rattle.dwg_entities.specs.AttribBody.{attrib_body}
use Rattle.dwg_entities.specs.BlockBody.{block_body}
use Rattle.dwg_entities.specs.Closing.{endblk_body, seqend_body}
use Rattle.dwg_entities.specs.InsertBody.{insert_body}
use Rattle.dwg_entities.specs.MInsertBody.{minsert_body}
use Rattle.dwg_entities.specs.TextBody.{text_body}
use Rattle.dwg_entities.specs.BodiesLaws.{text_is_body, attrib_is_body, attdef_is_body, block_is_body, endblk_is_body, seqend_is_body, insert_is_body, minsert_is_body}
use Rattle.dwg_kinds.specs.declared.kind.Kind.TheVariants as kinds
use Rattle.dwg_kinds.specs.declared.kind.Kind.{Kind}
use Rattle.dwg_more.specs.Ellipses.{ellipse_body}
use Rattle.dwg_more.specs.Faces.{face_body}
use Rattle.dwg_more.specs.Groups.{group_body}
use Rattle.dwg_more.specs.Polylines.{polyline_body, vertex_body}
use Rattle.dwg_more.specs.Rays.{ray_body, xline_body}
use Rattle.dwg_more.specs.Solids.{solid_body, trace_body}
use Rattle.dwg_more.specs.MoreLaws.{ellipse_is_body, ray_is_body, xline_is_body, solid_is_body, trace_is_body, face_is_body, polyline_is_body, vertex_is_body, group_is_body}
use Rattle.dwg_object.specs.declared.body.Body.TheVariants as bodies
use Rattle.dwg_object.specs.declared.body.Body.{Body}
use Rattle.dwg_shapes.specs.Arcs.{arc_body}
use Rattle.dwg_shapes.specs.Circles.{circle_body}
use Rattle.dwg_shapes.specs.Lines.{line_body}
use Rattle.dwg_shapes.specs.LwPolylines.{lwpolyline_body}
use Rattle.dwg_shapes.specs.Points.{point_body}
use Rattle.dwg_shapes.specs.ShapeLaws.{arc_is_body, circle_is_body, line_is_body, point_is_body, lwpolyline_is_body}
use Rattle.dwg_tables.specs.AppIdBody.{app_id_body}
use Rattle.dwg_tables.specs.BlockHeaderBody.{block_header_body}
use Rattle.dwg_tables.specs.LayerBody.{layer_body}
use Rattle.dwg_tables.specs.LtypeBody.{ltype_body}
use Rattle.dwg_tables.specs.StyleBody.{style_body}
use Rattle.dwg_tables.specs.BlockHeaderLaws.{block_header_is_body}
use Rattle.dwg_tables.specs.TableLaws.{layer_is_body, style_is_body, ltype_is_body, app_id_is_body}

-- the kind of a body
abbrev pub body_kind : Body → Kind
body_kind (bodies.Text body) = kinds.Text
body_kind (bodies.Attrib body) = kinds.Attrib
body_kind (bodies.Attdef body) = kinds.Attdef
body_kind (bodies.Block body) = kinds.Block
body_kind (bodies.EndBlk body) = kinds.EndBlk
body_kind (bodies.SeqEnd body) = kinds.SeqEnd
body_kind (bodies.Insert body) = kinds.Insert
body_kind (bodies.MInsert body) = kinds.MInsert
body_kind (bodies.Arc body) = kinds.Arc
body_kind (bodies.Circle body) = kinds.Circle
body_kind (bodies.Line body) = kinds.Line
body_kind (bodies.Point body) = kinds.Point
body_kind (bodies.LwPolyline body) = kinds.LwPolyline
body_kind (bodies.Vertex3d body) = kinds.Vertex3d
body_kind (bodies.Polyline3d body) = kinds.Polyline3d
body_kind (bodies.Face3d body) = kinds.Face3d
body_kind (bodies.Solid body) = kinds.Solid
body_kind (bodies.Trace body) = kinds.Trace
body_kind (bodies.Ellipse body) = kinds.Ellipse
body_kind (bodies.Ray body) = kinds.Ray
body_kind (bodies.XLine body) = kinds.XLine
body_kind (bodies.Dictionary body) = kinds.Dictionary
body_kind (bodies.BlockControl body) = kinds.BlockControl
body_kind (bodies.BlockHeader body) = kinds.BlockHeader
body_kind (bodies.LayerControl body) = kinds.LayerControl
body_kind (bodies.Layer body) = kinds.Layer
body_kind (bodies.StyleControl body) = kinds.StyleControl
body_kind (bodies.Style body) = kinds.Style
body_kind (bodies.LtypeControl body) = kinds.LtypeControl
body_kind (bodies.Ltype body) = kinds.Ltype
body_kind (bodies.AppIdControl body) = kinds.AppIdControl
body_kind (bodies.AppId body) = kinds.AppId
body_kind (bodies.XRecord body) = kinds.XRecord
body_kind (bodies.Group body) = kinds.Group

-- no bits spell anything
abbrev pub no_body : {V : Type 0} → BodyGrammar V
no_body {V} = record {
  Spells = λ value main references over. ⊥;
  Fits = λ value. ⊥;
  MayFollow = λ over. ⊤;
  parse = λ main references. None;
  short_main = λ value. [];
  short_references = λ value. [];
  references = λ value. [];
}

-- what a kind has of its own, in the object of a handle; a kind without a body has nothing that could be read, nor in AC1014 one that AC1015 alone has
unfoldable pub own_body : Version → Kind → ℕ → BodyGrammar Body
own_body version kinds.Text base = variant bodies.Text (elim [ bodies.Text body ↦ Some body | other ↦ None ]) (text_body version base)
own_body version kinds.Attrib base = variant bodies.Attrib (elim [ bodies.Attrib body ↦ Some body | other ↦ None ]) (attrib_body version base)
own_body version kinds.Attdef base = variant bodies.Attdef (elim [ bodies.Attdef body ↦ Some body | other ↦ None ]) (attdef_body version base)
own_body version kinds.Block base = variant bodies.Block (elim [ bodies.Block body ↦ Some body | other ↦ None ]) (block_body base)
own_body version kinds.EndBlk base = variant bodies.EndBlk (elim [ bodies.EndBlk body ↦ Some body | other ↦ None ]) (endblk_body base)
own_body version kinds.SeqEnd base = variant bodies.SeqEnd (elim [ bodies.SeqEnd body ↦ Some body | other ↦ None ]) (seqend_body base)
own_body version kinds.Insert base = variant bodies.Insert (elim [ bodies.Insert body ↦ Some body | other ↦ None ]) (insert_body version base)
own_body version kinds.MInsert base = variant bodies.MInsert (elim [ bodies.MInsert body ↦ Some body | other ↦ None ]) (only_1015 version (minsert_body base))
own_body version kinds.Arc base = variant bodies.Arc (elim [ bodies.Arc body ↦ Some body | other ↦ None ]) (arc_body version base)
own_body version kinds.Circle base = variant bodies.Circle (elim [ bodies.Circle body ↦ Some body | other ↦ None ]) (circle_body version base)
own_body version kinds.Line base = variant bodies.Line (elim [ bodies.Line body ↦ Some body | other ↦ None ]) (line_body version base)
own_body version kinds.Point base = variant bodies.Point (elim [ bodies.Point body ↦ Some body | other ↦ None ]) (point_body version base)
own_body version kinds.LwPolyline base = variant bodies.LwPolyline (elim [ bodies.LwPolyline body ↦ Some body | other ↦ None ]) (lwpolyline_body version base)
own_body version kinds.Vertex3d base = variant bodies.Vertex3d (elim [ bodies.Vertex3d body ↦ Some body | other ↦ None ]) (only_1015 version (vertex_body base))
own_body version kinds.Polyline3d base = variant bodies.Polyline3d (elim [ bodies.Polyline3d body ↦ Some body | other ↦ None ]) (only_1015 version (polyline_body base))
own_body version kinds.Face3d base = variant bodies.Face3d (elim [ bodies.Face3d body ↦ Some body | other ↦ None ]) (only_1015 version (face_body base))
own_body version kinds.Solid base = variant bodies.Solid (elim [ bodies.Solid body ↦ Some body | other ↦ None ]) (only_1015 version (solid_body base))
own_body version kinds.Trace base = variant bodies.Trace (elim [ bodies.Trace body ↦ Some body | other ↦ None ]) (only_1015 version (trace_body base))
own_body version kinds.Ellipse base = variant bodies.Ellipse (elim [ bodies.Ellipse body ↦ Some body | other ↦ None ]) (only_1015 version (ellipse_body base))
own_body version kinds.Ray base = variant bodies.Ray (elim [ bodies.Ray body ↦ Some body | other ↦ None ]) (only_1015 version (ray_body base))
own_body version kinds.XLine base = variant bodies.XLine (elim [ bodies.XLine body ↦ Some body | other ↦ None ]) (only_1015 version (xline_body base))
own_body version kinds.Dictionary base = variant bodies.Dictionary (elim [ bodies.Dictionary body ↦ Some body | other ↦ None ]) (dictionary_body version base)
own_body version kinds.BlockControl base = variant bodies.BlockControl (elim [ bodies.BlockControl body ↦ Some body | other ↦ None ]) (block_control_body base)
own_body version kinds.BlockHeader base = variant bodies.BlockHeader (elim [ bodies.BlockHeader body ↦ Some body | other ↦ None ]) (block_header_body version base)
own_body version kinds.LayerControl base = variant bodies.LayerControl (elim [ bodies.LayerControl body ↦ Some body | other ↦ None ]) (layer_control_body base)
own_body version kinds.Layer base = variant bodies.Layer (elim [ bodies.Layer body ↦ Some body | other ↦ None ]) (layer_body version base)
own_body version kinds.StyleControl base = variant bodies.StyleControl (elim [ bodies.StyleControl body ↦ Some body | other ↦ None ]) (style_control_body base)
own_body version kinds.Style base = variant bodies.Style (elim [ bodies.Style body ↦ Some body | other ↦ None ]) (style_body base)
own_body version kinds.LtypeControl base = variant bodies.LtypeControl (elim [ bodies.LtypeControl body ↦ Some body | other ↦ None ]) (ltype_control_body base)
own_body version kinds.Ltype base = variant bodies.Ltype (elim [ bodies.Ltype body ↦ Some body | other ↦ None ]) (ltype_body base)
own_body version kinds.AppIdControl base = variant bodies.AppIdControl (elim [ bodies.AppIdControl body ↦ Some body | other ↦ None ]) (appid_control_body base)
own_body version kinds.AppId base = variant bodies.AppId (elim [ bodies.AppId body ↦ Some body | other ↦ None ]) (app_id_body base)
own_body version kinds.XRecord base = variant bodies.XRecord (elim [ bodies.XRecord body ↦ Some body | other ↦ None ]) (xrecord_body version base)
own_body version kinds.Group base = variant bodies.Group (elim [ bodies.Group body ↦ Some body | other ↦ None ]) (only_1015 version (group_body base))
own_body version kind base = no_body

-- that each of these bodies is one, by its law
pub ruleset own_laws = (
  text_is_body,
  attrib_is_body,
  attdef_is_body,
  block_is_body,
  endblk_is_body,
  seqend_is_body,
  insert_is_body,
  minsert_is_body,
  arc_is_body,
  circle_is_body,
  line_is_body,
  point_is_body,
  lwpolyline_is_body,
  vertex_is_body,
  polyline_is_body,
  face_is_body,
  solid_is_body,
  trace_is_body,
  ellipse_is_body,
  ray_is_body,
  xline_is_body,
  dictionary_is_body,
  block_control_is_body,
  block_header_is_body,
  layer_control_is_body,
  layer_is_body,
  style_control_is_body,
  style_is_body,
  ltype_control_is_body,
  ltype_is_body,
  appid_control_is_body,
  app_id_is_body,
  xrecord_is_body,
  group_is_body,
)
