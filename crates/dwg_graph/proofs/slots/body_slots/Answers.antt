use Rattle.std.proofs.Common.{◌≡◌, refl}
use Rattle.dwg_dicts.specs.declared.appid_control.AppIdControl.{AppIdControl}
use Rattle.dwg_dicts.specs.declared.block_control.BlockControl.{BlockControl}
use Rattle.dwg_dicts.specs.declared.dictionary.Dictionary.{Dictionary}
use Rattle.dwg_dicts.specs.declared.layer_control.LayerControl.{LayerControl}
use Rattle.dwg_dicts.specs.declared.ltype_control.LtypeControl.{LtypeControl}
use Rattle.dwg_dicts.specs.declared.style_control.StyleControl.{StyleControl}
use Rattle.dwg_dicts.specs.declared.xrecord.XRecord.{XRecord}
use Rattle.dwg_entities.specs.declared.attdef.Attdef.{Attdef}
use Rattle.dwg_entities.specs.declared.attrib.Attrib.{Attrib}
use Rattle.dwg_entities.specs.declared.insert.Insert.{Insert}
use Rattle.dwg_entities.specs.declared.minsert.MInsert.{MInsert}
use Rattle.dwg_entities.specs.declared.text.Text.{Text}
use Rattle.dwg_graph.specs.declared.slot_walk.Walk.{Walk}
use Rattle.dwg_graph.specs.Slots.{held_by_body}
use Rattle.dwg_graph.specs.SlotWalks.{PassesFields}
use Rattle.dwg_graph.proofs.Passing.{passes_end}
use Rattle.dwg_graph.proofs.slots.body_slots.Goals as goal
use Rattle.dwg_more.specs.declared.group.Group.{Group}
use Rattle.dwg_more.specs.declared.polyline.Polyline3d.{Polyline3d}
use Rattle.dwg_object.specs.declared.body.Body.TheVariants as bodies
use Rattle.dwg_object.specs.declared.body.Body.{Body}
use Rattle.dwg_tables.specs.declared.app_id.AppId.{AppId}
use Rattle.dwg_tables.specs.declared.block_header.BlockHeader.{BlockHeader}
use Rattle.dwg_tables.specs.declared.layer.Layer.{Layer}
use Rattle.dwg_tables.specs.declared.ltype.Ltype.{Ltype}
use Rattle.dwg_tables.specs.declared.style.Style.{Style}

-- a body of none of these kinds refers to nothing
unlisted : (walk : Walk) (body : Body)
    → ((x : Text) → body ≡ bodies.Text x → ⊥)
    → ((x : Attrib) → body ≡ bodies.Attrib x → ⊥)
    → ((x : Attdef) → body ≡ bodies.Attdef x → ⊥)
    → ((x : Insert) → body ≡ bodies.Insert x → ⊥)
    → ((x : MInsert) → body ≡ bodies.MInsert x → ⊥)
    → ((x : Polyline3d) → body ≡ bodies.Polyline3d x → ⊥)
    → ((x : Dictionary) → body ≡ bodies.Dictionary x → ⊥)
    → ((x : BlockControl) → body ≡ bodies.BlockControl x → ⊥)
    → ((x : BlockHeader) → body ≡ bodies.BlockHeader x → ⊥)
    → ((x : LayerControl) → body ≡ bodies.LayerControl x → ⊥)
    → ((x : Layer) → body ≡ bodies.Layer x → ⊥)
    → ((x : StyleControl) → body ≡ bodies.StyleControl x → ⊥)
    → ((x : Style) → body ≡ bodies.Style x → ⊥)
    → ((x : LtypeControl) → body ≡ bodies.LtypeControl x → ⊥)
    → ((x : Ltype) → body ≡ bodies.Ltype x → ⊥)
    → ((x : AppIdControl) → body ≡ bodies.AppIdControl x → ⊥)
    → ((x : AppId) → body ≡ bodies.AppId x → ⊥)
    → ((x : XRecord) → body ≡ bodies.XRecord x → ⊥)
    → ((x : Group) → body ≡ bodies.Group x → ⊥)
    → PassesFields walk (held_by_body body) walk
unfolding held_by_body
unlisted walk (bodies.Text x) is _ _ _ _ _ _ _ _ _ _ _ _ _ _ _ _ _ _ = absurd (is x refl)
unlisted walk (bodies.Attrib x) _ is _ _ _ _ _ _ _ _ _ _ _ _ _ _ _ _ _ = absurd (is x refl)
unlisted walk (bodies.Attdef x) _ _ is _ _ _ _ _ _ _ _ _ _ _ _ _ _ _ _ = absurd (is x refl)
unlisted walk (bodies.Insert x) _ _ _ is _ _ _ _ _ _ _ _ _ _ _ _ _ _ _ = absurd (is x refl)
unlisted walk (bodies.MInsert x) _ _ _ _ is _ _ _ _ _ _ _ _ _ _ _ _ _ _ = absurd (is x refl)
unlisted walk (bodies.Polyline3d x) _ _ _ _ _ is _ _ _ _ _ _ _ _ _ _ _ _ _ = absurd (is x refl)
unlisted walk (bodies.Dictionary x) _ _ _ _ _ _ is _ _ _ _ _ _ _ _ _ _ _ _ = absurd (is x refl)
unlisted walk (bodies.BlockControl x) _ _ _ _ _ _ _ is _ _ _ _ _ _ _ _ _ _ _ = absurd (is x refl)
unlisted walk (bodies.BlockHeader x) _ _ _ _ _ _ _ _ is _ _ _ _ _ _ _ _ _ _ = absurd (is x refl)
unlisted walk (bodies.LayerControl x) _ _ _ _ _ _ _ _ _ is _ _ _ _ _ _ _ _ _ = absurd (is x refl)
unlisted walk (bodies.Layer x) _ _ _ _ _ _ _ _ _ _ is _ _ _ _ _ _ _ _ = absurd (is x refl)
unlisted walk (bodies.StyleControl x) _ _ _ _ _ _ _ _ _ _ _ is _ _ _ _ _ _ _ = absurd (is x refl)
unlisted walk (bodies.Style x) _ _ _ _ _ _ _ _ _ _ _ _ is _ _ _ _ _ _ = absurd (is x refl)
unlisted walk (bodies.LtypeControl x) _ _ _ _ _ _ _ _ _ _ _ _ _ is _ _ _ _ _ = absurd (is x refl)
unlisted walk (bodies.Ltype x) _ _ _ _ _ _ _ _ _ _ _ _ _ _ is _ _ _ _ = absurd (is x refl)
unlisted walk (bodies.AppIdControl x) _ _ _ _ _ _ _ _ _ _ _ _ _ _ _ is _ _ _ = absurd (is x refl)
unlisted walk (bodies.AppId x) _ _ _ _ _ _ _ _ _ _ _ _ _ _ _ _ is _ _ = absurd (is x refl)
unlisted walk (bodies.XRecord x) _ _ _ _ _ _ _ _ _ _ _ _ _ _ _ _ _ is _ = absurd (is x refl)
unlisted walk (bodies.Group x) _ _ _ _ _ _ _ _ _ _ _ _ _ _ _ _ _ _ is = absurd (is x refl)
unlisted walk body _ _ _ _ _ _ _ _ _ _ _ _ _ _ _ _ _ _ _ = passes_end walk

pub returns-in_default : goal.returns-in_default
returns-in_default c =
    let is = c.in_default in
    unlisted c.args.walk c.args.body.now is.not-Text is.not-Attrib is.not-Attdef is.not-Insert is.not-MInsert is.not-Polyline3d is.not-Dictionary is.not-BlockControl is.not-BlockHeader is.not-LayerControl is.not-Layer is.not-StyleControl is.not-Style is.not-LtypeControl is.not-Ltype is.not-AppIdControl is.not-AppId is.not-XRecord is.not-Group
