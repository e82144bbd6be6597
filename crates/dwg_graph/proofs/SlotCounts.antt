-- The slots of an object are no more than its references and the items of its application data, and each of these has eight bits at the least.
use Rattle.std.proofs.Common.{◌≡◌, refl, ap, ℕ, ◌+◌, ◌*◌, ◌<◌, ◌≤◌, ◌^◌, Bool, true, false, List, [], ◌∷◌, ◌++◌, length, Option, Some, None, arith, length-append}
use Rattle.dwg_base.specs.declared.version.Version.{Version}
use Rattle.dwg_base.specs.declared.version.Version.TheVariants.{Ac1014, Ac1015}
use Rattle.dwg_common.specs.declared.bit_layout.Layout.{Layout}
use Rattle.std.proofs.lemmas.List.{length-map}
use Rattle.std.specs.Option.{option_map, option_map_or}
use Rattle.dwg_grammar.specs.Codes.{bs}
use Rattle.dwg_grammar.specs.Combinators.{until, SpellsUntil}
use Rattle.dwg_grammar.specs.ToEnd.{SpellsAll}
use Rattle.dwg_common.specs.AppList.{app_item, app_list}
use Rattle.dwg_grammar.specs.Bodies.{BodyGrammar, IsBody}
use Rattle.dwg_common.specs.declared.app_data.AppData.{AppData}
use Rattle.dwg_common.specs.declared.entity.EntityCommon.{EntityCommon}
use Rattle.dwg_common.specs.declared.entity.Links.{Links}
use Rattle.dwg_common.specs.declared.object.ObjectCommon.{ObjectCommon}
use Rattle.dwg_common.specs.Entities.{entity_common}
use Rattle.dwg_common.specs.NonEntities.{object_common}
use Rattle.dwg_dicts.specs.Dictionaries.{dictionary_body}
use Rattle.dwg_dicts.specs.Entries.{layer_control_body, style_control_body, appid_control_body}
use Rattle.dwg_dicts.specs.EntriesAndTwo.{block_control_body, ltype_control_body}
use Rattle.dwg_dicts.specs.XRecords.{xrecord_body}
use Rattle.dwg_entities.specs.AttdefBody.{attdef_body}
use Rattle.dwg_entities.specs.AttribBody.{attrib_body}
use Rattle.dwg_entities.specs.BlockBody.{block_body}
use Rattle.dwg_entities.specs.Closing.{endblk_body, seqend_body}
use Rattle.dwg_entities.specs.InsertBody.{insert_body}
use Rattle.dwg_entities.specs.MInsertBody.{minsert_body}
use Rattle.dwg_entities.specs.TextBody.{text_body}
use Rattle.dwg_entities.specs.declared.insert.Attributes.{Attributes}
use Rattle.dwg_graph.proofs.FieldLists.{count_of, slots_counted}
use Rattle.dwg_graph.specs.Slots.{FieldReferences, held_by_entity, held_by_object, held_by_common, held_by_body, slots}
use Rattle.dwg_graph.specs.SlotLaws.{NoneIsLeftOut, SlotsAreFew, count_of_common, owners_of_common}
use Rattle.dwg_grammar.specs.Reference.{Reference}
use Rattle.dwg_grammar.specs.ReferenceCodes.{reference}
use Rattle.dwg_grammar.proofs.ReferenceLemmas.{reference_least}
use Rattle.dwg_more.specs.Groups.{group_body}
use Rattle.dwg_more.specs.Polylines.{polyline_body}
use Rattle.dwg_object.proofs.CommonForms.{common_is_body, common_may_follow, layout_small}
use Rattle.dwg_object.specs.declared.body.Body.TheVariants as bodies
use Rattle.dwg_object.specs.declared.body.Body.{Body}
use Rattle.dwg_object.specs.declared.common.Common.TheVariants as commons
use Rattle.dwg_object.specs.declared.common.Common.{Common}
use Rattle.dwg_object.specs.Forms.{common_part, layout_in}
use Rattle.dwg_object.proofs.FormLaws.{length_of_frame}
use Rattle.dwg_object.specs.Objects.{TypedValue, PlainValue, RawValue, is_of_entity}
use Rattle.dwg_object.specs.OwnBodies.{body_kind, own_body}
use Rattle.dwg_object.proofs.OwnLaws.{own_is_body}
use Rattle.dwg_object.specs.Written.{common_main, common_refs, object_bits, own_main, own_refs}
use Rattle.dwg_object.proofs.WrittenLemmas.{bytes_padded, length_of_object}
use Rattle.dwg_tables.specs.AppIdBody.{app_id_body}
use Rattle.dwg_tables.specs.BlockHeaderBody.{block_header_body}
use Rattle.dwg_tables.specs.declared.block_header.Ends.{Ends}
use Rattle.dwg_tables.specs.LayerBody.{layer_body}
use Rattle.dwg_tables.specs.LtypeBody.{ltype_body}
use Rattle.dwg_tables.specs.StyleBody.{style_body}

-- references have eight bits each at the least
all_least : (base : ℕ) (references : List Reference) (letters : List Bool) → SpellsAll (reference base) references letters → 8 * length references ≤ length letters
all_least base [] letters spelled = omega arith
all_least base (value ∷ more) letters (prefix, back, one, others, same) =
    omega (arith, reference_least base value prefix one, all_least base more back others, ap length same, length-append prefix back)

-- what is written of a body's references has eight bits for each
pub written_least : {V : Type 0} (base : ℕ) (part : BodyGrammar V) (value : V) → IsBody base part → part.Fits value
    → 8 * length (part.references value) ≤ length (part.short_references value)
written_least {V} base part value is fits =
    all_least base (part.references value) (part.short_references value)
    (is.listed value (part.short_main value) (part.short_references value) 0 (is.canonical value 0 fits (is.padded 0 (omega arith))))

-- an item of application data has eight bits at the least
item_least : (base size : ℕ) (item : AppData) (letters : List Bool) → (app_item base size).Spells item letters → 8 ≤ length letters
item_least base size item letters (inner, is, (prefix, back, application, bytes, same)) =
    omega (arith, reference_least base inner.0 prefix application, ap length same, length-append prefix back)

-- items up to a mark
until_least : (base : ℕ) (listed : List AppData) (letters : List Bool) → SpellsUntil bs 0 (app_item base) listed letters → 8 * length listed ≤ length letters
until_least base [] letters spelled = omega arith
until_least base (item ∷ more) letters (tag, prefix, middle, back, other, tag_spelled, one, others, same) =
    omega (
      arith,
      item_least base tag item middle one,
      until_least base more back others,
      ap length same,
      length-append (prefix ++ middle) back,
      length-append prefix middle,
    )

-- application data
apps_least : (base : ℕ) (listed : List AppData) (letters : List Bool) → (app_list base).Spells listed letters → 8 * length listed ≤ length letters
unfolding app_list until
apps_least base listed letters spelled = until_least base listed letters spelled

-- the application data of an entity stand in its main bits
entity_apps : (layout : Layout) (base : ℕ) (common : EntityCommon) (main references : List Bool) (over : ℕ) → (entity_common layout base).Spells common main references over
    → 8 * length common.app ≤ length main
unfolding entity_common
entity_apps layout base common main references over (reported, named, is, (prefix, back, (first, after, apps, others, cut), look, same), names) =
    omega (
      arith,
      apps_least base reported.0.0 first apps,
      ap (λ (one : EntityCommon). length one.app) is,
      ap length same,
      length-append prefix back,
      ap length cut,
      length-append first after,
    )

-- and of any other object
object_apps : (layout : Layout) (base : ℕ) (common : ObjectCommon) (main references : List Bool) (over : ℕ) → (object_common layout base).Spells common main references over
    → 8 * length common.app ≤ length main
unfolding object_common
object_apps layout base common main references over (reported, named, is, (prefix, back, apps, count, same), names) =
    omega (arith, apps_least base reported.0 prefix apps, ap (λ (one : ObjectCommon). length one.app) is, ap length same, length-append prefix back)

-- two fields that may be there together have a reference each where they are
two_counted : {A : Type 0} (first second : A → Reference) (thing : Option A)
    → length (option_map_or (λ there. there ∷ []) (option_map first thing) []) + length (option_map_or (λ there. there ∷ []) (option_map second thing) [])
    ≡ length (option_map_or (λ both. first both ∷ second both ∷ []) thing [])
two_counted first second None = refl
two_counted first second (Some both) = refl

-- and so have three
three_counted : {A : Type 0} (first second third : A → Reference) (thing : Option A)
    → length (option_map_or (λ there. there ∷ []) (option_map first thing) []) + length (option_map_or (λ there. there ∷ []) (option_map second thing) [])
    + length (option_map_or (λ there. there ∷ []) (option_map third thing) [])
    ≡ length (option_map_or (λ all. first all ∷ second all ∷ third all ∷ []) thing [])
three_counted first second third None = refl
three_counted first second third (Some all) = refl

-- a common part holds as many references as it has items of application data and references, but for that to its owner
common_counted : (handle : ℕ) (common : Common) (more : List FieldReferences)
    → count_of (held_by_common common ++ more) + owners_of_common common ≡ count_of_common handle common + count_of more
unfolding held_by_common held_by_entity held_by_object entity_common object_common
common_counted handle (commons.Entity common) more =
    simp (length-append, length-map) (omega (arith, two_counted (λ (links : Links). links.previous) (λ links. links.next) common.links))
common_counted handle (commons.Object common) more = simp (length-append, length-map) (omega arith)

-- and a kind as many of its own as its body names
own_counted : (base : ℕ) (body : Body) → count_of (held_by_body body) ≡ length ((own_body Ac1015 (body_kind body) base).references body)
unfolding held_by_body own_body text_body attrib_body attdef_body block_body endblk_body seqend_body insert_body minsert_body polyline_body dictionary_body block_control_body block_header_body layer_control_body layer_body style_control_body style_body ltype_control_body ltype_body appid_control_body app_id_body xrecord_body group_body
own_counted base (bodies.Insert body) =
    omega (arith, length-append {A = Reference}, three_counted (λ (all : Attributes). all.first) (λ all. all.last) (λ all. all.seqend) body.attributes)
own_counted base (bodies.MInsert body) =
    omega (arith, length-append {A = Reference}, three_counted (λ (all : Attributes). all.first) (λ all. all.last) (λ all. all.seqend) body.insert.attributes)
own_counted base (bodies.BlockHeader body) = omega (arith, length-append {A = Reference}, two_counted (λ (ends : Ends). ends.first) (λ ends. ends.last) body.ends)
own_counted base body = omega (arith, length-append {A = Reference})

-- a Typed object has a slot for each item of application data and each reference, but for that to its owner
pub none_is_left_out : NoneIsLeftOut
unfolding slots
none_is_left_out number handle common body =
    omega (arith, slots_counted (held_by_common common ++ held_by_body body), common_counted handle common (held_by_body body), own_counted handle body)

-- how many items of application data and references a common part has in a version
abbrev count_in : Version → ℕ → Common → ℕ
count_in version handle (commons.Entity common) = length common.app + length ((entity_common (layout_in version 0) handle).references common)
count_in version handle (commons.Object common) = length common.app + length ((object_common (layout_in version 0) handle).references common)

-- as many as in AC1015
same_count : (version : Version) (handle : ℕ) (common : Common) → count_in version handle common ≡ count_of_common handle common
unfolding entity_common object_common
same_count Ac1015 handle (commons.Entity common) = refl
same_count Ac1015 handle (commons.Object common) = refl
same_count Ac1014 handle (commons.Entity common) = simp (length-append) (omega arith)
same_count Ac1014 handle (commons.Object common) = refl

-- of a kind's own references AC1014 leaves out one at the most
own_counted_in : (version : Version) (base : ℕ) (body : Body) → count_of (held_by_body body) ≤ length ((own_body version (body_kind body) base).references body) + 1
unfolding held_by_body own_body text_body attrib_body attdef_body block_body endblk_body seqend_body insert_body minsert_body polyline_body dictionary_body block_control_body block_header_body layer_control_body layer_body style_control_body style_body ltype_control_body ltype_body appid_control_body app_id_body xrecord_body group_body
own_counted_in Ac1015 base body = omega (arith, own_counted base body)
own_counted_in Ac1014 base (bodies.Insert body) =
    omega (arith, length-append {A = Reference}, three_counted (λ (all : Attributes). all.first) (λ all. all.last) (λ all. all.seqend) body.attributes)
own_counted_in Ac1014 base (bodies.MInsert body) =
    omega (arith, length-append {A = Reference}, three_counted (λ (all : Attributes). all.first) (λ all. all.last) (λ all. all.seqend) body.insert.attributes)
own_counted_in Ac1014 base (bodies.BlockHeader body) = omega (arith, length-append {A = Reference}, two_counted (λ (ends : Ends). ends.first) (λ ends. ends.last) body.ends)
own_counted_in Ac1014 base body = omega (arith, length-append {A = Reference})

-- a common part is written by eight bits for each of these at the least
common_bound : (version : Version) (handle : ℕ) (common : Common) → handle < 2 ^ 63 → (common_part (layout_in version 0) (is_of_entity common) handle).Fits common
    → 8 * count_in version handle common ≤ length (common_main (layout_in version 0) handle common) + length (common_refs (layout_in version 0) handle common)
common_bound version handle (commons.Entity common) small fits =
    let layout : Layout = layout_in version 0 in
    let is = common_is_body layout true handle (layout_small version 0 (omega arith)) small in
    let spelled = is.canonical (commons.Entity common) 0 fits (common_may_follow layout true handle 0) in
    let same : spelled.0 ≡ common = cc in
    omega (
      arith,
      written_least handle (common_part layout true handle) (commons.Entity common) is fits,
      entity_apps layout handle spelled.0 (common_main layout handle (commons.Entity common)) (common_refs layout handle (commons.Entity common)) 0 spelled.2,
      ap (λ (one : EntityCommon). length one.app) same,
    )
common_bound version handle (commons.Object common) small fits =
    let layout : Layout = layout_in version 0 in
    let is = common_is_body layout false handle (layout_small version 0 (omega arith)) small in
    let spelled = is.canonical (commons.Object common) 0 fits (common_may_follow layout false handle 0) in
    let same : spelled.0 ≡ common = cc in
    omega (
      arith,
      written_least handle (common_part layout false handle) (commons.Object common) is fits,
      object_apps layout handle spelled.0 (common_main layout handle (commons.Object common)) (common_refs layout handle (commons.Object common)) 0 spelled.2,
      ap (λ (one : ObjectCommon). length one.app) same,
    )

-- an object's frame has more bytes than it has slots: that AC1014 leaves out a reference is made up for by the check word
pub slots_are_few : SlotsAreFew
unfolding slots
slots_are_few version classes (TypedValue number handle common body) valid =
    let fit = valid.0.fits in
    let small : handle < 2 ^ 63 = valid.0.handle_fits in
    omega (
      arith,
      slots_counted (held_by_common common ++ held_by_body body),
      common_counted handle common (held_by_body body),
      own_counted_in version handle body,
      same_count version handle common,
      common_bound version handle common small fit.1,
      written_least handle (own_body version (body_kind body) handle) body (own_is_body version (body_kind body) handle small) fit.2,
      length_of_object version number handle common (own_main version handle body) (own_refs version handle body),
      (bytes_padded (object_bits version number handle common (own_main version handle body) (own_refs version handle body))).enough,
      length_of_frame version (TypedValue number handle common body),
    )
slots_are_few version classes (PlainValue number handle common rest refs) valid = omega (arith, length_of_frame version (PlainValue number handle common rest refs))
slots_are_few version classes (RawValue number handle bytes) valid = omega (arith, length_of_frame version (RawValue number handle bytes))
