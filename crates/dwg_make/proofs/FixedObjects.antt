-- The controls, dictionaries and table entries of a made drawing are valid and small.
use Rattle.std.proofs.Common.{refl, ℕ, ◌^◌, ◌<◌, List, [], ◌∷◌, arith}
use Rattle.std.specs.Prelude.{codes}
use Rattle.std.specs.List.{AllByRecursion}
use Rattle.dwg_base.specs.declared.version.Version.TheVariants.{Ac1015}
use Rattle.dwg_dicts.specs.Dictionaries.{dictionary_body}
use Rattle.dwg_dicts.specs.Entries.{layer_control_body, style_control_body, appid_control_body}
use Rattle.dwg_dicts.specs.EntriesAndTwo.{block_control_body, ltype_control_body}
use Rattle.dwg_dicts.specs.XRecords.{xrecord_body}
use Rattle.dwg_file.proofs.ObjectSize.{IsSmall}
use Rattle.dwg_kinds.specs.Kinds.{TYPED_KINDS, fixed_kind_of, kind_at, is_entity_kind}
use Rattle.dwg_object.specs.declared.body.Body.TheVariants as bodies
use Rattle.dwg_object.specs.OwnBodies.{own_body}
use Rattle.dwg_tables.specs.AppIdBody.{app_id_body}
use Rattle.dwg_tables.specs.LayerBody.{layer_body}
use Rattle.dwg_tables.specs.LtypeBody.{ltype_body}
use Rattle.dwg_tables.specs.StyleBody.{style_body}
use Rattle.dwg_make.specs.Fixed.{block_control, layer_control, style_control, ltype_control, appid_control, dictionary, xrecord, layer, style, appid, ltype, controls, dictionaries, table_entries, by_block, by_layer, continuous}
use Rattle.dwg_make.specs.Parts.{soft_owner}
use Rattle.dwg_make.proofs.ObjectsMade.{BODY_BYTES}
use Rattle.dwg_make.proofs.DictsMade.{one_owner, two_owners, layer_control_made, style_control_made, appid_control_made, block_control_made, ltype_control_made, dictionary_made, xrecord_made}
use Rattle.dwg_make.proofs.FormsMade.{other_small}
use Rattle.dwg_make.proofs.PartsMade.{IsWord, word_passed, variant_made}
use Rattle.dwg_make.proofs.TablesMade.{layer_made, style_made, appid_made, ltype_made}

-- the controls
block_control_small : IsSmall Ac1015 [] BODY_BYTES block_control
unfolding block_control own_body kind_at fixed_kind_of TYPED_KINDS is_entity_kind
block_control_small = other_small 48 0x1 0 _ (omega arith) (record {
  low = omega arith;
  some = omega arith;
  small = omega arith;
  kind = refl;
  entity = refl;
  made = variant_made bodies.BlockControl _ (block_control_body 0x1) _ refl (block_control_made 0x1 (soft_owner 0x20 ∷ []) 0x18 0x1B (one_owner 0x1 0x20 (omega arith)) (omega arith) (omega arith));
})

layer_control_small : IsSmall Ac1015 [] BODY_BYTES layer_control
unfolding layer_control own_body kind_at fixed_kind_of TYPED_KINDS is_entity_kind
layer_control_small = other_small 50 0x2 0 _ (omega arith) (record {
  low = omega arith;
  some = omega arith;
  small = omega arith;
  kind = refl;
  entity = refl;
  made = variant_made bodies.LayerControl _ (layer_control_body 0x2) _ refl (layer_control_made 0x2 (soft_owner 0x10 ∷ soft_owner 0x17 ∷ []) (two_owners 0x2 0x10 0x17 (omega arith) (omega arith)));
})

style_control_small : IsSmall Ac1015 [] BODY_BYTES style_control
unfolding style_control own_body kind_at fixed_kind_of TYPED_KINDS is_entity_kind
style_control_small = other_small 52 0x3 0 _ (omega arith) (record {
  low = omega arith;
  some = omega arith;
  small = omega arith;
  kind = refl;
  entity = refl;
  made = variant_made bodies.StyleControl _ (style_control_body 0x3) _ refl (style_control_made 0x3 (soft_owner 0x11 ∷ []) (one_owner 0x3 0x11 (omega arith)));
})

ltype_control_small : IsSmall Ac1015 [] BODY_BYTES ltype_control
unfolding ltype_control own_body kind_at fixed_kind_of TYPED_KINDS is_entity_kind
ltype_control_small = other_small 56 0x5 0 _ (omega arith) (record {
  low = omega arith;
  some = omega arith;
  small = omega arith;
  kind = refl;
  entity = refl;
  made = variant_made bodies.LtypeControl _ (ltype_control_body 0x5) _ refl (ltype_control_made 0x5 (soft_owner 0x16 ∷ []) 0x14 0x15 (one_owner 0x5 0x16 (omega arith)) (omega arith) (omega arith));
})

appid_control_small : IsSmall Ac1015 [] BODY_BYTES appid_control
unfolding appid_control own_body kind_at fixed_kind_of TYPED_KINDS is_entity_kind
appid_control_small = other_small 66 0x9 0 _ (omega arith) (record {
  low = omega arith;
  some = omega arith;
  small = omega arith;
  kind = refl;
  entity = refl;
  made = variant_made bodies.AppIdControl _ (appid_control_body 0x9) _ refl (appid_control_made 0x9 (soft_owner 0x12 ∷ []) (one_owner 0x9 0x12 (omega arith)));
})

pub controls_small : AllByRecursion (IsSmall Ac1015 [] BODY_BYTES) controls
unfolding controls
controls_small = (block_control_small, (layer_control_small, (style_control_small, (ltype_control_small, (appid_control_small, tt)))))

-- dictionaries and a record
dictionary_small : (handle owner : ℕ) (name : List ℕ) (item : ℕ) → 0 < handle → handle < 2 ^ 32 → owner < 2 ^ 32 → item < 2 ^ 32 → IsWord name → IsSmall Ac1015 [] BODY_BYTES (dictionary handle owner name item)
unfolding dictionary own_body kind_at fixed_kind_of TYPED_KINDS is_entity_kind
dictionary_small handle owner name item some small near far word = other_small 42 handle owner _ near (record {
  low = omega arith;
  some = some;
  small = small;
  kind = refl;
  entity = refl;
  made = variant_made bodies.Dictionary _ (dictionary_body Ac1015 handle) _ refl (dictionary_made handle name item word (omega (arith, far)));
})

xrecord_small : IsSmall Ac1015 [] BODY_BYTES xrecord
unfolding xrecord own_body kind_at fixed_kind_of TYPED_KINDS is_entity_kind
xrecord_small = other_small 79 0xE 0xD _ (omega arith) (record {
  low = omega arith;
  some = omega arith;
  small = omega arith;
  kind = refl;
  entity = refl;
  made = variant_made bodies.XRecord _ (xrecord_body Ac1015 0xE) _ refl (xrecord_made 0xE 0x10 (omega arith));
})

pub dictionaries_small : AllByRecursion (IsSmall Ac1015 [] BODY_BYTES) dictionaries
unfolding dictionaries
dictionaries_small = (
  dictionary_small 0xC 0 (codes "NOTES") 0xD (omega arith) (omega arith) (omega arith) (omega arith) (word_passed (codes "NOTES") refl refl),
  (
    dictionary_small 0xD 0xC (codes "FIRST") 0xE (omega arith) (omega arith) (omega arith) (omega arith) (word_passed (codes "FIRST") refl refl),
    (xrecord_small, tt),
  ),
)

-- table entries
layer_small : (handle : ℕ) (name : List ℕ) (colour : ℕ) → 0 < handle → handle < 2 ^ 32 → colour < 2 ^ 16 → IsWord name → IsSmall Ac1015 [] BODY_BYTES (layer handle name colour)
unfolding layer own_body kind_at fixed_kind_of TYPED_KINDS is_entity_kind
layer_small handle name colour some small range word = other_small 51 handle 0x2 _ (omega arith) (record {
  low = omega arith;
  some = some;
  small = small;
  kind = refl;
  entity = refl;
  made = variant_made bodies.Layer _ (layer_body Ac1015 handle) _ refl (layer_made handle name colour word range);
})

style_small : IsSmall Ac1015 [] BODY_BYTES style
unfolding style own_body kind_at fixed_kind_of TYPED_KINDS is_entity_kind
style_small = other_small 53 0x11 0x3 _ (omega arith) (record {
  low = omega arith;
  some = omega arith;
  small = omega arith;
  kind = refl;
  entity = refl;
  made = variant_made bodies.Style _ (style_body 0x11) _ refl (style_made 0x11 (codes "STANDARD") (codes "txt") (word_passed (codes "STANDARD") refl refl) (word_passed (codes "txt") refl refl));
})

appid_small : IsSmall Ac1015 [] BODY_BYTES appid
unfolding appid own_body kind_at fixed_kind_of TYPED_KINDS is_entity_kind
appid_small = other_small 67 0x12 0x9 _ (omega arith) (record {
  low = omega arith;
  some = omega arith;
  small = omega arith;
  kind = refl;
  entity = refl;
  made = variant_made bodies.AppId _ (app_id_body 0x12) _ refl (appid_made 0x12 (codes "ACAD") (word_passed (codes "ACAD") refl refl));
})

ltype_small : (handle : ℕ) (name : List ℕ) → 0 < handle → handle < 2 ^ 32 → IsWord name → IsSmall Ac1015 [] BODY_BYTES (ltype handle name)
unfolding ltype own_body kind_at fixed_kind_of TYPED_KINDS is_entity_kind
ltype_small handle name some small word = other_small 57 handle 0x5 _ (omega arith) (record {
  low = omega arith;
  some = some;
  small = small;
  kind = refl;
  entity = refl;
  made = variant_made bodies.Ltype _ (ltype_body handle) _ refl (ltype_made handle name word);
})

pub entries_small : AllByRecursion (IsSmall Ac1015 [] BODY_BYTES) table_entries
unfolding table_entries by_block by_layer continuous
entries_small = (
  layer_small 0x10 (codes "0") 7 (omega arith) (omega arith) (omega arith) (word_passed (codes "0") refl refl),
  (
    style_small,
    (
      appid_small,
      (
        ltype_small 0x14 (codes "BYBLOCK") (omega arith) (omega arith) (word_passed (codes "BYBLOCK") refl refl),
        (
          ltype_small 0x15 (codes "BYLAYER") (omega arith) (omega arith) (word_passed (codes "BYLAYER") refl refl),
          (
            ltype_small 0x16 (codes "CONTINUOUS") (omega arith) (omega arith) (word_passed (codes "CONTINUOUS") refl refl),
            (layer_small 0x17 (codes "WALLS") 1 (omega arith) (omega arith) (omega arith) (word_passed (codes "WALLS") refl refl), tt),
          ),
        ),
      ),
    ),
  ),
)
