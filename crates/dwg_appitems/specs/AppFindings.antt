-- What the references of extended data fail: layers and objects that aren't there. A rule of this project.
use Rattle.std.specs.Prelude.{◌==◌, ◌||◌, ◌&&◌, ℕ, suc, ◌+◌, Bool, true, false, List, [], ◌∷◌, ◌++◌, length, Option, option_map, if◌then◌else◌}
use Rattle.std.specs.List.{list_any, flat_map}
use Rattle.std.specs.Option.{option_map_or}
use Rattle.dwg_bits.specs.Bits.{bits}
use Rattle.dwg_grammar.specs.MakingBodies.{parse_to_end}
use Rattle.dwg_common.specs.declared.app_data.AppData.{AppData}
use Rattle.dwg_kinds.specs.declared.kind.Kind.{Kind}
use Rattle.dwg_kinds.specs.declared.kind.Kind.TheVariants as kinds
use Rattle.dwg_object.specs.declared.common.Common.{Common}
use Rattle.dwg_object.specs.declared.common.Common.TheVariants as commons
use Rattle.dwg_object.specs.Objects.{ObjectValue, TypedValue, PlainValue, RawValue, handle_of, kind_of}
use Rattle.dwg_appitems.specs.declared.item.AppItem.{AppItem}
use Rattle.dwg_appitems.specs.declared.item.AppItem.TheVariants.{Layer, Object}
use Rattle.dwg_appitems.specs.declared.finding.AppFinding.{AppFinding}
use Rattle.dwg_appitems.specs.Items.{item}

-- the application data of an object, none of a Raw one
abbrev pub apps_of_common : Common → List AppData
apps_of_common (commons.Entity common) = common.app
apps_of_common (commons.Object common) = common.app

abbrev pub apps_of : ObjectValue → List AppData
apps_of (TypedValue number handle common body) = apps_of_common common
apps_of (PlainValue number handle common rest refs) = apps_of_common common
apps_of (RawValue number handle bytes) = []

-- the items that bytes are, if they are items (`AreItems`)
unfoldable pub items_in : List ℕ → Option (List AppItem)
items_in bytes = option_map (λ (found : List AppItem × List Bool). found.0) (parse_to_end 1 item (suc (length (bits bytes))) (bits bytes))

-- a kind is LAYER
abbrev pub is_layer : Kind → Bool
is_layer kinds.Layer = true
is_layer other = false

-- what an item refers to is there: a layer is an object of kind LAYER, and an object is any, or null
abbrev pub is_met : List ObjectValue → AppItem → Bool
is_met objects (Layer named) = list_any (λ x. handle_of x == named && is_layer (kind_of x)) objects
is_met objects (Object named) = named == 0 || list_any (λ x. handle_of x == named) objects
is_met objects other = true

-- the handle that an item refers by
abbrev pub target_of : AppItem → ℕ
target_of (Layer named) = named
target_of (Object named) = named
target_of other = 0

-- what is found of the item of a number in the application data of a number
abbrev pub item_findings : List ObjectValue → ℕ → ℕ → ℕ → AppItem → List AppFinding
item_findings objects handle index place one =
    if is_met objects one then [] else record { handle = handle; index = index; item = place; target = target_of one } ∷ []

-- of items, of which the first has this number
unfoldable pub items_findings : List ObjectValue → ℕ → ℕ → ℕ → List AppItem → List AppFinding
items_findings objects handle index place [] = []
items_findings objects handle index place (one ∷ more) = item_findings objects handle index place one ++ items_findings objects handle index (place + 1) more

-- of application data, of which the first has this number; bytes that are no items have no findings
unfoldable pub apps_findings : List ObjectValue → ℕ → ℕ → List AppData → List AppFinding
apps_findings objects handle index [] = []
apps_findings objects handle index (app ∷ more) =
    option_map_or (items_findings objects handle index 0) (items_in app.bytes) [] ++ apps_findings objects handle (index + 1) more

-- what the items of all Typed and Plain objects refer to and isn't there, in order of object, application data and item
unfoldable pub app_findings : List ObjectValue → List AppFinding
app_findings objects = flat_map (λ x. apps_findings objects (handle_of x) 0 (apps_of x)) objects
