-- How often the handles of items are looked up: each once at the most. A rule of this project.
use Rattle.std.specs.Prelude.{◌≤◌, ◌<◌, ◌+◌, ◌*◌, ◌^◌, ℕ, List}
use Rattle.std.specs.List.{sum_by}
use Rattle.std.specs.Option.{option_map_or}
use Rattle.dwg_common.specs.declared.app_data.AppData.{AppData}
use Rattle.dwg_object.specs.Objects.{ObjectValue}
use Rattle.dwg_appitems.specs.declared.item.AppItem.{AppItem}
use Rattle.dwg_appitems.specs.declared.item.AppItem.TheVariants.{Layer, Object}
use Rattle.dwg_appitems.specs.AppFindings.{apps_of, items_in}

-- how many handles an item refers by
abbrev pub item_references : AppItem → ℕ
item_references (Layer named) = 1
item_references (Object named) = 1
item_references other = 0

-- by how many the items of application data refer, none where its bytes are no items
unfoldable pub app_references : AppData → ℕ
app_references app = option_map_or (sum_by item_references) (items_in app.bytes) 0

-- by how many those of all objects refer
unfoldable pub all_item_references : List ObjectValue → ℕ
all_item_references objects = sum_by (λ x. sum_by app_references (apps_of x)) objects

-- so many lookups among so many objects: each takes at most as many probes as the count of objects has binary digits
abbrev pub TakeAtMost : ℕ → ℕ → ℕ → ℕ → Type 0
TakeAtMost count lookups before after = (k : ℕ) → count < 2 ^ k → after ≤ before + lookups * k
