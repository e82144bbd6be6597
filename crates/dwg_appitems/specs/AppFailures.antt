-- What a finding of items says: which item of extended data refers to what isn't there. A rule of this project.
use Rattle.std.specs.Prelude.{◌≡◌, ◌≢◌, ◌⊎◌, ℕ, ◌<◌, List, Some, Contains}
use Rattle.std.specs.List.{slice_get}
use Rattle.dwg_common.specs.declared.app_data.AppData.{AppData}
use Rattle.dwg_kinds.specs.declared.kind.Kind.TheVariants as kinds
use Rattle.dwg_object.specs.Objects.{ObjectValue, handle_of, kind_of}
use Rattle.dwg_appitems.specs.declared.item.AppItem.{AppItem}
use Rattle.dwg_appitems.specs.declared.item.AppItem.TheVariants.{Layer, Object}
use Rattle.dwg_appitems.specs.declared.finding.AppFinding.{AppFinding}
use Rattle.dwg_appitems.specs.AppFindings.{apps_of, target_of}
use Rattle.dwg_appitems.specs.ItemLists.{AreItems}

-- the reference of an item leads nowhere: to a layer that no object of kind LAYER is, or to an object that isn't null and that none is
abbrev pub LeadsNowhere : List ObjectValue → AppItem → Type 0
LeadsNowhere objects (Layer named) = (x : ObjectValue) → Contains objects x → handle_of x ≡ named → kind_of x ≡ kinds.Layer → ⊥
LeadsNowhere objects (Object named) = (named ≢ 0) × ((x : ObjectValue) → Contains objects x → handle_of x ≡ named → ⊥)
LeadsNowhere objects other = ⊥

-- an item stands in the extended data of objects: as the item of this number in the application data of this number of an object of this handle
pub record StandsIn (objects : List ObjectValue) (handle index place : ℕ) (one : AppItem) : Type 0 where
  pub object : ObjectValue
  pub among : Contains objects object
  pub owner : handle_of object ≡ handle
  pub app : AppData
  pub here : slice_get (apps_of object) index ≡ Some app
  pub items : List AppItem
  pub are : AreItems items app.bytes
  pub at : slice_get items place ≡ Some one

-- a finding of objects: the item that it speaks of stands there, its reference leads nowhere, and the target is the handle that it refers by
pub record IsAppFinding (objects : List ObjectValue) (finding : AppFinding) : Type 0 where
  pub one : AppItem
  pub stands : StandsIn objects finding.handle finding.index finding.item one
  pub nowhere : LeadsNowhere objects one
  pub target : finding.target ≡ target_of one

-- a finding stands before another: by handle, then by application data, then by item
abbrev pub StandsBefore : AppFinding → AppFinding → Type 0
StandsBefore one other =
    (one.handle < other.handle)
    ⊎ ((one.handle ≡ other.handle) × ((one.index < other.index)
    ⊎ ((one.index ≡ other.index) × (one.item < other.item))))
