-- Objects that are read of a body of an input. A rule of this project.
use Rattle.std.proofs.Common.{ℕ, ◌≤◌, List, length}
use Rattle.dwg_base.specs.declared.version.Version.{Version}
use Rattle.dwg_base.specs.Bytes.{AreBytes}
use Rattle.dwg_base.specs.Devices.{MOST_BYTES}
use Rattle.dwg_classes.specs.declared.class.Class.{Class}
use Rattle.dwg_object.specs.Objects.{ObjectValue}
use Rattle.dwg_object.specs.Forms.{FormOf}

-- an object is read in a version, under classes, of a body that is bytes, and no more than an input may have
pub record IsReadOf (version : Version) (classes : List Class) (object : ObjectValue) : Type 0 where
  pub body : List ℕ
  pub are : AreBytes body
  pub few : length body ≤ MOST_BYTES
  pub form : FormOf version classes body object
