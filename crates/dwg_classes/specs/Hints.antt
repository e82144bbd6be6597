-- What the classes of a drawing say of a type number: the first class with it decides. A rule of this project, over the classes of the Open Design Specification, "Classes".
use Rattle.std.specs.Prelude.{ℕ, ◌==◌, List, Option, Some, None, codes, find, if◌then◌else◌}
use Rattle.std.specs.Str.{bytes_eq}
use Rattle.dwg_kinds.specs.declared.number.ClassHint.{ClassHint}
use Rattle.dwg_kinds.specs.declared.number.ClassHint.TheVariants.{Absent, Entity, Object, LwPolyline, XRecord, Other}
use Rattle.dwg_classes.specs.declared.class.Class.{Class}

-- what a class makes: entities where its item is 498, other objects where it is 499; two of them are known by the name in DXF
unfoldable pub hint_of_class : Class → ClassHint
hint_of_class class =
    if class.item == 498 then (if bytes_eq class.dxf_name (codes "LWPOLYLINE") then LwPolyline else Entity)
    else (if class.item == 499 then (if bytes_eq class.dxf_name (codes "XRECORD") then XRecord else Object)
    else Other)

-- what a class says, if there is one
abbrev pub hint_of_any : Option Class → ClassHint
hint_of_any None = Absent
hint_of_any (Some class) = hint_of_class class

-- what the classes say of a number
unfoldable pub hint_at : List Class → ℕ → ClassHint
hint_at classes number = hint_of_any (find (λ class. class.number == number) classes)
