-- Kinds of objects: a row for each, and which kind a type number stands for (Open Design Specification, "R13 to R2000 file layout, object data"). The plain kinds are a rule of this project, and so is what must own an object.
use Rattle.std.specs.Prelude.{ℕ, ◌==◌, ◌<◌, ◌⊎◌, Bool, true, false, ◌&&◌, List, [], ◌∷◌, Option, Some, None, map, filter, get_or, unwrap_or, option_map, codes, nat_le, nat_lt, if◌then◌else◌}
use Rattle.std.specs.List.{list_any, filter_map, AllByRecursion}
use Rattle.std.specs.Map.{lookup}
use denote.Enum.Declared.{tag_of}
use Rattle.dwg_kinds.specs.contracts.kind.Kind.{the_type}
use Rattle.dwg_kinds.specs.declared.field.Need.{Need}
use Rattle.dwg_kinds.specs.declared.field.Need.TheVariants.{Null, Any, NullOrAny, Is, Attributed}
use Rattle.dwg_kinds.specs.declared.kind.Kind.{Kind}
use Rattle.dwg_kinds.specs.declared.kind.Kind.TheVariants.{Text, Attrib, Attdef, Block, EndBlk, SeqEnd, Insert, MInsert, Vertex3d, Polyline3d, Arc, Circle, Line, Point, Face3d, Solid, Trace, Ellipse, Ray, XLine, Dictionary, BlockControl, BlockHeader, LayerControl, Layer, StyleControl, Style, LtypeControl, Ltype, AppIdControl, AppId, Group, LwPolyline, XRecord, PlainEntity, PlainObject, Unknown}
use Rattle.dwg_kinds.specs.declared.number.ClassHint.{ClassHint}
use Rattle.dwg_kinds.specs.declared.number.ClassHint.TheVariants as hint

-- what is reported of a kind: the number that stands for it, where one does; the kind; its name, as it is printed; whether it is one of entities; what must own an object of it
pub record KindRow : Type 0 where
  pub number : Option ℕ
  pub kind : Kind
  pub name : List ℕ
  pub is_entity : Bool
  pub owner : Option Need

-- a row in one line
abbrev row : Option ℕ → Kind → List ℕ → Bool → Option Need → KindRow
row number kind name is_entity owner = record { number = number; kind = kind; name = name; is_entity = is_entity; owner = owner }

-- the row of objects of which nothing is reported
abbrev pub UNKNOWN : KindRow
UNKNOWN = row None Unknown (codes "UNKNOWN") false None

-- all kinds, in the order in which they are declared
abbrev pub KIND_ROWS : List KindRow
KIND_ROWS =
    row (Some 1) Text (codes "TEXT") true (Some (Is BlockHeader))
    ∷ row (Some 2) Attrib (codes "ATTRIB") true (Some Attributed)
    ∷ row (Some 3) Attdef (codes "ATTDEF") true (Some (Is BlockHeader))
    ∷ row (Some 4) Block (codes "BLOCK") true (Some (Is BlockHeader))
    ∷ row (Some 5) EndBlk (codes "ENDBLK") true (Some (Is BlockHeader))
    ∷ row (Some 6) SeqEnd (codes "SEQEND") true (Some Attributed)
    ∷ row (Some 7) Insert (codes "INSERT") true (Some (Is BlockHeader))
    ∷ row (Some 8) MInsert (codes "MINSERT") true (Some (Is BlockHeader))
    ∷ row (Some 11) Vertex3d (codes "VERTEX 3D") true (Some (Is Polyline3d))
    ∷ row (Some 16) Polyline3d (codes "POLYLINE 3D") true (Some (Is BlockHeader))
    ∷ row (Some 17) Arc (codes "ARC") true (Some (Is BlockHeader))
    ∷ row (Some 18) Circle (codes "CIRCLE") true (Some (Is BlockHeader))
    ∷ row (Some 19) Line (codes "LINE") true (Some (Is BlockHeader))
    ∷ row (Some 27) Point (codes "POINT") true (Some (Is BlockHeader))
    ∷ row (Some 28) Face3d (codes "3DFACE") true (Some (Is BlockHeader))
    ∷ row (Some 31) Solid (codes "SOLID") true (Some (Is BlockHeader))
    ∷ row (Some 32) Trace (codes "TRACE") true (Some (Is BlockHeader))
    ∷ row (Some 35) Ellipse (codes "ELLIPSE") true (Some (Is BlockHeader))
    ∷ row (Some 40) Ray (codes "RAY") true (Some (Is BlockHeader))
    ∷ row (Some 41) XLine (codes "XLINE") true (Some (Is BlockHeader))
    ∷ row (Some 42) Dictionary (codes "DICTIONARY") false (Some NullOrAny)
    ∷ row (Some 48) BlockControl (codes "BLOCK CONTROL") false (Some Null)
    ∷ row (Some 49) BlockHeader (codes "BLOCK HEADER") false (Some (Is BlockControl))
    ∷ row (Some 50) LayerControl (codes "LAYER CONTROL") false (Some Null)
    ∷ row (Some 51) Layer (codes "LAYER") false (Some (Is LayerControl))
    ∷ row (Some 52) StyleControl (codes "STYLE CONTROL") false (Some Null)
    ∷ row (Some 53) Style (codes "STYLE") false (Some (Is StyleControl))
    ∷ row (Some 56) LtypeControl (codes "LTYPE CONTROL") false (Some Null)
    ∷ row (Some 57) Ltype (codes "LTYPE") false (Some (Is LtypeControl))
    ∷ row (Some 66) AppIdControl (codes "APPID CONTROL") false (Some Null)
    ∷ row (Some 67) AppId (codes "APPID") false (Some (Is AppIdControl))
    ∷ row (Some 72) Group (codes "GROUP") false (Some Any)
    ∷ row (Some 77) LwPolyline (codes "LWPOLYLINE") true (Some (Is BlockHeader))
    ∷ row (Some 79) XRecord (codes "XRECORD") false (Some Any)
    ∷ row None PlainEntity (codes "ENTITY") true None
    ∷ row None PlainObject (codes "OBJECT") false None
    ∷ UNKNOWN ∷ []

-- the place of a kind among all kinds, as they are declared
abbrev pub place_of_kind : Kind → ℕ
place_of_kind kind = tag_of the_type kind

-- the row at that place, which is the kind's own
abbrev pub row_of : Kind → KindRow
row_of kind = get_or KIND_ROWS (place_of_kind kind) UNKNOWN

-- the name of a kind
unfoldable pub kind_name : Kind → List ℕ
kind_name kind = (row_of kind).name

-- whether a kind is one of entities
unfoldable pub is_entity_kind : Kind → Bool
is_entity_kind kind = (row_of kind).is_entity

-- the kinds that are ones of entities
abbrev pub ENTITY_KINDS : List Kind
ENTITY_KINDS = map (λ row. row.kind) (filter (λ row. row.is_entity) KIND_ROWS)

-- whether two kinds are one
unfoldable pub same_kind : Kind → Kind → Bool
same_kind kind other = place_of_kind kind == place_of_kind other

-- the kinds that are typed, each with the number that stands for it
unfoldable pub TYPED_KINDS : List (ℕ × Kind)
TYPED_KINDS = filter_map (λ row. option_map (λ number. (number, row.kind)) row.number) KIND_ROWS

-- a run of numbers: its first and its last
abbrev pub Run : Type 0
Run = ℕ × ℕ

-- the numbers of entities of which nothing more is reported
unfoldable pub PLAIN_ENTITIES : List Run
PLAIN_ENTITIES = (10, 10) ∷ (12, 15) ∷ (20, 26) ∷ (29, 30) ∷ (33, 34) ∷ (36, 39) ∷ (43, 47) ∷ (74, 74) ∷ (78, 78) ∷ (498, 498) ∷ []

-- the numbers of other objects of which nothing more is reported
unfoldable pub PLAIN_OBJECTS : List Run
PLAIN_OBJECTS = (60, 65) ∷ (68, 71) ∷ []

-- whether a number lies in one of the runs
abbrev pub lies_in : List Run → ℕ → Bool
lies_in runs number = list_any (λ run. nat_le run.0 number && nat_le number run.1) runs

-- the least number that a class can have
abbrev pub LEAST_CLASS_NUMBER : ℕ
LEAST_CLASS_NUMBER = 500

-- no run has the number
abbrev pub LiesOutside : List Run → ℕ → Type 0
LiesOutside runs number = AllByRecursion (λ run. (number < run.0) ⊎ (run.1 < number)) runs

-- the kind of a number that no class can have
unfoldable pub fixed_kind_of : ℕ → Kind
fixed_kind_of number =
    unwrap_or (lookup (λ typed. typed == number) TYPED_KINDS)
    (if lies_in PLAIN_ENTITIES number then PlainEntity else (if lies_in PLAIN_OBJECTS number then PlainObject else Unknown))

-- the kind of a number that a class can have, by what the class says
unfoldable pub hinted_kind_of : ClassHint → Kind
hinted_kind_of hint.Absent = Unknown
hinted_kind_of hint.Entity = PlainEntity
hinted_kind_of hint.Object = PlainObject
hinted_kind_of hint.LwPolyline = LwPolyline
hinted_kind_of hint.XRecord = XRecord
hinted_kind_of hint.Other = Unknown

-- the kind of a number
unfoldable pub kind_at : ℕ → ClassHint → Kind
kind_at number hint = if nat_lt number LEAST_CLASS_NUMBER then fixed_kind_of number else hinted_kind_of hint
