-- The objects of a drawing have few enough bits.
use Rattle.std.proofs.Common.{ℕ, ◌^◌, ◌<◌, Bool, List, [], ◌∷◌, length, arith}
use Rattle.dwg_base.specs.declared.version.Version.{Version}
use Rattle.std.specs.Prelude.{⊤, map}
use Rattle.std.specs.List.{AllByRecursion}
use Rattle.dwg_classes.specs.declared.class.Class.{Class}
use Rattle.dwg_grammar.specs.ToEnd.{short_all}
use Rattle.dwg_grammar.specs.Reference.{Reference}
use Rattle.dwg_grammar.specs.ReferenceCodes.{reference}
use Rattle.dwg_object.specs.Objects.{ObjectValue, TypedValue, PlainValue, RawValue}
use Rattle.dwg_object.specs.Written.{IsValidObject, body_bytes, object_bits}
use Rattle.dwg_object.proofs.WrittenLemmas.{bytes_padded, length_of_object}
use Rattle.dwg_object.specs.declared.common.Common.{Common}
use Rattle.dwg_show.specs.FewBits.{HasFewBits}

-- own bits are among those of a body
few_of_body : (version : Version) (number handle : ℕ) (common : Common) (rest : List Bool) (refs : List Reference)
    → length (body_bytes version (PlainValue number handle common rest refs)) < 2 ^ 29 → length rest < 2 ^ 32
few_of_body version number handle common rest refs few =
    let own : List Bool = short_all (reference handle) refs in
    omega (arith, few, length_of_object version number handle common rest own, (bytes_padded (object_bits version number handle common rest own)).enough)

-- so a valid object has few
few_of_object : (version : Version) (classes : List Class) (object : ObjectValue) → IsValidObject version classes object → HasFewBits object
few_of_object version classes (TypedValue number handle common body) is = tt
few_of_object version classes (PlainValue number handle common rest refs) is = few_of_body version number handle common rest refs is.1
few_of_object version classes (RawValue number handle bytes) is = tt

-- and so have those of a valid drawing
pub few_of_objects : (version : Version) (classes : List Class) (objects : List ObjectValue) → AllByRecursion (IsValidObject version classes) objects → AllByRecursion HasFewBits objects
few_of_objects version classes [] are = tt
few_of_objects version classes (object ∷ objects) are = (few_of_object version classes object are.0, few_of_objects version classes objects are.1)

-- what holds of all that is seen of things holds of the things
pub all_of_seen : {A B : Type 0} (Holds : B → Type 0) (seen : A → B) (things : List A) → AllByRecursion Holds (map seen things) → AllByRecursion (λ thing. Holds (seen thing)) things
all_of_seen {A} {B} Holds seen [] are = tt
all_of_seen {A} {B} Holds seen (thing ∷ things) are = (are.0, all_of_seen Holds seen things are.1)

-- what always holds holds of all
pub all_of_any : {A : Type 0} (things : List A) → AllByRecursion (λ (thing : A). ⊤) things
all_of_any {A} [] = tt
all_of_any {A} (thing ∷ things) = (tt, all_of_any things)
