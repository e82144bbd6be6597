-- Made objects by their forms: those that are no entities, and entities of the model space, of the paper space and of an owner.
use Rattle.std.proofs.Common.{◌≡◌, refl, ℕ, ◌^◌, ◌<◌, Bool, true, false, [], Option, Some, None, arith}
use Rattle.dwg_base.specs.declared.version.Version.TheVariants.{Ac1015}
use Rattle.std.specs.Prelude.{is_none, not}
use Rattle.dwg_common.specs.Layouts.{NEWER}
use Rattle.dwg_grammar.specs.Combinators.{when}
use Rattle.dwg_common.specs.Entities as entities
use Rattle.dwg_common.specs.NonEntities.{object_common}
use Rattle.dwg_common.specs.declared.entity.Links.{Links}
use Rattle.dwg_file.proofs.ObjectSize.{IsSmall}
use Rattle.dwg_kinds.specs.Kinds.{is_entity_kind}
use Rattle.dwg_object.specs.declared.body.Body.{Body}
use Rattle.dwg_object.specs.declared.common.Common.TheVariants as commons
use Rattle.dwg_object.specs.Forms.{kind_under, entity_inside, object_inside}
use Rattle.dwg_object.specs.OwnBodies.{body_kind, own_body}
use Rattle.dwg_make.specs.Parts.{soft_pointer, owned_by, other_object, links, entity_common, model_entity, paper_entity, owned_entity}
use Rattle.dwg_make.proofs.CodeSizes.{Few}
use Rattle.dwg_make.proofs.CommonsMade.{owned_made, linked, model_made, paper_made, of_owner_made}
use Rattle.dwg_make.proofs.ObjectsMade.{BODY_BYTES, typed_made}
use Rattle.dwg_make.proofs.PartsMade.{IsMade, variant_made}

-- a number, a handle and a body that stand together in an object, and whether it is an entity
pub record IsOwn (is_entity : Bool) (number handle : ℕ) (value : Body) : Type 0 where
  pub low : number < 2 ^ 16
  pub some : 0 < handle
  pub small : handle < 2 ^ 32
  pub kind : kind_under [] number ≡ body_kind value
  pub entity : is_entity ≡ is_entity_kind (body_kind value)
  pub made : IsMade (own_body Ac1015 (body_kind value) handle) value

-- an object that is no entity
pub other_small : (number handle owner : ℕ) (value : Body) → owner < 2 ^ 32 → IsOwn false number handle value → IsSmall Ac1015 [] BODY_BYTES (other_object number handle owner value)
other_small number handle owner value near is =
    typed_made number handle (commons.Object (owned_by owner)) value is.low is.some (omega (arith, is.small)) is.kind is.entity
    (variant_made commons.Object object_inside (object_common NEWER handle) (owned_by owner) refl (owned_made handle owner (omega arith))) is.made

-- an entity of the model space
pub model_small : (number handle : ℕ) (linking : Option Links) (layer : ℕ) (value : Body) → (when (not (is_none linking)) (entities.links handle).grammar).IsValue linking
    → Few 200 ((when (not (is_none linking)) (entities.links handle).grammar).short linking) → layer < 2 ^ 32 → IsOwn true number handle value
    → IsSmall Ac1015 [] BODY_BYTES (model_entity number handle linking layer value)
model_small number handle linking layer value joined joined_few near is =
    typed_made number handle (commons.Entity (entity_common 2 None linking layer)) value is.low is.some (omega (arith, is.small)) is.kind is.entity
    (variant_made commons.Entity entity_inside (entities.entity_common NEWER handle) (entity_common 2 None linking layer) refl (model_made handle linking layer joined joined_few (omega arith))) is.made

-- one with links
pub linked_small : (number handle previous next layer : ℕ) (value : Body) → previous < 2 ^ 32 → next < 2 ^ 32 → layer < 2 ^ 32 → IsOwn true number handle value
    → IsSmall Ac1015 [] BODY_BYTES (model_entity number handle (Some (links previous next)) layer value)
linked_small number handle previous next layer value a b near is =
    let joined = linked handle previous next (omega (arith, a)) (omega (arith, b)) in
    model_small number handle (Some (links previous next)) layer value joined.0 joined.1 near is

-- an entity of the paper space
pub paper_small : (number handle : ℕ) (value : Body) → IsOwn true number handle value → IsSmall Ac1015 [] BODY_BYTES (paper_entity number handle value)
paper_small number handle value is =
    typed_made number handle (commons.Entity (entity_common 1 None (Some (links 0 0)) 0x10)) value is.low is.some (omega (arith, is.small)) is.kind is.entity
    (variant_made commons.Entity entity_inside (entities.entity_common NEWER handle) (entity_common 1 None (Some (links 0 0)) 0x10) refl (paper_made handle)) is.made

-- an entity of an owner
pub owned_small : (number handle owner previous next : ℕ) (value : Body) → owner < 2 ^ 32 → previous < 2 ^ 32 → next < 2 ^ 32 → IsOwn true number handle value
    → IsSmall Ac1015 [] BODY_BYTES (owned_entity number handle owner (links previous next) value)
owned_small number handle owner previous next value near a b is =
    typed_made number handle (commons.Entity (entity_common 0 (Some (soft_pointer owner)) (Some (links previous next)) 0x10)) value is.low is.some (omega (arith, is.small)) is.kind is.entity
    (variant_made commons.Entity entity_inside (entities.entity_common NEWER handle) (entity_common 0 (Some (soft_pointer owner)) (Some (links previous next)) 0x10) refl
    (of_owner_made handle owner previous next (omega arith) (omega (arith, a)) (omega (arith, b)))) is.made
