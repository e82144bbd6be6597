-- Who owns an object, and which entity is after another (Open Design Specification, "Common entity data"). The space of a drawing without a sole table of blocks, and the owner of a Raw object, are rules of this project.
use Rattle.std.specs.Prelude.{ℕ, ◌+◌, ◌==◌, ◌^◌, List, [], ◌∷◌, Option, Some, None, nat_lt, if◌then◌else◌}
use Rattle.std.specs.List.{filter_map}
use Rattle.std.specs.Option.{option_map_or}
use Rattle.dwg_common.specs.declared.entity.EntityCommon.{EntityCommon}
use Rattle.dwg_common.specs.declared.entity.Links.{Links}
use Rattle.dwg_graph.specs.declared.owner.SpaceHandles.{SpaceHandles}
use Rattle.dwg_grammar.specs.Reference.{Reference}
use Rattle.dwg_object.specs.declared.body.Body.TheVariants as bodies
use Rattle.dwg_object.specs.declared.body.Body.{Body}
use Rattle.dwg_object.specs.declared.common.Common.TheVariants as commons
use Rattle.dwg_object.specs.declared.common.Common.{Common}
use Rattle.dwg_object.specs.Objects.{ObjectValue, TypedValue, PlainValue, RawValue}

-- the handles of a table of blocks and of its two spaces
abbrev pub spaces_of_body : ℕ → Body → Option SpaceHandles
spaces_of_body handle (bodies.BlockControl body) = Some (record { control = handle; model = body.model.target; paper = body.paper.target })
spaces_of_body handle other = None

-- those of a Typed table of blocks
abbrev pub reported_spaces : ObjectValue → Option SpaceHandles
reported_spaces (TypedValue number handle common body) = spaces_of_body handle body
reported_spaces (PlainValue number handle common rest refs) = None
reported_spaces (RawValue number handle bytes) = None

-- those of all Typed tables of blocks
unfoldable pub block_controls : List ObjectValue → List SpaceHandles
block_controls objects = filter_map reported_spaces objects

-- the only thing of a list
abbrev pub sole : {A : Type 0} → List A → Option A
sole {A} [] = None
sole {A} (x ∷ []) = Some x
sole {A} (x ∷ y ∷ rest) = None

-- the model and the paper space of a drawing that has one Typed table of blocks
unfoldable pub spaces : List ObjectValue → Option SpaceHandles
spaces objects = sole (block_controls objects)

-- the model space or the paper space, null where there is none
abbrev pub model_space : Option SpaceHandles → ℕ
model_space known = option_map_or (λ s. s.model) known 0

abbrev pub paper_space : Option SpaceHandles → ℕ
paper_space known = option_map_or (λ s. s.paper) known 0

-- the owner of an entity: the one that it names, by mode 2 the model space, by mode 1 the paper space
unfoldable pub entity_owner : Option SpaceHandles → EntityCommon → ℕ
entity_owner known common =
    option_map_or (λ (owner : Reference). owner.target) common.owner
    (if common.mode == 2 then model_space known else (if common.mode == 1 then paper_space known else 0))

-- the owner by a common part
unfoldable pub common_owner : Option SpaceHandles → Common → ℕ
common_owner known (commons.Entity common) = entity_owner known common
common_owner known (commons.Object common) = common.owner.target

-- the owner of an object; a Raw object names none
unfoldable pub owner_of : Option SpaceHandles → ObjectValue → ℕ
owner_of known (TypedValue number handle common body) = common_owner known common
owner_of known (PlainValue number handle common rest refs) = common_owner known common
owner_of known (RawValue number handle bytes) = 0

-- the handle after another, null where there is none
abbrev pub handle_after : ℕ → ℕ
handle_after handle = if nat_lt (handle + 1) (2 ^ 63) then handle + 1 else 0

-- what follows in a block: the entity that the links name, and without links the object of the handle after
unfoldable pub common_next : ℕ → Common → ℕ
common_next handle (commons.Entity common) = option_map_or (λ (links : Links). links.next.target) common.links (handle_after handle)
common_next handle (commons.Object common) = handle_after handle

-- what follows an object in a block
unfoldable pub next_of : ObjectValue → ℕ
next_of (TypedValue number handle common body) = common_next handle common
next_of (PlainValue number handle common rest refs) = common_next handle common
next_of (RawValue number handle bytes) = handle_after handle
