-- What an audit finds, by a test for each rule. A rule of this project.
use Rattle.std.specs.Prelude.{◌==◌, ◌||◌, ℕ, Bool, true, false, List, [], ◌∷◌, ◌++◌, length, map, not, Option, Some, None, if◌then◌else◌}
use Rattle.std.specs.List.{list_any, filter, flat_map}
use Rattle.std.specs.Option.{option_map_or}
use Rattle.dwg_audit.specs.declared.finding.Finding.{Finding}
use Rattle.dwg_audit.specs.declared.finding.Rule.TheVariants as rules
use Rattle.dwg_graph.specs.declared.owner.SpaceHandles.{SpaceHandles}
use Rattle.dwg_graph.specs.declared.slot.Slot.{Slot}
use Rattle.dwg_graph.specs.Graph.{is_typed, is_header, is_member, claims, owner_step, next_step, root_at, member_at, EndHandles, ends_of}
use Rattle.dwg_graph.specs.Owners.{block_controls, spaces, owner_of}
use Rattle.dwg_graph.specs.Slots.{slots}
use Rattle.dwg_graph.specs.Tests.{is_met, is_exempt, is_claimed}
use Rattle.dwg_kinds.specs.declared.field.Field.{Field}
use Rattle.dwg_kinds.specs.declared.field.Field.TheVariants as fields
use Rattle.dwg_object.specs.Objects.{ObjectValue, handle_of}
use Rattle.dwg_chains.specs.Ways.{has_path, has_chain}

-- a finding where a test fails, and none where it holds
abbrev pub unless : Bool → Finding → List Finding
unless holds finding = if holds then [] else finding ∷ []

-- the number of Typed BLOCK CONTROLs isn't 1
unfoldable pub control_findings : List ObjectValue → List Finding
control_findings objects =
    let count : ℕ = length (block_controls objects) in
    unless (count == 1) (record { handle = 0; rule = rules.Control; field = None; position = count; target = 0 })

-- a reference that doesn't
abbrev pub unmet : List ObjectValue → ObjectValue → Slot → List Finding
unmet objects x slot =
    unless (is_met objects x slot) (record { handle = handle_of x; rule = rules.Resolve; field = Some slot.field; position = slot.position; target = slot.target })

-- a field is that of applications
abbrev pub is_application_field : Field → Bool
is_application_field fields.Application = true
is_application_field other = false

abbrev pub is_application : Slot → Bool
is_application slot = is_application_field slot.field

-- the owner as a slot
abbrev pub owner_slot : Option SpaceHandles → ObjectValue → Slot
owner_slot known x = record { field = fields.Owner; position = 0; target = owner_of known x }

-- the references of an object in the order of fields, where the owner stands after the applications
unfoldable pub references : Option SpaceHandles → ObjectValue → List Slot
references known x = filter is_application (slots x) ++ owner_slot known x ∷ filter (λ slot. not (is_application slot)) (slots x)

-- the references of an object that don't meet their needs
unfoldable pub resolve_findings : List ObjectValue → Option SpaceHandles → ObjectValue → List Finding
resolve_findings objects known x = flat_map (unmet objects x) (references known x)

-- an object of which a claim is asked, and that isn't claimed so
unfoldable pub claim_findings : List ObjectValue → Option SpaceHandles → ObjectValue → List Finding
claim_findings objects known x =
    unless (is_exempt objects known x || is_claimed objects known x)
    (record { handle = handle_of x; rule = rules.Claim; field = None; position = length (claims objects (handle_of x)); target = owner_of known x })

-- the members of a block stand in a chain from one end to the other; without ends there are none
unfoldable pub is_chained : List ObjectValue → Option SpaceHandles → ObjectValue → Option EndHandles → Bool
is_chained objects known header None = not (list_any (is_member known header) objects)
is_chained objects known header (Some ends) =
    has_chain ◌==◌ (map handle_of objects) (next_step objects) (member_at objects known header) (λ handle. handle == ends.first) (λ handle. handle == ends.last)

-- a Typed BLOCK HEADER whose members don't
unfoldable pub chain_findings : List ObjectValue → Option SpaceHandles → ObjectValue → List Finding
chain_findings objects known x =
    unless (not (is_header x) || is_chained objects known x (ends_of x))
    (record { handle = handle_of x; rule = rules.Chain; field = None; position = 0; target = option_map_or (λ (ends : EndHandles). ends.last) (ends_of x) 0 })

-- an object whose owners don't lead to a root
unfoldable pub path_findings : List ObjectValue → Option SpaceHandles → ObjectValue → List Finding
path_findings objects known x =
    unless (has_path (map handle_of objects) (owner_step objects known) (root_at objects known) (handle_of x))
    (record { handle = handle_of x; rule = rules.Path; field = None; position = 0; target = owner_of known x })

-- what is found of one object: of a Typed one by each rule, of another nothing
unfoldable pub findings_of : List ObjectValue → Option SpaceHandles → ObjectValue → List Finding
findings_of objects known x =
    if is_typed x then resolve_findings objects known x ++ (claim_findings objects known x ++ (chain_findings objects known x ++ path_findings objects known x)) else []

-- all findings, in order of handle, rule, field and position
unfoldable pub findings : List ObjectValue → List Finding
findings objects = control_findings objects ++ flat_map (findings_of objects (spaces objects)) objects
