-- What a finding says: which part of a sound drawing fails, and of which object. A rule of this project.
use Rattle.std.specs.Prelude.{◌≡◌, ◌≢◌, ◌⊎◌, ℕ, ◌<◌, List, Option, Some, None, length, IsTrue, Contains}
use Rattle.std.specs.Option.{option_map_or}
use Rattle.dwg_audit.specs.declared.finding.Finding.{Finding}
use Rattle.dwg_audit.specs.declared.finding.Rule.{Rule}
use Rattle.dwg_audit.specs.declared.finding.Rule.TheVariants as rules
use Rattle.dwg_graph.specs.declared.slot.Slot.{Slot}
use Rattle.dwg_graph.specs.Graph.{is_typed, is_header, claims, EndHandles, ends_of, HasOwnerPath, HasMemberChain}
use Rattle.dwg_graph.specs.Owners.{block_controls, spaces, owner_of}
use Rattle.dwg_graph.specs.Slots.{slots}
use Rattle.dwg_graph.specs.Sound.{MeetsSome, IsExempt, IsClaimed}
use Rattle.dwg_kinds.specs.declared.field.Field.{Field}
use Rattle.dwg_kinds.specs.declared.field.Field.TheVariants as fields
use Rattle.dwg_kinds.specs.Needs.{field_number, need_of}
use Rattle.dwg_object.specs.Objects.{ObjectValue, handle_of, kind_of}

-- control: there isn't exactly one Typed BLOCK CONTROL
pub record IsControlFinding (objects : List ObjectValue) (finding : Finding) : Type 0 where
  pub fails : length (block_controls objects) ≢ 1
  pub says : finding ≡ record { handle = 0; rule = rules.Control; field = None; position = length (block_controls objects); target = 0 }

-- a reference of an object: the one to its owner, or a slot
abbrev pub IsReferenceOf : List ObjectValue → ObjectValue → Slot → Type 0
IsReferenceOf objects x slot = (slot ≡ record { field = fields.Owner; position = 0; target = owner_of (spaces objects) x }) ⊎ Contains (slots x) slot

-- resolve: a reference of a Typed object doesn't meet its need
pub record IsResolveFinding (objects : List ObjectValue) (x : ObjectValue) (finding : Finding) : Type 0 where
  pub slot : Slot
  pub held : IsReferenceOf objects x slot
  pub fails : MeetsSome objects (need_of slot.field (kind_of x)) slot.target → ⊥
  pub says : finding ≡ record { handle = handle_of x; rule = rules.Resolve; field = Some slot.field; position = slot.position; target = slot.target }

-- claim: a Typed object of which a claim is asked isn't claimed by its owner alone, nor left unclaimed where that isn't Typed
pub record IsClaimFinding (objects : List ObjectValue) (x : ObjectValue) (finding : Finding) : Type 0 where
  pub asked : IsExempt objects x → ⊥
  pub fails : IsClaimed objects x → ⊥
  pub says : finding ≡ record { handle = handle_of x; rule = rules.Claim; field = None; position = length (claims objects (handle_of x)); target = owner_of (spaces objects) x }

-- chain: the members of a Typed BLOCK HEADER don't stand in a chain
pub record IsChainFinding (objects : List ObjectValue) (x : ObjectValue) (finding : Finding) : Type 0 where
  pub header : IsTrue (is_header x)
  pub fails : HasMemberChain objects x → ⊥
  pub says : finding ≡ record { handle = handle_of x; rule = rules.Chain; field = None; position = 0; target = option_map_or (λ (ends : EndHandles). ends.last) (ends_of x) 0 }

-- path: the owners of a Typed object don't lead to a root
pub record IsPathFinding (objects : List ObjectValue) (x : ObjectValue) (finding : Finding) : Type 0 where
  pub fails : HasOwnerPath objects x → ⊥
  pub says : finding ≡ record { handle = handle_of x; rule = rules.Path; field = None; position = 0; target = owner_of (spaces objects) x }

-- a finding of one Typed object
abbrev pub IsFindingOf : List ObjectValue → ObjectValue → Finding → Type 0
IsFindingOf objects x finding =
    IsResolveFinding objects x finding ⊎ (IsClaimFinding objects x finding ⊎ (IsChainFinding objects x finding ⊎ IsPathFinding objects x finding))

-- a finding of a drawing
abbrev pub IsFinding : List ObjectValue → Finding → Type 0
IsFinding objects finding =
    IsControlFinding objects finding
    ⊎ ((x : ObjectValue) × Contains objects x × IsTrue (is_typed x) × IsFindingOf objects x finding)

-- the number of a rule, in the order of rules
unfoldable pub rule_number : Rule → ℕ
rule_number rules.Control = 1
rule_number rules.Resolve = 2
rule_number rules.Claim = 3
rule_number rules.Chain = 4
rule_number rules.Path = 5

-- the number of the field of a finding, none before all fields
abbrev pub number_of_field : Option Field → ℕ
number_of_field field = option_map_or field_number field 0

-- a finding stands before another: by handle, then by rule, then by field, then by position
abbrev pub StandsBefore : Finding → Finding → Type 0
StandsBefore one other =
    (one.handle < other.handle)
    ⊎ ((one.handle ≡ other.handle) × ((rule_number one.rule < rule_number other.rule)
    ⊎ ((rule_number one.rule ≡ rule_number other.rule) × ((number_of_field one.field < number_of_field other.field)
    ⊎ ((number_of_field one.field ≡ number_of_field other.field) × (one.position < other.position))))))
