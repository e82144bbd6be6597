-- What the tests of references say, in a drawing whose handles ascend: each passes exactly where what it stands for holds.
use Rattle.std.proofs.Common.{◌≡◌, sym, refl, ◌∙◌, subst, inl, inr, ⊎_elim}
use Rattle.std.proofs.lemmas.Bool.{cases_Bool, and_parts, cond-true, cond-false, both_ways, false_from_ne_true}
use Rattle.std.proofs.lemmas.Bool.Decides.{Decides-eqb, Decides-or, Decides-at}
use Rattle.std.specs.Prelude.{⊤, ◌==◌, ◌||◌, ◌&&◌, if◌then◌else◌, ◌<◌, ◌⊎◌, ◌↔◌, ℕ, Bool, true, false, List, [], ◌∷◌, not, Option, Some, None, is_some, IsTrue, Contains, AllPairs}
use Rattle.std.specs.List.{list_any}
use Rattle.std.specs.Option.{option_map_or}
use Rattle.dwg_graph.specs.declared.owner.SpaceHandles.{SpaceHandles}
use Rattle.dwg_graph.specs.declared.slot.Slot.{Slot}
use Rattle.dwg_graph.specs.Graph.{is_typed, is_header, is_raw, object_at, there, is_root, is_member_kind, is_member, Claim, claims, owner_step, member_at}
use Rattle.dwg_graph.specs.Owners.{spaces, owner_of}
use Rattle.dwg_graph.specs.Places.{Ascend, handles_of}
use Rattle.dwg_graph.specs.Sound.{IsOfKind, Meets, MeetsSome, IsExempt, IsSoleClaim, IsOwnedBy, IsClaimed}
use Rattle.dwg_graph.specs.Tests.{is_attributed, meets, kind_at, is_met, is_exempt, is_sole_claim, is_unclaimed, is_claimed}
use Rattle.dwg_graph.proofs.ListLemmas.{contains_map, pairs_of_map}
use Rattle.dwg_graph.proofs.ObjectPaths.{ascending_are_distinct, stands_found, found_standing, found_there, passing_of_map_or}
use Rattle.dwg_kinds.specs.declared.field.Need.{Need}
use Rattle.dwg_kinds.specs.declared.field.Need.TheVariants.{Null, Any, NullOrAny, Entity, NullOrEntity, Is, NullOrIs, Attributed}
use Rattle.dwg_kinds.specs.declared.kind.Kind.{Kind}
use Rattle.dwg_kinds.specs.declared.kind.Kind.TheVariants as kinds
use Rattle.dwg_kinds.proofs.SameKinds.{same_kinds}
use Rattle.dwg_kinds.specs.Kinds.{is_entity_kind, same_kind}
use Rattle.dwg_kinds.specs.Needs.{need_of}
use Rattle.dwg_object.specs.Objects.{ObjectValue, handle_of, kind_of}
use Rattle.dwg_chains.specs.Ways.{IsClosed}
use Rattle.dwg_chains.proofs.TestLemmas.{one_of_any, any_of_one}
use Rattle.dwg_chains.proofs.WayLemmas.{option_map_found, option_then_found}

-- an object stands before another by its handle
abbrev pub IsBefore : ObjectValue → ObjectValue → Type 0
IsBefore x y = handle_of x < handle_of y

-- objects whose handles ascend stand in their order
pub objects_ordered : (objects : List ObjectValue) → Ascend (handles_of objects) → AllPairs IsBefore objects
objects_ordered objects ascend = pairs_of_map (λ one other. one < other) handle_of objects ascend

-- an object is found by a handle exactly where it stands in the drawing and has it
pub object_found : (objects : List ObjectValue) (handle : ℕ) (x : ObjectValue) → Ascend (handles_of objects) → (object_at objects handle ≡ Some x) ↔ (Contains objects x × (handle_of x ≡ handle))
object_found objects handle x ascend = (
  λ found. stands_found objects handle x found,
  λ stands. subst (λ (h : ℕ). object_at objects h ≡ Some x) stands.1 (found_standing objects (ascending_are_distinct (handles_of objects) ascend) x stands.0),
)

-- what is there and passes, passes if it is there
map_or_of_passing : {A : Type 0} (test : A → Bool) (found : Option A) (x : A) → found ≡ Some x → test x ≡ true → option_map_or test found false ≡ true
map_or_of_passing test found x is passes = rw is passes

-- the kind of the object of a handle passes a test exactly where the object has such a kind
of_kind_decided : (objects : List ObjectValue) (target : ℕ) (test : Kind → Bool) (Allowed : Kind → Type 0) → Ascend (handles_of objects) → ((kind : Kind) → IsTrue (test kind) ↔ Allowed kind)
    → IsTrue (option_map_or test (kind_at objects target) false) ↔ IsOfKind objects target Allowed
of_kind_decided objects target test Allowed ascend reports = (
  λ is. let known = passing_of_map_or test (kind_at objects target) is in
      let object = option_map_found kind_of (object_at objects target) known.0 known.1 in
      let stands = stands_found objects target object.0 object.1 in
      record { object = object.0; stands = stands.0; has = stands.1; kind = subst Allowed object.2 ((reports known.0).0 known.2) },
  λ has. let found : object_at objects target ≡ Some has.object = (object_found objects target has.object ascend).1 (has.stands, has.has) in
      let passes : test (kind_of has.object) ≡ true = (reports (kind_of has.object)).1 has.kind in
      rw found passes,
)

-- something is there where it passes a test that all pass
some_by_test : {A : Type 0} (found : Option A) → is_some found ≡ option_map_or (λ x. true) found false
some_by_test None = refl
some_by_test (Some x) = refl

-- a handle has a kind exactly where an object has the handle
any_decided : (objects : List ObjectValue) (target : ℕ) → Ascend (handles_of objects) → IsTrue (is_some (kind_at objects target)) ↔ IsOfKind objects target (λ kind. ⊤)
any_decided objects target ascend =
    Decides-at (is_some (kind_at objects target)) (option_map_or (λ kind. true) (kind_at objects target) false) (some_by_test (kind_at objects target))
    (of_kind_decided objects target (λ kind. true) (λ kind. ⊤) ascend (λ kind. (λ is. tt, λ is. refl)))

-- a handle has a kind of entities exactly where such an object has it
entity_decided : (objects : List ObjectValue) (target : ℕ) → Ascend (handles_of objects) → IsTrue (option_map_or is_entity_kind (kind_at objects target) false) ↔ IsOfKind objects target (λ kind. IsTrue (is_entity_kind kind))
entity_decided objects target ascend = of_kind_decided objects target is_entity_kind (λ kind. IsTrue (is_entity_kind kind)) ascend (λ kind. (λ is. is, λ is. is))

-- a kind is that one
kind_decided : (needed kind : Kind) → IsTrue (same_kind needed kind) ↔ (kind ≡ needed)
kind_decided needed kind = (λ is. sym ((same_kinds needed kind).0 is), λ is. (same_kinds needed kind).1 (sym is))

-- a handle has a kind exactly where an object of it has the handle
is_decided : (objects : List ObjectValue) (needed : Kind) (target : ℕ) → Ascend (handles_of objects) → IsTrue (option_map_or (same_kind needed) (kind_at objects target) false) ↔ IsOfKind objects target (λ kind. kind ≡ needed)
is_decided objects needed target ascend = of_kind_decided objects target (same_kind needed) (λ kind. kind ≡ needed) ascend (kind_decided needed)

-- the test says which kinds can have attributes or vertices
attributed_decided : (kind : Kind) → IsTrue (is_attributed kind) ↔ ((kind ≡ kinds.Insert) ⊎ (kind ≡ kinds.MInsert) ⊎ (kind ≡ kinds.Polyline3d) ⊎ (kind ≡ kinds.PlainEntity))
attributed_decided kind =
    Decides-or (same_kind kinds.Insert kind) (same_kind kinds.MInsert kind || (same_kind kinds.Polyline3d kind || same_kind kinds.PlainEntity kind)) (kind_decided kinds.Insert kind)
    (Decides-or (same_kind kinds.MInsert kind) (same_kind kinds.Polyline3d kind || same_kind kinds.PlainEntity kind) (kind_decided kinds.MInsert kind)
    (Decides-or (same_kind kinds.Polyline3d kind) (same_kind kinds.PlainEntity kind) (kind_decided kinds.Polyline3d kind) (kind_decided kinds.PlainEntity kind)))

-- the test of a need says whether a target meets it
pub meets_decided : (objects : List ObjectValue) (need : Need) (target : ℕ) → Ascend (handles_of objects) → IsTrue (meets need target (kind_at objects target)) ↔ Meets objects need target
unfolding meets Meets
meets_decided objects Null target ascend = Decides-eqb target 0
meets_decided objects Any target ascend = any_decided objects target ascend
meets_decided objects NullOrAny target ascend = Decides-or (target == 0) (is_some (kind_at objects target)) (Decides-eqb target 0) (any_decided objects target ascend)
meets_decided objects Entity target ascend = entity_decided objects target ascend
meets_decided objects NullOrEntity target ascend =
    Decides-or (target == 0) (option_map_or is_entity_kind (kind_at objects target) false) (Decides-eqb target 0) (entity_decided objects target ascend)
meets_decided objects (Is needed) target ascend = is_decided objects needed target ascend
meets_decided objects (NullOrIs needed) target ascend =
    Decides-or (target == 0) (option_map_or (same_kind needed) (kind_at objects target) false) (Decides-eqb target 0) (is_decided objects needed target ascend)
meets_decided objects Attributed target ascend =
    of_kind_decided objects target is_attributed (λ kind. (kind ≡ kinds.Insert) ⊎ (kind ≡ kinds.MInsert) ⊎ (kind ≡ kinds.Polyline3d) ⊎ (kind ≡ kinds.PlainEntity)) ascend attributed_decided

-- the test of a need that there may not be
some_need_decided : (objects : List ObjectValue) (need : Option Need) (target : ℕ) → Ascend (handles_of objects)
    → IsTrue (option_map_or (λ one. meets one target (kind_at objects target)) need false) ↔ MeetsSome objects need target
some_need_decided objects None target ascend = (λ is. cc is, λ never. absurd never)
some_need_decided objects (Some need) target ascend = meets_decided objects need target ascend

-- the test of a reference says whether its target meets the need
pub met_decided : (objects : List ObjectValue) (x : ObjectValue) (slot : Slot) → Ascend (handles_of objects) → IsTrue (is_met objects x slot) ↔ MeetsSome objects (need_of slot.field (kind_of x)) slot.target
unfolding is_met
met_decided objects x slot ascend = some_need_decided objects (need_of slot.field (kind_of x)) slot.target ascend

-- the owner of a member is the block
pub member_owner : (known : Option SpaceHandles) (header x : ObjectValue) → is_member known header x ≡ true → handle_of header ≡ owner_of known x
unfolding is_member
member_owner known header x is =
    let parts = and_parts (is_header header) (not (is_raw x) && (is_member_kind (kind_of x) && (owner_of known x == handle_of header))) is in
    let others = and_parts (not (is_raw x)) (is_member_kind (kind_of x) && (owner_of known x == handle_of header)) parts.1 in
    let last = and_parts (is_member_kind (kind_of x)) (owner_of known x == handle_of header) others.1 in
    sym ((Decides-eqb (owner_of known x) (handle_of header)).0 last.1)

-- an object is a member of the block that is its owner exactly where it is a member of some block
owned_member_decided : (objects : List ObjectValue) (known : Option SpaceHandles) (x : ObjectValue) → Ascend (handles_of objects)
    → IsTrue (option_map_or (λ owner. is_member known owner x) (object_at objects (owner_of known x)) false) ↔ ((header : ObjectValue) × Contains objects header × IsTrue (is_member known header x))
owned_member_decided objects known x ascend = (
  λ is. let owner = passing_of_map_or (λ owner. is_member known owner x) (object_at objects (owner_of known x)) is in
      (owner.0, (stands_found objects (owner_of known x) owner.0 owner.1).0, owner.2),
  λ has. map_or_of_passing (λ owner. is_member known owner x) (object_at objects (owner_of known x)) has.0
      ((object_found objects (owner_of known x) has.0 ascend).1 (has.1, member_owner known has.0 x has.2)) has.2,
)

-- the test for that says whether no claim is asked for
pub exempt_decided : (objects : List ObjectValue) (x : ObjectValue) → Ascend (handles_of objects) → IsTrue (is_exempt objects (spaces objects) x) ↔ IsExempt objects x
unfolding is_exempt
exempt_decided objects x ascend =
    let owned : Bool = option_map_or (λ owner. is_member (spaces objects) owner x) (object_at objects (owner_of (spaces objects) x)) false in
    Decides-or (is_root (spaces objects) x) (same_kind kinds.Attrib (kind_of x) || (same_kind kinds.Vertex3d (kind_of x) || owned)) (λ is. is, λ is. is)
    (Decides-or (same_kind kinds.Attrib (kind_of x)) (same_kind kinds.Vertex3d (kind_of x) || owned) (kind_decided kinds.Attrib (kind_of x))
    (Decides-or (same_kind kinds.Vertex3d (kind_of x)) owned (kind_decided kinds.Vertex3d (kind_of x)) (owned_member_decided objects (spaces objects) x ascend)))

-- the test for that says whether a claim is the only one, and by that holder
pub sole_decided : (holder : ℕ) (all : List Claim) → IsTrue (is_sole_claim holder all) ↔ IsSoleClaim holder all
sole_decided holder [] = (λ is. cc is, λ never. absurd never)
sole_decided holder (claim ∷ []) = Decides-eqb claim.holder holder
sole_decided holder (claim ∷ other ∷ more) = (λ is. cc is, λ never. absurd never)

-- the test for that says whether there is no claim
pub unclaimed_decided : (all : List Claim) → IsTrue (is_unclaimed all) ↔ (all ≡ [])
unclaimed_decided [] = (λ is. refl, λ is. refl)
unclaimed_decided (claim ∷ more) = (λ is. absurd (cc is), λ is. absurd (cc is))

-- how an owner must claim
abbrev claims_so : ℕ → List Claim → ObjectValue → Bool
claims_so holder all owner = if is_typed owner then is_sole_claim holder all else is_unclaimed all

-- an owner that claims as it must is Typed and the only one to do so, or isn't and none does
claimed_so : (objects : List ObjectValue) (x owner : ObjectValue) → object_at objects (owner_of (spaces objects) x) ≡ Some owner
    → claims_so (owner_of (spaces objects) x) (claims objects (handle_of x)) owner ≡ true → IsClaimed objects x
claimed_so objects x owner found so =
    let stands = stands_found objects (owner_of (spaces objects) x) owner found in
    let all : List Claim = claims objects (handle_of x) in ⊎_elim
    (λ (typed : is_typed owner ≡ true). inl (
      record { owner = owner; stands = stands.0; has = stands.1; form = typed },
      (sole_decided (owner_of (spaces objects) x) all).0 (rw typed at so),
    ))
    (λ (other : is_typed owner ≡ false). inr (
      record { owner = owner; stands = stands.0; has = stands.1; form = other },
      (unclaimed_decided all).0 (rw other at so),
    ))
    (cases_Bool (is_typed owner))

-- the owner of an object is found
owner_found : (objects : List ObjectValue) (x : ObjectValue) (typed : Bool) → Ascend (handles_of objects) → (owned : IsOwnedBy objects x typed) → object_at objects (owner_of (spaces objects) x) ≡ Some owned.owner
owner_found objects x typed ascend owned = (object_found objects (owner_of (spaces objects) x) owned.owner ascend).1 (owned.stands, owned.has)

-- the test for that says whether an object is claimed as it must be
pub claimed_decided : (objects : List ObjectValue) (x : ObjectValue) → Ascend (handles_of objects) → IsTrue (is_claimed objects (spaces objects) x) ↔ IsClaimed objects x
unfolding is_claimed
claimed_decided objects x ascend =
    let holder : ℕ = owner_of (spaces objects) x in
    let all : List Claim = claims objects (handle_of x) in (
      λ is. let owner = passing_of_map_or (claims_so holder all) (object_at objects holder) is in claimed_so objects x owner.0 owner.1 owner.2,
      λ claimed. ⊎_elim
          (λ sole. map_or_of_passing (claims_so holder all) (object_at objects holder) sole.0.owner (owner_found objects x true ascend sole.0)
          (cond-true (is_typed sole.0.owner) (is_sole_claim holder all) (is_unclaimed all) sole.0.form ∙ (sole_decided holder all).1 sole.1))
          (λ none. map_or_of_passing (claims_so holder all) (object_at objects holder) none.0.owner (owner_found objects x false ascend none.0)
          (cond-false (is_typed none.0.owner) (is_sole_claim holder all) (is_unclaimed all) none.0.form ∙ (unclaimed_decided all).1 none.1))
          claimed,
    )

-- a handle by which an object is found is that of an object
pub handle_inside : (objects : List ObjectValue) (handle : ℕ) (x : ObjectValue) → object_at objects handle ≡ Some x → Contains (handles_of objects) handle
handle_inside objects handle x found =
    let stands = stands_found objects handle x found in subst (λ (h : ℕ). Contains (handles_of objects) h) stands.1 (contains_map handle_of objects x stands.0)

-- a handle of a member is that of an object
pub members_among : (objects : List ObjectValue) (known : Option SpaceHandles) (header : ObjectValue) (handle : ℕ) → member_at objects known header handle ≡ true → Contains (handles_of objects) handle
unfolding member_at
members_among objects known header handle is =
    let member = passing_of_map_or (is_member known header) (object_at objects handle) is in handle_inside objects handle member.0 member.1

-- no handle is that of a member where no object is one
pub none_of_any : (objects : List ObjectValue) (known : Option SpaceHandles) (header : ObjectValue) (handle : ℕ) → list_any (is_member known header) objects ≡ false → member_at objects known header handle ≡ false
unfolding member_at
none_of_any objects known header handle none =
    false_from_ne_true (option_map_or (is_member known header) (object_at objects handle) false) (λ is.
    let member = passing_of_map_or (is_member known header) (object_at objects handle) is in
    both_ways (list_any (is_member known header) objects) none (any_of_one (is_member known header) objects member.0 (stands_found objects handle member.0 member.1).0 member.2))

-- no object is a member where no handle is that of one
pub any_of_none : (objects : List ObjectValue) (known : Option SpaceHandles) (header : ObjectValue) → Ascend (handles_of objects) → ((handle : ℕ) → member_at objects known header handle ≡ false) → list_any (is_member known header) objects ≡ false
unfolding member_at
any_of_none objects known header ascend none =
    false_from_ne_true (list_any (is_member known header) objects) (λ is.
    let member = one_of_any (is_member known header) objects is in
    let found = (object_found objects (handle_of member.0) member.0 ascend).1 (member.1, refl) in
    both_ways (option_map_or (is_member known header) (object_at objects (handle_of member.0)) false) (none (handle_of member.0))
    (map_or_of_passing (is_member known header) (object_at objects (handle_of member.0)) member.0 found member.2))

-- a handle that is there is that of an object
pub there_inside : (objects : List ObjectValue) (handle other : ℕ) → there objects handle ≡ Some other → Contains (handles_of objects) other
there_inside objects handle other is =
    let found = found_there objects handle other is in
    subst (λ (h : ℕ). Contains (handles_of objects) h) found.2 (handle_inside objects handle found.0 found.1)

-- owners lead from objects to objects
pub owners_closed : (objects : List ObjectValue) (known : Option SpaceHandles) → IsClosed (handles_of objects) (owner_step objects known)
unfolding owner_step
owners_closed objects known handle other inside to =
    let step = option_then_found (λ x. there objects (owner_of known x)) (object_at objects handle) other to in there_inside objects (owner_of known step.0) other step.2
