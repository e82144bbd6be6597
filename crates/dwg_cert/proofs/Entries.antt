-- Laws of entries and of members: which objects they are of, and which handles have them.
use Rattle.std.proofs.Common.{◌≡◌, sym, refl, ap, ◌∙◌, subst, inl, inr, ⊎_elim}
use Rattle.std.proofs.lemmas.Bool.{and_parts, and_from}
use Rattle.std.proofs.lemmas.Bool.Decides.{Decides-eqb}
use Rattle.std.proofs.lemmas.Option.{same_Some}
use Rattle.std.specs.Prelude.{◌==◌, ◌&&◌, ◌⊎◌, ◌≢◌, ◌↔◌, ℕ, Bool, true, false, not, List, [], ◌∷◌, map, Option, Some, None, is_some, if◌then◌else◌, IsTrue, Contains}
use Rattle.std.specs.Option.{option_and_then, option_map_or}
use Rattle.dwg_cert.specs.Accepts.{handles_in, entry_at, rank_at, members_of}
use Rattle.dwg_cert.specs.AcceptTests.{are_handles}
use Rattle.dwg_cert.specs.declared.entry.Entry.{Entry}
use Rattle.dwg_graph.specs.declared.owner.SpaceHandles.{SpaceHandles}
use Rattle.dwg_graph.specs.Graph.{object_at, there, is_header, is_raw, is_member_kind, is_member, member_at}
use Rattle.dwg_graph.specs.Owners.{spaces, owner_of}
use Rattle.dwg_graph.specs.Places.{Ascend, handles_of}
use Rattle.dwg_graph.proofs.ListLemmas.{contains_map}
use Rattle.dwg_graph.proofs.ObjectPaths.{stands_found}
use Rattle.dwg_graph.proofs.Tests.{object_found}
use Rattle.dwg_object.specs.Objects.{ObjectValue, handle_of, kind_of}
use Rattle.dwg_chains.specs.Numbered.{PassesThese}
use Rattle.dwg_chains.specs.Tables.{is_at}
use Rattle.dwg_chains.proofs.MemberLemmas.{contains_none, contains_first, contains_after, contains_cases}
use Rattle.dwg_chains.proofs.TestLemmas.{passing_of_found, kept_of_passing, passing_of_kept}
use Rattle.dwg_chains.proofs.WayLemmas.{option_then_found}

-- a list is empty or isn't
pub empty_or_not : {A : Type 0} (xs : List A) → (xs ≡ []) ⊎ (xs ≢ [])
empty_or_not [] = inl refl
empty_or_not (x ∷ xs) = inr (λ is. cc is)

-- what is there is something
pub some_there : {A : Type 0} (found : Option A) → IsTrue (is_some found) → (x : A) × (found ≡ Some x)
some_there None is = absurd (cc is)
some_there (Some x) is = (x, refl)

-- a test of what may be there passes exactly where something is there of which it says so
pub map_or_decided : {A : Type 0} (test : A → Bool) (P : A → Type 0) (found : Option A) → ((x : A) → IsTrue (test x) ↔ P x) → IsTrue (option_map_or test found false) ↔ ((x : A) × (found ≡ Some x) × P x)
map_or_decided test P None reports = (λ is. absurd (cc is), λ has. absurd (cc has.1))
map_or_decided test P (Some x) reports = (λ is. (x, refl, (reports x).0 is), λ has. (reports x).1 (subst P (sym (same_Some x has.0 has.1)) has.2))

-- a number that may be there is that one exactly where the test for it says so
pub at_decided : (at : Option ℕ) (n : ℕ) → IsTrue (is_at at n) ↔ (at ≡ Some n)
at_decided None n = (λ is. absurd (cc is), λ is. absurd (cc is))
at_decided (Some k) n = (λ is. ap Some ((Decides-eqb k n).0 is), λ is. (Decides-eqb k n).1 (same_Some k n is))

-- what stands in a map is that of something that the list contains
pub contained_in_map : {A B : Type 0} (turn : A → B) (xs : List A) (y : B) → Contains (map turn xs) y → (x : A) × Contains xs x × (turn x ≡ y)
contained_in_map turn [] y inside = absurd (contains_none y inside)
contained_in_map turn (x ∷ xs) y inside = ⊎_elim
    (λ same. (x, contains_first x xs, same))
    (λ after. let further = contained_in_map turn xs y after in (further.0, contains_after x xs further.0 further.1, further.2))
    (contains_cases (turn x) (map turn xs) y inside)

-- lists of one thing and more are equal where both are
same_lists : {A : Type 0} (x y : A) (xs ys : List A) → ((x ≡ y) × (xs ≡ ys)) ↔ (x ∷ xs ≡ y ∷ ys)
same_lists x y xs ys = (λ same. let here = same.0 in let after = same.1 in cc (here, after), λ same. (cc same, cc same))

-- the test for that says whether the handles of entries are those of objects
pub handles_are : (cert : List Entry) (objects : List ObjectValue) → IsTrue (are_handles cert objects) ↔ (handles_in cert ≡ handles_of objects)
unfolding are_handles
handles_are [] [] = (λ is. refl, λ is. refl)
handles_are [] (x ∷ xs) = (λ is. absurd (cc is), λ is. absurd (cc is))
handles_are (entry ∷ entries) [] = (λ is. absurd (cc is), λ is. absurd (cc is))
handles_are (entry ∷ entries) (x ∷ xs) = (
  λ is. let parts = and_parts (entry.handle == handle_of x) (are_handles entries xs) is in
      (same_lists entry.handle (handle_of x) (handles_in entries) (handles_of xs)).0 ((Decides-eqb entry.handle (handle_of x)).0 parts.0, (handles_are entries xs).0 parts.1),
  λ is. let parts = (same_lists entry.handle (handle_of x) (handles_in entries) (handles_of xs)).1 is in
      and_from (entry.handle == handle_of x) (are_handles entries xs) ((Decides-eqb entry.handle (handle_of x)).1 parts.0) ((handles_are entries xs).1 parts.1),
)

-- a handle that has an entry is that of an object
pub object_of_entry : (objects : List ObjectValue) (cert : List Entry) (handle : ℕ) (entry : Entry) → handles_in cert ≡ handles_of objects → entry_at cert handle ≡ Some entry
    → (x : ObjectValue) × Contains objects x × (handle_of x ≡ handle)
unfolding entry_at
object_of_entry objects cert handle entry are is =
    let found = passing_of_found (λ (one : Entry). one.handle == handle) cert entry is in
    let inside : Contains (handles_in cert) entry.handle = contains_map (λ (one : Entry). one.handle) cert entry found.0 in
    contained_in_map handle_of objects handle (subst (λ (h : ℕ). Contains (handles_of objects) h) ((Decides-eqb entry.handle handle).0 found.1) (subst (λ (hs : List ℕ). Contains hs entry.handle) are inside))

-- so is one that has a rank
pub object_of_rank : (objects : List ObjectValue) (cert : List Entry) (handle rank : ℕ) → handles_in cert ≡ handles_of objects → rank_at cert handle ≡ Some rank
    → (x : ObjectValue) × Contains objects x × (handle_of x ≡ handle)
object_of_rank objects cert handle rank are is =
    let entry = option_then_found (λ (one : Entry). one.rank) (entry_at cert handle) rank is in object_of_entry objects cert handle entry.0 are entry.1

-- from an object of a handle a step leads to the handle that it names, where an object has that
pub step_leads : (objects : List ObjectValue) (target : ObjectValue → ℕ) (handle : ℕ) (x y : ObjectValue) → object_at objects handle ≡ Some x → object_at objects (target x) ≡ Some y
    → option_and_then (λ z. there objects (target z)) (object_at objects handle) ≡ Some (target x)
unfolding there
step_leads objects target handle x y here next =
    ap (option_and_then (λ z. there objects (target z))) here ∙ ap (λ found. if is_some found then Some (target x) else None) next

-- a member is of a Typed BLOCK HEADER, is Typed or Plain, and has that as its owner
pub record IsOfBlock (known : Option SpaceHandles) (block x : ObjectValue) : Type 0 where
  pub header : IsTrue (is_header block)
  pub form : is_raw x ≡ false
  pub owner : handle_of block ≡ owner_of known x

pub of_block : (known : Option SpaceHandles) (block x : ObjectValue) → IsTrue (is_member known block x) → IsOfBlock known block x
unfolding is_member
of_block known block x is =
    let owned : Bool = owner_of known x == handle_of block in
    let parts = and_parts (is_header block) (not (is_raw x) && (is_member_kind (kind_of x) && owned)) is in
    let others = and_parts (not (is_raw x)) (is_member_kind (kind_of x) && owned) parts.1 in
    let last = and_parts (is_member_kind (kind_of x)) owned others.1 in
    record { header = parts.0; form = not_raw (is_raw x) others.0; owner = sym ((Decides-eqb (owner_of known x) (handle_of block)).0 last.1) }
  where
    not_raw : (raw : Bool) → not raw ≡ true → raw ≡ false
    not_raw true is = absurd (cc is)
    not_raw false is = refl

-- the block of a member is found by the member's owner
pub block_found : (objects : List ObjectValue) (block x : ObjectValue) → Ascend (handles_of objects) → Contains objects block → IsTrue (is_member (spaces objects) block x)
    → object_at objects (owner_of (spaces objects) x) ≡ Some block
block_found objects block x ascend stands is = (object_found objects (owner_of (spaces objects) x) block ascend).1 (stands, (of_block (spaces objects) block x is).owner)

-- the members of a block are those objects that are members of it
pub members_are : (objects : List ObjectValue) (block x : ObjectValue) → (Contains objects x × IsTrue (is_member (spaces objects) block x)) ↔ Contains (members_of objects block) x
members_are objects block x = (
  λ is. kept_of_passing (is_member (spaces objects) block) objects x is.0 is.1,
  λ inside. passing_of_kept (is_member (spaces objects) block) objects x inside,
)

-- the handles that are those of members are those of the members
pub members_passed : (objects : List ObjectValue) (block : ObjectValue) → Ascend (handles_of objects) → PassesThese (member_at objects (spaces objects) block) (map handle_of (members_of objects block))
unfolding member_at
members_passed objects block ascend handle = (
  λ is. let member = (map_or_decided (is_member (spaces objects) block) (λ x. IsTrue (is_member (spaces objects) block x)) (object_at objects handle) (λ x. (λ so. so, λ so. so))).0 is in
      let stands = stands_found objects handle member.0 member.1 in
      subst (λ (h : ℕ). Contains (map handle_of (members_of objects block)) h) stands.1
      (contains_map handle_of (members_of objects block) member.0 ((members_are objects block member.0).0 (stands.0, member.2))),
  λ inside. let member = contained_in_map handle_of (members_of objects block) handle inside in
      let stands = (members_are objects block member.0).1 member.1 in
      (map_or_decided (is_member (spaces objects) block) (λ x. IsTrue (is_member (spaces objects) block x)) (object_at objects handle) (λ x. (λ so. so, λ so. so))).1
      (member.0, (object_found objects handle member.0 ascend).1 (stands.0, member.2), stands.1),
)
