-- The findings of a drawing whose handles ascend are exactly its failures, and there are none exactly where it is sound.
use Rattle.std.proofs.Common.{◌≡◌, sym, refl, subst, inl, inr, ⊎_elim}
use Rattle.std.proofs.lemmas.Bool.{cases_Bool, true≢false, iff_false, false_from_ne_true, true_from_ne_false, both_ways, not_from_false}
use Rattle.std.proofs.lemmas.Bool.Decides.{Decides-eqb, Decides-or, Decides-not}
use Rattle.std.proofs.lemmas.List.Elements.{Contains-append_left, Contains-append_right, Contains-append_cases}
use Rattle.std.specs.Prelude.{◌==◌, ◌||◌, ◌⊎◌, ◌↔◌, if◌then◌else◌, ℕ, Bool, true, false, List, [], ◌∷◌, ◌++◌, length, filter, not, Some, None, IsTrue, Contains}
use Rattle.std.specs.List.{flat_map}
use Rattle.std.specs.Option.{option_map_or}
use Rattle.dwg_audit.specs.declared.finding.Finding.{Finding}
use Rattle.dwg_audit.specs.declared.finding.Rule.TheVariants as rules
use Rattle.dwg_audit.specs.Failures.{IsControlFinding, IsReferenceOf, IsResolveFinding, IsClaimFinding, IsChainFinding, IsPathFinding, IsFindingOf, IsFinding}
use Rattle.dwg_audit.specs.Findings.{unless, control_findings, unmet, is_application, owner_slot, references, resolve_findings, claim_findings, is_chained, chain_findings, path_findings, findings_of, findings}
use Rattle.dwg_audit.proofs.FindingTests.{chained_decided, owner_path_decided}
use Rattle.dwg_graph.specs.declared.slot.Slot.{Slot}
use Rattle.dwg_graph.specs.Graph.{is_typed, is_header, claims, owner_step, root_at, EndHandles, ends_of, HasOwnerPath, HasMemberChain}
use Rattle.dwg_graph.specs.Owners.{block_controls, spaces, owner_of}
use Rattle.dwg_graph.specs.Places.{Ascend, handles_of}
use Rattle.dwg_graph.specs.Slots.{slots}
use Rattle.dwg_graph.specs.Sound.{MeetsSome, Resolves, IsExempt, IsClaimed, IsSound}
use Rattle.dwg_graph.specs.Tests.{is_met, is_exempt, is_claimed}
use Rattle.dwg_graph.proofs.ListLemmas.{empty_of_none, none_of_empty, contains_one, contained_in_one, contained_in_all}
use Rattle.dwg_graph.proofs.Tests.{met_decided, exempt_decided, claimed_decided}
use Rattle.dwg_kinds.specs.Needs.{need_of}
use Rattle.dwg_object.specs.Objects.{ObjectValue, TypedValue, PlainValue, RawValue, handle_of, kind_of}
use Rattle.dwg_chains.proofs.MemberLemmas.{contains_none, contains_first, contains_after, contains_cases}
use Rattle.dwg_chains.proofs.TestLemmas.{kept_of_passing, passing_of_kept}
use Rattle.dwg_chains.specs.Ways.{has_path}
use Rattle.dwg_audit.specs.FindingLaws.{FindingsStand, NothingIsFoundIfSound}

-- a finding stands where a test fails
pub unless_stands : (holds : Bool) (one finding : Finding) → Contains (unless holds one) finding ↔ ((holds ≡ false) × (finding ≡ one))
unless_stands true one finding = (λ inside. absurd (contains_none finding inside), λ is. absurd (true≢false is.0))
unless_stands false one finding = (λ inside. (refl, (contains_one one finding).0 inside), λ is. (contains_one one finding).1 is.1)

-- a finding stands where what a test says doesn't hold
fails_stands : (holds : Bool) (Holds : Type 0) (one finding : Finding) → IsTrue holds ↔ Holds → Contains (unless holds one) finding ↔ ((Holds → ⊥) × (finding ≡ one))
fails_stands holds Holds one finding reports = (
  λ inside. let is = (unless_stands holds one finding).0 inside in (iff_false reports is.0, is.1),
  λ is. (unless_stands holds one finding).1 (false_from_ne_true holds (λ passes. is.0 (reports.0 passes)), is.1),
)

-- what stands in joined lists is reported by what stands in each
joined_stands : {A : Type 0} (Here There : Type 0) (xs ys : List A) (x : A) → Contains xs x ↔ Here → Contains ys x ↔ There → Contains (xs ++ ys) x ↔ (Here ⊎ There)
joined_stands Here There xs ys x here there = (
  λ inside. ⊎_elim (λ first. inl (here.0 first)) (λ second. inr (there.0 second)) (Contains-append_cases xs ys x inside),
  λ reported. ⊎_elim (λ first. Contains-append_left xs ys x (here.1 first)) (λ second. Contains-append_right xs ys x (there.1 second)) reported,
)

-- what stands in a list that is taken by a test is reported by both
taken_stands : {A : Type 0} (taken : Bool) (Held : Type 0) (xs : List A) (x : A) → Contains xs x ↔ Held → Contains (if taken then xs else []) x ↔ (IsTrue taken × Held)
taken_stands true Held xs x held = (λ inside. (refl, held.0 inside), λ reported. held.1 reported.1)
taken_stands false Held xs x held = (λ inside. absurd (contains_none x inside), λ reported. absurd (true≢false (sym reported.0)))

-- findings of the table of blocks
pub control_stands : (objects : List ObjectValue) (finding : Finding) → Contains (control_findings objects) finding ↔ IsControlFinding objects finding
unfolding control_findings
control_stands objects finding =
    let count : ℕ = length (block_controls objects) in
    let reported = fails_stands (count == 1) (count ≡ 1) (record { handle = 0; rule = rules.Control; field = None; position = count; target = 0 }) finding (Decides-eqb count 1) in (
      λ inside. let is = reported.0 inside in record { fails = is.0; says = is.1 },
      λ is. reported.1 (is.fails, is.says),
    )

-- references are the owner and the slots
reference_stands : (objects : List ObjectValue) (x : ObjectValue) (slot : Slot) → Contains (references (spaces objects) x) slot ↔ IsReferenceOf objects x slot
unfolding references
reference_stands objects x slot =
    let prefix : List Slot = filter is_application (slots x) in
    let back : List Slot = filter (λ s. not (is_application s)) (slots x) in
    let owner : Slot = owner_slot (spaces objects) x in (
      λ inside. ⊎_elim
          (λ first. inr (passing_of_kept is_application (slots x) slot first).0)
          (λ after. ⊎_elim (λ same. inl (sym same)) (λ further. inr (passing_of_kept (λ s. not (is_application s)) (slots x) slot further).0) (contains_cases owner back slot after))
          (Contains-append_cases prefix (owner ∷ back) slot inside),
      λ is. ⊎_elim
          (λ same. Contains-append_right prefix (owner ∷ back) slot (subst (λ (s : Slot). Contains (owner ∷ back) s) (sym same) (contains_first owner back)))
          (λ held. ⊎_elim
          (λ (application : is_application slot ≡ true). Contains-append_left prefix (owner ∷ back) slot (kept_of_passing is_application (slots x) slot held application))
          (λ (other : is_application slot ≡ false). Contains-append_right prefix (owner ∷ back) slot
          (contains_after owner back slot (kept_of_passing (λ s. not (is_application s)) (slots x) slot held (not_from_false (is_application slot) other))))
          (cases_Bool (is_application slot)))
          is,
    )

-- what is found of a reference
abbrev pub resolve_finding : ObjectValue → Slot → Finding
resolve_finding x slot = record { handle = handle_of x; rule = rules.Resolve; field = Some slot.field; position = slot.position; target = slot.target }

-- a finding of one reference
unmet_stands : (objects : List ObjectValue) (x : ObjectValue) (slot : Slot) (finding : Finding) → Ascend (handles_of objects)
    → Contains (unmet objects x slot) finding ↔ ((MeetsSome objects (need_of slot.field (kind_of x)) slot.target → ⊥) × (finding ≡ resolve_finding x slot))
unmet_stands objects x slot finding ascend =
    fails_stands (is_met objects x slot) (MeetsSome objects (need_of slot.field (kind_of x)) slot.target) (resolve_finding x slot) finding (met_decided objects x slot ascend)

-- findings of references
pub resolve_stands : (objects : List ObjectValue) (x : ObjectValue) (finding : Finding) → Ascend (handles_of objects)
    → Contains (resolve_findings objects (spaces objects) x) finding ↔ IsResolveFinding objects x finding
unfolding resolve_findings
resolve_stands objects x finding ascend = (
  λ inside. let one = contained_in_one (unmet objects x) (references (spaces objects) x) finding inside in
      let is = (unmet_stands objects x one.0 finding ascend).0 one.2 in
      record { slot = one.0; held = (reference_stands objects x one.0).0 one.1; fails = is.0; says = is.1 },
  λ is. contained_in_all (unmet objects x) (references (spaces objects) x) is.slot finding ((reference_stands objects x is.slot).1 is.held) ((unmet_stands objects x is.slot finding ascend).1 (is.fails, is.says)),
)

-- findings of claims
pub claim_stands : (objects : List ObjectValue) (x : ObjectValue) (finding : Finding) → Ascend (handles_of objects)
    → Contains (claim_findings objects (spaces objects) x) finding ↔ IsClaimFinding objects x finding
unfolding claim_findings
claim_stands objects x finding ascend =
    let reported = fails_stands (is_exempt objects (spaces objects) x || is_claimed objects (spaces objects) x) (IsExempt objects x ⊎ IsClaimed objects x)
    (record { handle = handle_of x; rule = rules.Claim; field = None; position = length (claims objects (handle_of x)); target = owner_of (spaces objects) x }) finding
    (Decides-or (is_exempt objects (spaces objects) x) (is_claimed objects (spaces objects) x) (exempt_decided objects x ascend) (claimed_decided objects x ascend)) in (
      λ inside. let is = reported.0 inside in record { asked = λ exempt. is.0 (inl exempt); fails = λ claimed. is.0 (inr claimed); says = is.1 },
      λ is. reported.1 (λ either. ⊎_elim is.asked is.fails either, is.says),
    )

-- findings of chains
pub chain_stands : (objects : List ObjectValue) (x : ObjectValue) (finding : Finding) → Ascend (handles_of objects)
    → Contains (chain_findings objects (spaces objects) x) finding ↔ IsChainFinding objects x finding
unfolding chain_findings
chain_stands objects x finding ascend =
    let chained : Bool = is_chained objects (spaces objects) x (ends_of x) in
    let reported = fails_stands (not (is_header x) || chained) ((IsTrue (is_header x) → ⊥) ⊎ HasMemberChain objects x)
    (record { handle = handle_of x; rule = rules.Chain; field = None; position = 0; target = option_map_or (λ (ends : EndHandles). ends.last) (ends_of x) 0 }) finding
    (Decides-or (not (is_header x)) chained (Decides-not (is_header x) (λ is. is, λ is. is)) (chained_decided objects x ascend)) in (
      λ inside. let is = reported.0 inside in
          record { header = true_from_ne_false (is_header x) (λ none. is.0 (inl (both_ways (is_header x) none))); fails = λ chain. is.0 (inr chain); says = is.1 },
      λ is. reported.1 (λ either. ⊎_elim (λ none. none is.header) is.fails either, is.says),
    )

-- findings of paths
pub path_stands : (objects : List ObjectValue) (x : ObjectValue) (finding : Finding) → Contains objects x
    → Contains (path_findings objects (spaces objects) x) finding ↔ IsPathFinding objects x finding
unfolding path_findings
path_stands objects x finding inside =
    let reported = fails_stands (has_path (handles_of objects) (owner_step objects (spaces objects)) (root_at objects (spaces objects)) (handle_of x)) (HasOwnerPath objects x)
    (record { handle = handle_of x; rule = rules.Path; field = None; position = 0; target = owner_of (spaces objects) x }) finding
    (owner_path_decided objects x inside) in (
      λ held. let is = reported.0 held in record { fails = is.0; says = is.1 },
      λ is. reported.1 (is.fails, is.says),
    )

-- findings of one object
pub object_stands : (objects : List ObjectValue) (x : ObjectValue) (finding : Finding) → Ascend (handles_of objects) → Contains objects x
    → Contains (findings_of objects (spaces objects) x) finding ↔ (IsTrue (is_typed x) × IsFindingOf objects x finding)
unfolding findings_of
object_stands objects x finding ascend inside =
    let resolve : List Finding = resolve_findings objects (spaces objects) x in
    let claim : List Finding = claim_findings objects (spaces objects) x in
    let chain : List Finding = chain_findings objects (spaces objects) x in
    let path : List Finding = path_findings objects (spaces objects) x in
    taken_stands (is_typed x) (IsFindingOf objects x finding) (resolve ++ (claim ++ (chain ++ path))) finding
    (joined_stands (IsResolveFinding objects x finding) (IsClaimFinding objects x finding ⊎ (IsChainFinding objects x finding ⊎ IsPathFinding objects x finding)) resolve (claim ++ (chain ++ path)) finding (resolve_stands objects x finding ascend)
    (joined_stands (IsClaimFinding objects x finding) (IsChainFinding objects x finding ⊎ IsPathFinding objects x finding) claim (chain ++ path) finding (claim_stands objects x finding ascend)
    (joined_stands (IsChainFinding objects x finding) (IsPathFinding objects x finding) chain path finding (chain_stands objects x finding ascend) (path_stands objects x finding inside))))

-- so they are
pub findings_stand : FindingsStand
unfolding findings
findings_stand objects finding ascend =
    joined_stands (IsControlFinding objects finding) ((x : ObjectValue) × Contains objects x × IsTrue (is_typed x) × IsFindingOf objects x finding) (control_findings objects) (flat_map (findings_of objects (spaces objects)) objects) finding
    (control_stands objects finding) (
      λ inside. let one = contained_in_one (findings_of objects (spaces objects)) objects finding inside in
          let is = (object_stands objects one.0 finding ascend one.1).0 one.2 in
          (one.0, one.1, is.0, is.1),
      λ is. contained_in_all (findings_of objects (spaces objects)) objects is.0 finding is.1 ((object_stands objects is.0 finding ascend is.1).1 (is.2, is.3)),
    )

-- what doesn't fail holds, where a test reports
settled : (holds : Bool) (Holds : Type 0) → IsTrue holds ↔ Holds → ((Holds → ⊥) → ⊥) → Holds
settled holds Holds reports stands = ⊎_elim
    (λ (passes : holds ≡ true). reports.0 passes)
    (λ (fails : holds ≡ false). absurd (stands (iff_false reports fails)))
    (cases_Bool holds)

-- a Typed BLOCK HEADER is Typed
header_is_typed : (x : ObjectValue) → is_header x ≡ true → is_typed x ≡ true
header_is_typed (TypedValue number handle common body) is = refl
header_is_typed (PlainValue number handle common rest refs) is = absurd (cc is)
header_is_typed (RawValue number handle bytes) is = absurd (cc is)

-- the references of an object of a drawing without findings meet their needs
resolved_without : (objects : List ObjectValue) (x : ObjectValue) → Ascend (handles_of objects) → ((finding : Finding) → IsResolveFinding objects x finding → ⊥) → Resolves objects x
resolved_without objects x ascend none =
    let met : (slot : Slot) → IsReferenceOf objects x slot → MeetsSome objects (need_of slot.field (kind_of x)) slot.target =
    λ slot held. settled (is_met objects x slot) (MeetsSome objects (need_of slot.field (kind_of x)) slot.target) (met_decided objects x slot ascend)
    (λ fails. none (resolve_finding x slot) (record { slot = slot; held = held; fails = fails; says = refl })) in
    record { owner = met (owner_slot (spaces objects) x) (inl refl); slots = λ slot held. met slot (inr held) }

-- a drawing without failures is sound
sound_without : (objects : List ObjectValue) → Ascend (handles_of objects) → ((finding : Finding) → IsFinding objects finding → ⊥) → IsSound objects
sound_without objects ascend none = record {
  needs = record {
    control = let count : ℕ = length (block_controls objects) in
        settled (count == 1) (count ≡ 1) (Decides-eqb count 1)
        (λ fails. none (record { handle = 0; rule = rules.Control; field = None; position = count; target = 0 }) (inl (record { fails = fails; says = refl })));
    resolve = λ x inside typed. resolved_without objects x ascend (λ finding is. none finding (inr (x, inside, typed, inl is)));
    claim = λ x inside typed. settled (is_exempt objects (spaces objects) x || is_claimed objects (spaces objects) x) (IsExempt objects x ⊎ IsClaimed objects x)
        (Decides-or (is_exempt objects (spaces objects) x) (is_claimed objects (spaces objects) x) (exempt_decided objects x ascend) (claimed_decided objects x ascend))
        (λ fails. none (record { handle = handle_of x; rule = rules.Claim; field = None; position = length (claims objects (handle_of x)); target = owner_of (spaces objects) x })
        (inr (x, inside, typed, inr (inl (record { asked = λ exempt. fails (inl exempt); fails = λ claimed. fails (inr claimed); says = refl })))));
  };
  chain = λ x inside header. settled (is_chained objects (spaces objects) x (ends_of x)) (HasMemberChain objects x) (chained_decided objects x ascend)
      (λ fails. none (record { handle = handle_of x; rule = rules.Chain; field = None; position = 0; target = option_map_or (λ (ends : EndHandles). ends.last) (ends_of x) 0 })
      (inr (x, inside, header_is_typed x header, inr (inr (inl (record { header = header; fails = fails; says = refl }))))));
  path = λ x inside typed. settled (has_path (handles_of objects) (owner_step objects (spaces objects)) (root_at objects (spaces objects)) (handle_of x)) (HasOwnerPath objects x) (owner_path_decided objects x inside)
      (λ fails. none (record { handle = handle_of x; rule = rules.Path; field = None; position = 0; target = owner_of (spaces objects) x })
      (inr (x, inside, typed, inr (inr (inr (record { fails = fails; says = refl }))))));
}

-- a reference of an object that resolves meets its need
met_where_resolved : (objects : List ObjectValue) (x : ObjectValue) (slot : Slot) → Resolves objects x → IsReferenceOf objects x slot → MeetsSome objects (need_of slot.field (kind_of x)) slot.target
met_where_resolved objects x slot resolves held = ⊎_elim
    (λ same. subst (λ (s : Slot). MeetsSome objects (need_of s.field (kind_of x)) s.target) (sym same) resolves.owner)
    (λ inside. resolves.slots slot inside)
    held

-- an object of a sound drawing doesn't fail
sound_object : (objects : List ObjectValue) (x : ObjectValue) (finding : Finding) → IsSound objects → Contains objects x → IsTrue (is_typed x) → IsFindingOf objects x finding → ⊥
sound_object objects x finding sound inside typed is = ⊎_elim
    (λ resolve. resolve.fails (met_where_resolved objects x resolve.slot (sound.needs.resolve x inside typed) resolve.held))
    (λ others. ⊎_elim
    (λ claim. ⊎_elim claim.asked claim.fails (sound.needs.claim x inside typed))
    (λ further. ⊎_elim
    (λ chain. chain.fails (sound.chain x inside chain.header))
    (λ path. path.fails (sound.path x inside typed))
    further)
    others)
    is

-- a sound drawing has no failures
without_if_sound : (objects : List ObjectValue) (finding : Finding) → IsSound objects → IsFinding objects finding → ⊥
without_if_sound objects finding sound is = ⊎_elim
    (λ control. control.fails sound.needs.control)
    (λ one. sound_object objects one.0 finding sound one.1 one.2 one.3)
    is

-- so it is
pub none_if_sound : NothingIsFoundIfSound
none_if_sound objects ascend = (
  λ none. sound_without objects ascend (λ finding is. none_of_empty (findings objects) finding none ((findings_stand objects finding ascend).1 is)),
  λ sound. empty_of_none (findings objects) (λ finding inside. without_if_sound objects finding sound ((findings_stand objects finding ascend).0 inside)),
)
