-- Findings of one object, in the order of rules, and of all objects, one after the other.
use Rattle.std.proofs.Common.{◌≡◌, sym, ap, ◌∙◌, ℕ, suc, ◌≤◌, false, List, [], ◌++◌, length, drop, Option, Some}
use Rattle.std.specs.Prelude.{◌↔◌, IsTrue, Result, Ok, Err, IfOk, flat_map, if◌then◌else◌}
use Rattle.std.specs.List.{slice_get}
use Rattle.std.proofs.lemmas.List.{append_assoc, append-nil}
use Rattle.std.proofs.Math.ListN.{drop_of_length-le}
use Rattle.dwg_audit.proofs.Choosing.{drop_at_place}
use Rattle.dwg_base.specs.declared.device.NoMemory.{NoMemory}
use Rattle.dwg_audit.specs.Findings.{control_findings, findings, resolve_findings, claim_findings, chain_findings, path_findings, findings_of}
use Rattle.dwg_audit.specs.declared.finding.Finding.{Finding}
use Rattle.dwg_graph.specs.declared.owner.SpaceHandles.{SpaceHandles}
use Rattle.dwg_graph.specs.Graph.{is_typed}
use Rattle.dwg_graph.specs.Owners.{spaces}
use Rattle.dwg_object.specs.Objects.{ObjectValue}

-- what is found of a Typed object by each rule
pub found_by_rules : (objects : List ObjectValue) (known : Option SpaceHandles) (x : ObjectValue) (none one two three four : List Finding) → IsTrue (is_typed x)
    → one ≡ none ++ resolve_findings objects known x → two ≡ one ++ claim_findings objects known x → three ≡ two ++ chain_findings objects known x → four ≡ three ++ path_findings objects known x
    → known ≡ spaces objects → four ≡ none ++ findings_of objects (spaces objects) x
unfolding findings_of
found_by_rules objects known x none one two three four typed first second third fourth is_known =
    let a : List Finding = resolve_findings objects known x in
    let b : List Finding = claim_findings objects known x in
    let c : List Finding = chain_findings objects known x in
    let d : List Finding = path_findings objects known x in
    fourth
    ∙ ap (λ f. f ++ d) (third ∙ ap (λ f. f ++ c) (second ∙ ap (λ f. f ++ b) first))
    ∙ append_assoc ((none ++ a) ++ b) c d
    ∙ append_assoc (none ++ a) b (c ++ d)
    ∙ append_assoc none a (b ++ (c ++ d))
    ∙ ap (λ t. none ++ (if t then a ++ (b ++ (c ++ d)) else [])) (sym typed)
    ∙ ap (λ k. none ++ findings_of objects k x) is_known

-- nothing is found of an object that isn't Typed
pub found_nothing : (objects : List ObjectValue) (known : Option SpaceHandles) (x : ObjectValue) (found : List Finding) → is_typed x ≡ false → found ≡ found ++ findings_of objects known x
unfolding findings_of
found_nothing objects known x found untyped =
    sym (append-nil found)
    ∙ ap (λ t. found ++ (if t then resolve_findings objects known x ++ (claim_findings objects known x ++ (chain_findings objects known x ++ path_findings objects known x)) else [])) (sym untyped)

-- one object further
pub one_further : {A B : Type 0} (f : A → List B) (all : List A) (place next : ℕ) (x : A) (before after whole : List B) → slice_get all place ≡ Some x → next ≡ suc place
    → before ++ flat_map f (drop place all) ≡ whole → after ≡ before ++ f x → after ++ flat_map f (drop next all) ≡ whole
one_further {A} {B} f all place next x before after whole at further is new =
    ap (λ n. after ++ flat_map f (drop n all)) further
    ∙ ap (λ prefix. prefix ++ flat_map f (drop (suc place) all)) new
    ∙ append_assoc before (f x) (flat_map f (drop (suc place) all))
    ∙ ap (λ rest. before ++ flat_map f rest) (sym (drop_at_place all place x at))
    ∙ is

-- findings begin with that on the table of blocks, and go on with those of all objects
pub findings_begin : (objects : List ObjectValue) (none found : List Finding) → none ≡ [] → found ≡ none ++ control_findings objects
    → found ++ flat_map (findings_of objects (spaces objects)) (drop 0 objects) ≡ findings objects
unfolding findings
findings_begin objects none found empty first = ap (λ prefix. prefix ++ flat_map (findings_of objects (spaces objects)) objects) (first ∙ ap (λ prefix. prefix ++ control_findings objects) empty)

-- after all objects nothing is left to find
pub all_found : {A B : Type 0} (f : A → List B) (all : List A) (place : ℕ) (found whole : List B) → length all ≤ place → found ++ flat_map f (drop place all) ≡ whole → found ≡ whole
all_found {A} {B} f all place found whole after is = sym (append-nil found) ∙ ap (λ rest. found ++ flat_map f rest) (sym (drop_of_length-le all after)) ∙ is

-- a list that is all of another is empty exactly where the other is
pub empty_alike : {V : Type 0} (all : List V) (P : Type 0) (result : Result (List V) NoMemory) → IfOk result (λ found. found ≡ all) → (all ≡ []) ↔ P → IfOk result (λ found. (found ≡ []) ↔ P)
empty_alike {V} all P (Ok found) same law = (λ none. law.0 (sym same ∙ none), λ holds. same ∙ law.1 holds)
empty_alike {V} all P (Err fault) same law = tt
