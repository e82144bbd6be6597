-- What the tests of an audit say of chains and paths, in a drawing whose handles ascend: each passes exactly where what it stands for holds.
use Rattle.std.proofs.Common.{sym, ◌∙◌}
use Rattle.std.proofs.lemmas.Bool.{not_from_false, not-true}
use Rattle.std.proofs.lemmas.Bool.Decides.{Decides-eqb}
use Rattle.std.specs.Prelude.{◌==◌, ◌↔◌, List, Option, Some, None, IsTrue, Contains}
use Rattle.std.specs.List.{list_any}
use Rattle.dwg_audit.specs.Findings.{is_chained}
use Rattle.dwg_graph.specs.declared.owner.SpaceHandles.{SpaceHandles}
use Rattle.dwg_graph.specs.Graph.{is_member, owner_step, next_step, root_at, member_at, EndHandles, ends_of, HasOwnerPath, HasChainBetween, HasMemberChain}
use Rattle.dwg_graph.specs.Owners.{spaces}
use Rattle.dwg_graph.specs.Places.{Ascend, handles_of}
use Rattle.dwg_graph.proofs.ListLemmas.{contains_map}
use Rattle.dwg_graph.proofs.Tests.{members_among, none_of_any, any_of_none, owners_closed}
use Rattle.dwg_object.specs.Objects.{ObjectValue, handle_of}
use Rattle.dwg_chains.specs.ChainTests.{AreChainTests}
use Rattle.dwg_chains.specs.Ways.{has_path}
use Rattle.dwg_chains.proofs.ChainLaws.{chain_decided}
use Rattle.dwg_chains.proofs.PathLaws.{path_decided}

-- what the tests of a chain say of handles
chain_tests : (objects : List ObjectValue) (known : Option SpaceHandles) (header : ObjectValue) (ends : EndHandles)
    → AreChainTests ◌==◌ (handles_of objects) (member_at objects known header) (λ handle. handle == ends.first) (λ handle. handle == ends.last)
chain_tests objects known header ends = record {
  apart = λ x y here there. Decides-eqb x y;
  among = λ x is. members_among objects known header x is;
  one_first = λ x y here there is also. (Decides-eqb x ends.first).0 is ∙ sym ((Decides-eqb y ends.first).0 also);
  one_last = λ x y here there is also. (Decides-eqb x ends.last).0 is ∙ sym ((Decides-eqb y ends.last).0 also);
}

-- the test of a chain between such ends
chained_between : (objects : List ObjectValue) (header : ObjectValue) (ends : Option EndHandles) → Ascend (handles_of objects) → IsTrue (is_chained objects (spaces objects) header ends) ↔ HasChainBetween objects header ends
unfolding is_chained
chained_between objects header None ascend = (
  λ is handle. none_of_any objects (spaces objects) header handle (not-true (list_any (is_member (spaces objects) header) objects) is),
  λ none. not_from_false (list_any (is_member (spaces objects) header) objects) (any_of_none objects (spaces objects) header ascend none),
)
chained_between objects header (Some ends) ascend =
    chain_decided ◌==◌ (handles_of objects) (next_step objects) (member_at objects (spaces objects) header) (λ handle. handle == ends.first) (λ handle. handle == ends.last)
    (chain_tests objects (spaces objects) header ends)

-- the test of a chain says whether the members of a block stand in one
pub chained_decided : (objects : List ObjectValue) (header : ObjectValue) → Ascend (handles_of objects) → IsTrue (is_chained objects (spaces objects) header (ends_of header)) ↔ HasMemberChain objects header
chained_decided objects header ascend = chained_between objects header (ends_of header) ascend

-- the test of a path says whether the owners of an object lead to a root
pub owner_path_decided : (objects : List ObjectValue) (x : ObjectValue) → Contains objects x
    → IsTrue (has_path (handles_of objects) (owner_step objects (spaces objects)) (root_at objects (spaces objects)) (handle_of x)) ↔ HasOwnerPath objects x
owner_path_decided objects x inside =
    path_decided (handles_of objects) (owner_step objects (spaces objects)) (root_at objects (spaces objects)) (handle_of x) (owners_closed objects (spaces objects)) (contains_map handle_of objects x inside)
