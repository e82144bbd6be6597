use Rattle.std.proofs.Common.{rules, map}
use Rattle.std.proofs.lemmas.Result.{on_ok_weaker}
use Rattle.dwg_audit.proofs.Judging.{found_by_rules, found_nothing}
use Rattle.dwg_graph.proofs.HeldSlots.{holds_fields}
use Rattle.dwg_graph.specs.Owners.{spaces}
use Rattle.dwg_object.specs.Objects.{value_of}
use Rattle.dwg_audit.proofs.auditing.judge.Goals as goal

pub returns-then-not-is_typed : goal.returns-then-not-is_typed
returns-then-not-is_typed c = found_nothing (map value_of c.args.objects.now) (spaces (map value_of c.args.objects.now)) (value_of c.args.object.now) c.args.found.now (search rules)

pub push_unresolved-requires-clause-held : goal.push_unresolved-requires-clause-held
push_unresolved-requires-clause-held c = holds_fields c.slot_laws.ensures.held c.slot_laws.ensures.owner (value_of c.args.object.now) c.requires.whole (search rules)

pub returns : goal.returns
returns c =
    on_ok_weaker c.push_lost.result
    (λ last. found_by_rules (map value_of c.args.objects.now) c.args.known.now (value_of c.args.object.now)
    c.args.found.now c.push_unresolved.new.found c.push_unclaimed.new.found c.push_unchained.new.found c.push_lost.new.found (search rules) (search rules) (search rules) (search rules)
    last c.requires.known)
    c.push_lost.ensures
