use Rattle.std.proofs.Common.{◌≡◌, sym, ◌∙◌, ap, subst}
use Rattle.std.specs.Io.KnownBytes.{Appends}
use Rattle.std.proofs.lemmas.Result.{err_from_is_err_and}
use Rattle.dwg_base.specs.Devices.{AppendsPrefix}
use Rattle.dwg_objmap.specs.Writing.{Ascend, map_bytes}
use Rattle.dwg_file.specs.Canonical.{canonical_with, carried_by, map_with, others_bytes}
use Rattle.dwg_file.specs.Contents.{contents_of}
use Rattle.dwg_file.specs.Plans.{Planned, before_map}
use Rattle.dwg_file.proofs.CanonicalLaws.{canonical_ascends}
use Rattle.dwg_file.proofs.PlanFacts.{plan_with_more}
use Rattle.dwg_file.proofs.PlanWriting.{canonical_thirds, first_short, second_short, three_sent}
use Rattle.dwg_file.proofs.file_writer.Plan.write_to.Goals as goal

pub returns-in_err-send_prefix-clause-bytes : goal.returns-in_err-send_prefix-clause-bytes
returns-in_err-send_prefix-clause-bytes g c =
    let p = err_from_is_err_and c.from_residual.result c.from_residual.ensures.1 in
    rw p.1 (
    let drawing = contents_of c.parts-parts.result.now in
    let carried = carried_by c.self.inside.carried in
    let prefix = before_map carried drawing in
    let whole = canonical_thirds carried drawing ∙ ap (canonical_with carried) c.parts-parts.ensures.parts ∙ ap (λ (plan : Planned). canonical_with plan.carried plan.drawing) c.self.view_is in
    first_short _ _ prefix (map_with carried drawing) (others_bytes drawing.others) _ whole c.in_err-send_prefix.ensures.bytes
    )

pub send_map-requires : goal.send_map-requires
send_map-requires g c = subst (Ascend 0) (sym (c.as_slice.ensures ∙ c.self.invariant.are_placed)) (canonical_ascends (carried_by c.self.inside.carried) (contents_of c.self.inside.drawing.now) c.self.invariant.ready.is c.self.invariant.ready.valid)

pub invariant_of-self-in_err-send_map : goal.invariant_of-self-in_err-send_map
invariant_of-self-in_err-send_map g c = plan_with_more _ _ _ _ _ _ _ c.in_ok-send_prefix.ensures.room c.self.invariant

pub returns-in_err-send_map-clause-bytes : goal.returns-in_err-send_map-clause-bytes
returns-in_err-send_map-clause-bytes g c =
    let p = err_from_is_err_and c.from_residual-in_err-send_map.result c.from_residual-in_err-send_map.ensures.1 in
    rw p.1 (
    let drawing = contents_of c.parts-parts.result.now in
    let carried = carried_by c.self.inside.carried in
    let prefix = before_map carried drawing in
    let whole = canonical_thirds carried drawing ∙ ap (canonical_with carried) c.parts-parts.ensures.parts ∙ ap (λ (plan : Planned). canonical_with plan.carried plan.drawing) c.self.view_is in
    let pairs : map_bytes c.as_slice.result.now ≡ map_with carried drawing = ap map_bytes (c.as_slice.ensures ∙ c.self.invariant.are_placed) ∙ ap (map_with carried) (sym c.parts-parts.ensures.parts) in
    second_short _ _ _ prefix (map_with carried drawing) (others_bytes drawing.others) _ whole c.in_ok-send_prefix.ensures.bytes
    (subst (λ bytes. AppendsPrefix (g.W.Sink.taken c.send_prefix.new.sink) (g.W.Sink.taken c.send_map.new.sink) bytes) pairs c.in_err-send_map.ensures.bytes)
    )

pub invariant_of-self-2 : goal.invariant_of-self-2
invariant_of-self-2 g c = plan_with_more _ _ _ _ _ _ _ c.in_ok-send_prefix.ensures.room c.self.invariant

pub returns-clause-bytes : goal.returns-clause-bytes
returns-clause-bytes g c =
    let drawing = contents_of c.parts-parts.result.now in
    let carried = carried_by c.self.inside.carried in
    let prefix = before_map carried drawing in
    let whole = canonical_thirds carried drawing ∙ ap (canonical_with carried) c.parts-parts.ensures.parts ∙ ap (λ (plan : Planned). canonical_with plan.carried plan.drawing) c.self.view_is in
    let pairs : map_bytes c.as_slice.result.now ≡ map_with carried drawing = ap map_bytes (c.as_slice.ensures ∙ c.self.invariant.are_placed) ∙ ap (map_with carried) (sym c.parts-parts.ensures.parts) in
    three_sent _ _ _ _ prefix (map_with carried drawing) (others_bytes drawing.others) _ c.send_back.result whole c.in_ok-send_prefix.ensures.bytes
    (subst (λ bytes. Appends (g.W.Sink.taken c.send_prefix.new.sink) (g.W.Sink.taken c.send_map.new.sink) bytes) pairs c.in_ok-send_map.ensures.bytes) c.send_back.ensures.bytes
