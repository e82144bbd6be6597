use Rattle.std.proofs.Common.{refl, sym, ◌∙◌, arith, rules}
use Rattle.std.specs.Prelude.{Ok}
use Rattle.std.proofs.lemmas.Result.{err_from_is_err_and}
use Rattle.dwg_file.proofs.PairReading.{answered_at_pair, answered_by, found_at_pair, span_refused, overlap_refused, fault_passed_on, handle_refused, frame_found, frame_apart}
use Rattle.dwg_file.proofs.frames.frame_of_pair.Goals as goal

pub returns-in_err-span-clause-tried : goal.returns-in_err-span-clause-tried
returns-in_err-span-clause-tried c =
    let p = err_from_is_err_and c.from_residual.result c.from_residual.ensures.1 in
    λ earlier taken. answered_by _ _ _ _ _ p.0 p.1 (rw p.2 (span_refused c.args.bytes.now earlier c.args.index c.args.pair.now _ (sym c.in_err-span.ensures.tried)))

pub returns-then-shares-clause-tried : goal.returns-then-shares-clause-tried
returns-then-shares-clause-tried c = λ earlier taken.
    overlap_refused c.args.hints.now c.args.bytes.now earlier c.args.index c.args.pair.now c.in_ok-span.span c.refused.result (sym c.in_ok-span.ensures.tried)
    (taken c.in_ok-span.span.from c.in_ok-span.span.end ∙ sym c.shares.ensures ∙ c.if-shares.true) c.refused.ensures

pub returns-in_err-found-clause-tried : goal.returns-in_err-found-clause-tried
returns-in_err-found-clause-tried c =
    let p = err_from_is_err_and c.from_residual-in_err-found.result c.from_residual-in_err-found.ensures.1 in
    λ earlier taken. answered_by _ _ _ _ _ p.0 p.1
    (fault_passed_on c.args.hints.now c.args.bytes.now earlier c.args.index c.args.pair.now c.in_ok-span.span _ _ p.0 p.2 (sym c.in_ok-span.ensures.tried)
    (taken c.in_ok-span.span.from c.in_ok-span.span.end ∙ sym c.shares.ensures ∙ c.if-shares.false) c.of_input.ensures c.in_ok-span.ensures.place c.in_err-found.ensures.tried)

pub returns-then-not-has_handle-clause-tried : goal.returns-then-not-has_handle-clause-tried
returns-then-not-has_handle-clause-tried c = λ earlier taken.
    handle_refused c.args.hints.now c.args.bytes.now earlier c.args.index _ c.args.pair.now c.in_ok-span.span c.in_ok-found.found c.refused-then-not-has_handle.result
    (sym c.in_ok-span.ensures.tried) (taken c.in_ok-span.span.from c.in_ok-span.span.end ∙ sym c.shares.ensures ∙ c.if-shares.false)
    (answered_at_pair _ c.args.bytes.now _ _ _ (Ok c.in_ok-found.found) c.of_input.ensures c.in_ok-span.ensures.place c.in_ok-found.ensures.tried) refl
    (λ same. search rules) c.refused-then-not-has_handle.ensures

pub returns-clause-tried : goal.returns-clause-tried
returns-clause-tried c = λ earlier taken.
    frame_found c.args.hints.now c.args.bytes.now earlier c.args.index _ c.args.pair.now c.in_ok-span.span c.in_ok-found.found (λ i. omega (arith, c.type_inv.bytes i))
    (sym c.in_ok-span.ensures.tried) c.in_ok-span.ensures.found c.in_ok-span.ensures.place (taken c.in_ok-span.span.from c.in_ok-span.span.end ∙ sym c.shares.ensures ∙ c.if-shares.false)
    (answered_at_pair _ c.args.bytes.now _ _ _ (Ok c.in_ok-found.found) c.of_input.ensures c.in_ok-span.ensures.place c.in_ok-found.ensures.tried)
    (found_at_pair _ c.args.bytes.now _ _ _ c.in_ok-found.found c.of_input.ensures c.in_ok-span.ensures.place c.in_ok-found.ensures.found) refl (search rules)

pub returns-clause-apart : goal.returns-clause-apart
returns-clause-apart c =
    frame_apart c.args.bytes.now c.args.taken.now c.args.index c.args.pair.now.place c.in_ok-span.span c.in_ok-found.found (λ i. omega (arith, c.type_inv.bytes i)) c.in_ok-span.ensures.found
    c.in_ok-span.ensures.place (answered_at_pair _ c.args.bytes.now _ _ _ (Ok c.in_ok-found.found) c.of_input.ensures c.in_ok-span.ensures.place c.in_ok-found.ensures.tried) (sym c.shares.ensures ∙ c.if-shares.false)
