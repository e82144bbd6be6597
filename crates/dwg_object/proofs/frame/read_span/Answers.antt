use Rattle.std.proofs.Common.{sym, refl, ◌∙◌, subst, arith, ◌<◌, ◌^◌, List, ℕ, length}
use Rattle.dwg_base.proofs.ByteLists.{are_bytes}
use Rattle.dwg_object.proofs.FrameLaws.{check_refused, framed_at}
use Rattle.dwg_object.proofs.FrameReading.{span_small, reported_frame, head_refused, found_frame, found_tried}
use Rattle.dwg_object.proofs.frame.read_span.Goals as goal

pub head_of-requires : goal.head_of-requires
head_of-requires c = subst (λ (b : List ℕ). length b < 2 ^ 60) (sym c.piece-body.ensures) (span_small c.args.bytes.now c.args.span.now c.requires)

pub read_after_head-requires-clause-small : goal.read_after_head-requires-clause-small
read_after_head-requires-clause-small c = subst (λ (b : List ℕ). length b < 2 ^ 60) (sym c.piece-body.ensures) (span_small c.args.bytes.now c.args.span.now c.requires)

pub returns-in_default-clause-tried : goal.returns-in_default-clause-tried
returns-in_default-clause-tried c =
    let framed = framed_at c.args.bytes.now _ c.args.span.now (are_bytes c.args.bytes.now (λ i. omega (arith, c.type_inv.bytes i))) c.requires refl (sym c.has_frame_word.ensures ∙ c.if-not-has_frame_word.false) in
    reported_frame c.args.version c.args.bytes.now _ _ _ (λ i. omega (arith, c.type_inv.bytes i))
    (head_refused _ _ c.args.span.now c.piece-body.result.now _ framed c.piece-body.ensures c.in_default.ensures.none c.new-in_default.ensures)

pub returns-clause-found : goal.returns-clause-found
returns-clause-found c =
    let framed = framed_at c.args.bytes.now _ c.args.span.now (are_bytes c.args.bytes.now (λ i. omega (arith, c.type_inv.bytes i))) c.requires refl (sym c.has_frame_word.ensures ∙ c.if-not-has_frame_word.false) in
    found_frame c.args.version _ _ c.args.span.now c.piece-body.result.now c.args.hints.now _ framed c.piece-body.ensures c.in_ok-object.ensures.form

pub returns-clause-tried : goal.returns-clause-tried
returns-clause-tried c =
    let framed = framed_at c.args.bytes.now _ c.args.span.now (are_bytes c.args.bytes.now (λ i. omega (arith, c.type_inv.bytes i))) c.requires refl (sym c.has_frame_word.ensures ∙ c.if-not-has_frame_word.false) in
    found_tried c.args.version c.args.bytes.now _ c.args.span.now c.piece-body.result.now c.args.hints.now c.in_ok-object.object (λ i. omega (arith, c.type_inv.bytes i)) framed c.piece-body.ensures c.in_ok-object.ensures.form

pub returns-then-not-has_frame_word-clause-tried : goal.returns-then-not-has_frame_word-clause-tried
returns-then-not-has_frame_word-clause-tried c =
    reported_frame c.args.version c.args.bytes.now _ _ _ (λ i. omega (arith, c.type_inv.bytes i))
    (check_refused c.args.bytes.now _ _ c.args.span.now _ c.requires refl (sym c.has_frame_word.ensures ∙ c.if-not-has_frame_word.true) c.new.ensures)
