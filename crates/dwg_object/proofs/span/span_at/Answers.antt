use Rattle.std.proofs.Common.{refl, arith}
use Rattle.dwg_object.proofs.SpanReading.{reported_tried, read_unspelled, read_passes, read_lies}
use Rattle.dwg_object.proofs.span.span_at.Goals as goal

pub returns-in_default-clause-tried : goal.returns-in_default-clause-tried
returns-in_default-clause-tried c =
    reported_tried c.args.bytes.now _ _ _ (λ i. omega (arith, c.type_inv.bytes i))
    (read_unspelled _ c.bytes_after.result.now _ _ _ c.new-in_default.ensures (omega arith) c.bytes_after.ensures.rest c.in_default.ensures.reads)

pub returns-then-length-end-clause-tried : goal.returns-then-length-end-clause-tried
returns-then-length-end-clause-tried c =
    reported_tried c.args.bytes.now _ _ _ (λ i. omega (arith, c.type_inv.bytes i))
    (read_passes _ c.bytes_after.result.now _ _ c.in-Some.long c.in-Some.wide _ c.new-then-length-end.ensures (omega arith) c.bytes_after.ensures.rest c.in-Some.ensures.reads (omega arith))

pub returns-clause-found : goal.returns-clause-found
returns-clause-found c = read_lies _ c.bytes_after.result.now _ c.in-Some.long c.in-Some.wide (omega arith) c.bytes_after.ensures.rest c.in-Some.ensures.reads (omega arith)

pub returns-clause-tried : goal.returns-clause-tried
returns-clause-tried c =
    reported_tried c.args.bytes.now _ _ _ (λ i. omega (arith, c.type_inv.bytes i))
    (read_lies _ c.bytes_after.result.now _ c.in-Some.long c.in-Some.wide (omega arith) c.bytes_after.ensures.rest c.in-Some.ensures.reads (omega arith), refl)
