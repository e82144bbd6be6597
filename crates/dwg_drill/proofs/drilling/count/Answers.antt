use Rattle.std.proofs.Common.{ap, ◌∙◌, List, arith}
use Rattle.std.specs.Prelude.{map}
use Rattle.dwg_base.proofs.ByteLists.{are_bytes}
use Rattle.dwg_file.specs.Contents.{Contents, contents_of}
use Rattle.dwg_file.specs.DrawingAt.{drawing_at}
use Rattle.dwg_object.specs.declared.object.Object.{Object}
use Rattle.dwg_object.specs.Objects.{value_of}
use Rattle.dwg_drill.proofs.Reading.{objects_counted, findings_counted}
use Rattle.dwg_drill.proofs.drilling.count.Goals as goal

pub returns-clause-objects : goal.returns-clause-objects
returns-clause-objects c =
    let bytes = c.args.file.now in
    let are = are_bytes bytes (λ i. omega (arith, c.type_inv.file i)) in
    let read = c.drawing_laws.ensures.one bytes (contents_of c.in-Ok.drawing) (drawing_at bytes) are c.in-Ok.ensures.spelled (c.drawing_laws.ensures.spelled bytes are c.in-Ok.ensures.holds) in
    let same = ap (λ (objects : List Object). map value_of objects) c.as_slice.ensures ∙ ap (λ (drawing : Contents). drawing.objects) c.parts.ensures.parts in
    objects_counted c.as_slice.result.now (contents_of c.in-Ok.drawing) (drawing_at bytes) same read

pub returns-clause-findings : goal.returns-clause-findings
returns-clause-findings c =
    let bytes = c.args.file.now in
    let are = are_bytes bytes (λ i. omega (arith, c.type_inv.file i)) in
    let read = c.drawing_laws.ensures.one bytes (contents_of c.in-Ok.drawing) (drawing_at bytes) are c.in-Ok.ensures.spelled (c.drawing_laws.ensures.spelled bytes are c.in-Ok.ensures.holds) in
    findings_counted c.as_slice-2.result.now c.in_ok-found.found (contents_of c.in-Ok.drawing) (drawing_at bytes) c.as_slice-2.ensures c.in_ok-found.ensures.findings read
