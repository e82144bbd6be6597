use Rattle.std.proofs.Common.{ap, ◌∙◌, List, arith}
use Rattle.std.specs.Prelude.{map}
use Rattle.std.proofs.lemmas.List.{length-map}
use Rattle.dwg_file.specs.Contents.{Contents, contents_of}
use Rattle.dwg_object.specs.declared.object.Object.{Object}
use Rattle.dwg_object.specs.Objects.{value_of}
use Rattle.dwg_audit.proofs.Auditable.{are_auditable}
use Rattle.dwg_audit.proofs.drawing_audit.audit_counted.Goals as goal

pub audit-requires : goal.audit-requires
audit-requires g c =
    let same = ap (λ (objects : List Object). map value_of objects) c.as_slice.ensures ∙ ap (λ (drawing : Contents). drawing.objects) c.parts-parts.ensures.parts in
    let can = are_auditable c.slot_laws.ensures.bound (contents_of c.args.drawing.now) (map value_of c.as_slice.result.now) same c.parts-parts.ensures.valid in
    record { ascending = can.ascending; whole = can.whole; few = omega (arith, can.few, length-map c.as_slice.result.now value_of) }
