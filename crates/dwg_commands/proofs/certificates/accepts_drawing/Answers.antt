use Rattle.std.proofs.Common.{◌≡◌, ap, ◌∙◌, subst, List, arith}
use Rattle.std.specs.Prelude.{map, IfOk}
use Rattle.std.proofs.lemmas.List.{length-map}
use Rattle.dwg_cert.specs.AcceptTests.{is_accepted}
use Rattle.dwg_file.specs.Contents.{Contents, contents_of}
use Rattle.dwg_object.specs.declared.object.Object.{Object}
use Rattle.dwg_object.specs.Objects.{ObjectValue, value_of}
use Rattle.dwg_commands.proofs.CertificateOutcomes.{can_be_certified}
use Rattle.dwg_commands.proofs.certificates.accepts_drawing.Goals as goal

pub accepts-requires : goal.accepts-requires
accepts-requires c =
    let same = ap (λ (objects : List Object). map value_of objects) c.as_slice.ensures ∙ ap (λ (drawing : Contents). drawing.objects) c.parts-parts.ensures.parts in
    let can = can_be_certified c.auditable_laws.ensures.auditable (contents_of c.args.drawing.now) (map value_of c.as_slice.result.now) same c.parts-parts.ensures.valid in
    record { ascending = can.ascending; whole = can.whole; few = omega (arith, can.few, length-map c.as_slice.result.now value_of) }

pub returns : goal.returns
returns c =
    let same = ap (λ (objects : List Object). map value_of objects) c.as_slice.ensures ∙ ap (λ (drawing : Contents). drawing.objects) c.parts-parts.ensures.parts in
    subst (λ (those : List ObjectValue). IfOk c.accepts.result (λ is. is ≡ is_accepted those c.args.cert.now)) same c.accepts.ensures.reported
