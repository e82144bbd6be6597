use Rattle.std.proofs.Common.{◌≡◌, ap, ◌∙◌, subst, List, arith}
use Rattle.std.specs.Prelude.{map, IfOk, IfSome}
use Rattle.std.proofs.lemmas.List.{length-map}
use Rattle.dwg_cert.specs.Certified.{certificate_of}
use Rattle.dwg_file.specs.Contents.{Contents, contents_of}
use Rattle.dwg_object.specs.declared.object.Object.{Object}
use Rattle.dwg_object.specs.Objects.{ObjectValue, value_of}
use Rattle.dwg_commands.proofs.CertificateOutcomes.{AcceptanceLaws, can_be_certified, reported_by_result}
use Rattle.dwg_commands.proofs.certificates.certificate_of_drawing.Goals as goal

pub certify-requires : goal.certify-requires
certify-requires c =
    let same = ap (λ (objects : List Object). map value_of objects) c.as_slice.ensures ∙ ap (λ (drawing : Contents). drawing.objects) c.parts-parts.ensures.parts in
    let can = can_be_certified c.auditable_laws.ensures.auditable (contents_of c.args.drawing.now) (map value_of c.as_slice.result.now) same c.parts-parts.ensures.valid in
    record { ascending = can.ascending; whole = can.whole; few = omega (arith, can.few, length-map c.as_slice.result.now value_of) }

pub returns-clause-certified : goal.returns-clause-certified
returns-clause-certified c =
    let same = ap (λ (objects : List Object). map value_of objects) c.as_slice.ensures ∙ ap (λ (drawing : Contents). drawing.objects) c.parts-parts.ensures.parts in
    subst (λ (those : List ObjectValue). IfOk c.certify.result (λ found. IfSome found (λ cert. cert ≡ certificate_of those))) same c.certify.ensures.certified

pub returns-clause-reported : goal.returns-clause-reported
returns-clause-reported c =
    let same = ap (λ (objects : List Object). map value_of objects) c.as_slice.ensures ∙ ap (λ (drawing : Contents). drawing.objects) c.parts-parts.ensures.parts in
    let laws : AcceptanceLaws = record { sound = c.acceptance_laws.ensures.sound; accepted = c.acceptance_laws.ensures.accepted; reported = c.acceptance_laws.ensures.reported } in
    let can = can_be_certified c.auditable_laws.ensures.auditable (contents_of c.args.drawing.now) (map value_of c.as_slice.result.now) same c.parts-parts.ensures.valid in
    reported_by_result laws (map value_of c.as_slice.result.now) (contents_of c.args.drawing.now).objects c.certify.result same can.ascending c.certify.ensures.sound
