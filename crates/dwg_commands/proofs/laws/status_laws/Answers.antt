use Rattle.dwg_commands.proofs.CertificateLaws.{FormLaws}
use Rattle.dwg_commands.proofs.CertificateOutcomes.{AcceptanceLaws}
use Rattle.dwg_commands.proofs.Meanings.{AnswerLaws, accepted_is_audited, certify_ends_as_audit, recover_done_is_spelled, statuses_mean}
use Rattle.dwg_commands.proofs.OutcomeLaws.{DrawingLaws}
use Rattle.dwg_commands.proofs.SectionLemmas.{PartLaws}
use Rattle.dwg_commands.proofs.laws.status_laws.Goals as goal

pub returns : goal.returns
returns c =
    let laws : DrawingLaws = record {
      one = λ bytes one other are spelled also. c.drawing_laws.ensures.one bytes one other are spelled also;
      passes = λ bytes drawing are spelled. c.drawing_laws.ensures.passes bytes drawing are spelled;
      spelled = λ bytes are holds. c.drawing_laws.ensures.spelled bytes are holds;
      valid = λ bytes drawing are within spelled. c.drawing_laws.ensures.valid bytes drawing are within spelled;
    } in
    let parts : PartLaws = record {
      begins = c.file_header_laws.ensures.sound;
      header = c.file_header_laws.ensures.complete;
      located = c.file_header_laws.ensures.located;
      stands = c.framed_laws.ensures.sound;
      section = c.framed_laws.ensures.complete;
      classes = λ place content classes are. (c.classes_laws.ensures.read place content classes).1 are;
      cut = λ place content classes tried. (c.classes_laws.ensures.read place content classes).0 tried;
    } in
    let forms : FormLaws = record { exact = c.certificate_laws.ensures.exact; read = c.certificate_laws.ensures.complete; bytes = c.certificate_laws.ensures.bytes } in
    let acceptance : AcceptanceLaws = record { sound = c.acceptance_laws.ensures.sound; accepted = c.acceptance_laws.ensures.accepted; reported = c.acceptance_laws.ensures.reported } in
    let answers : AnswerLaws = record {
      parts = parts;
      drawings = laws;
      auditable = c.auditable_laws.ensures.auditable;
      acceptance = acceptance;
      forms = forms;
      damaged = c.answer_laws.ensures.damaged;
      rewrite = c.outcome_laws.ensures.rewrite;
      large = c.outcome_laws.ensures.large;
      recover = c.outcome_laws.ensures.recover;
      audit = c.outcome_laws.ensures.audit;
      certify = c.outcome_laws.ensures.certify;
      unsound = c.outcome_laws.ensures.unsound;
      accept = c.outcome_laws.ensures.accept;
      items = c.outcome_laws.ensures.items;
    } in
    record { means = statuses_mean answers; recovered = recover_done_is_spelled answers; alike = certify_ends_as_audit answers; audited = accepted_is_audited answers }
