use Rattle.dwg_commands.proofs.CarryLaws.{CarryingLaws, carry_notes_none, carry_writes_preview, none_is_carried}
use Rattle.dwg_commands.proofs.CertificateLaws.{FormLaws, none_is_certified, sound_is_certified, unsound_is_noted, no_certificate_is_refused, no_drawing_after_is_refused, accept_reports_accepted, certified_is_accepted}
use Rattle.dwg_commands.proofs.CertificateOutcomes.{AcceptanceLaws}
use Rattle.dwg_commands.proofs.ItemLaws.{no_items_are_reported, appdata_reports_items}
use Rattle.dwg_commands.proofs.CommandsRead.{readers_are_named}
use Rattle.dwg_commands.proofs.MakeLaws.{make_writes_drawing}
use Rattle.dwg_commands.proofs.OutcomeLaws.{DrawingLaws, FileLaws, no_drawing_is_refused, show_prints_drawing, rewrite_writes_drawing, rewrite_reports_size, audit_reports_sound, recover_rewrites_drawing, recover_writes_frames}
use Rattle.dwg_commands.proofs.SectionLemmas.{PartLaws, sections_prints_header, no_header_is_refused, classes_prints_classes, no_classes_are_refused}
use Rattle.dwg_commands.proofs.ShortDamage.{short_damage_is_reported}
use Rattle.dwg_commands.proofs.laws.outcome_laws.Goals as goal

pub returns : goal.returns
returns c =
    let laws : DrawingLaws = record {
      one = λ bytes one other are spelled also. c.drawing_laws.ensures.one bytes one other are spelled also;
      passes = λ bytes drawing are spelled. c.drawing_laws.ensures.passes bytes drawing are spelled;
      spelled = λ bytes are holds. c.drawing_laws.ensures.spelled bytes are holds;
      valid = λ bytes drawing are within spelled. c.drawing_laws.ensures.valid bytes drawing are within spelled;
    } in
    let files : FileLaws = record { spells = c.canonical_laws.ensures.spells; counted = c.canonical_laws.ensures.counted; no_other = c.canonical_laws.ensures.no_other } in
    let carrying : CarryingLaws = record {
      spells = c.carrying_laws.ensures.spells;
      counted = c.carrying_laws.ensures.counted;
      no_other = c.carrying_laws.ensures.no_other;
      preview = c.carrying_laws.ensures.preview;
      once = c.carrying_laws.ensures.once;
      found = c.preview_laws.ensures.found;
      header = c.file_header_laws.ensures.complete;
    } in
    let parts : PartLaws = record {
      begins = c.file_header_laws.ensures.sound;
      header = c.file_header_laws.ensures.complete;
      located = c.file_header_laws.ensures.located;
      stands = c.framed_laws.ensures.sound;
      section = c.framed_laws.ensures.complete;
      classes = λ place content classes are. (c.classes_laws.ensures.read place content classes).1 are;
      cut = λ place content classes tried. (c.classes_laws.ensures.read place content classes).0 tried;
    } in
    let forms : FormLaws = record { exact = c.certificate_laws.ensures.exact; read = c.certificate_laws.ensures.complete; bytes = c.certificate_laws.ensures.bytes } in
    let acceptance : AcceptanceLaws = record { sound = c.acceptance_laws.ensures.sound; accepted = c.acceptance_laws.ensures.accepted; reported = c.acceptance_laws.ensures.reported } in
    let auditable = c.auditable_laws.ensures.auditable in
    record {
      named = readers_are_named;
      sections = sections_prints_header parts;
      no_header = no_header_is_refused parts;
      classes = classes_prints_classes parts;
      no_classes = no_classes_are_refused parts;
      refused = no_drawing_is_refused laws;
      show = show_prints_drawing laws;
      rewrite = rewrite_writes_drawing laws files;
      large = rewrite_reports_size laws;
      no_carried = none_is_carried laws;
      carry = carry_writes_preview laws carrying;
      no_preview = carry_notes_none laws carrying;
      audit = audit_reports_sound laws c.auditable_laws.ensures.auditable c.finding_laws.ensures.sound;
      recover = recover_rewrites_drawing laws c.answer_laws.ensures.spelled;
      damaged = recover_writes_frames laws files c.answer_laws.ensures.valid c.answer_laws.ensures.damaged;
      short =
          short_damage_is_reported laws forms c.carrying_laws.ensures.counted c.short_damage_laws.ensures.refused c.short_damage_laws.ensures.elsewhere
          c.short_damage_laws-2.ensures.short;
      make = make_writes_drawing laws files (record { valid = c.make_laws.ensures.valid; within = c.make_laws.ensures.within });
      no_items = no_items_are_reported laws;
      items = appdata_reports_items laws c.app_finding_laws.ensures.none;
      no_certified = none_is_certified laws;
      certify = sound_is_certified laws auditable acceptance;
      unsound = unsound_is_noted laws auditable acceptance;
      no_certificate = no_certificate_is_refused forms;
      no_drawing_after = no_drawing_after_is_refused laws forms;
      accept = accept_reports_accepted laws auditable forms acceptance;
      certified = certified_is_accepted laws auditable forms acceptance;
    }
