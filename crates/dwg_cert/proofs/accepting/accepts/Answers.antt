use Rattle.std.proofs.Common.{◌≡◌, subst, map, List}
use Rattle.std.specs.Prelude.{IfOk}
use Rattle.dwg_cert.proofs.Checking.{reported_accepts, reported_sound}
use Rattle.dwg_cert.specs.AcceptTests.{is_accepted}
use Rattle.dwg_cert.specs.declared.entry.Entry.{Entry}
use Rattle.dwg_object.specs.Objects.{value_of}
use Rattle.dwg_cert.proofs.accepting.accepts.Goals as goal

pub returns-clause-reported : goal.returns-clause-reported
returns-clause-reported c =
    subst (λ (entries : List Entry). IfOk c.tested.result (λ is. is ≡ is_accepted (map value_of c.args.objects.now) entries)) c.entries.ensures.list c.tested.ensures

pub returns-clause-accepted : goal.returns-clause-accepted
returns-clause-accepted c =
    let objects = map value_of c.args.objects.now in
    reported_accepts objects c.args.cert.now c.tested.result c.acceptance_laws.ensures.reported c.requires.ascending
    (subst (λ (entries : List Entry). IfOk c.tested.result (λ is. is ≡ is_accepted objects entries)) c.entries.ensures.list c.tested.ensures)

pub returns-clause-sound : goal.returns-clause-sound
returns-clause-sound c =
    let objects = map value_of c.args.objects.now in
    reported_sound objects c.args.cert.now c.tested.result c.acceptance_laws.ensures.sound c.requires.ascending
    (reported_accepts objects c.args.cert.now c.tested.result c.acceptance_laws.ensures.reported c.requires.ascending
    (subst (λ (entries : List Entry). IfOk c.tested.result (λ is. is ≡ is_accepted objects entries)) c.entries.ensures.list c.tested.ensures))
