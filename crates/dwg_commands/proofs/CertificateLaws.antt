-- What `certify` and `accept` answer, said of the drawing that the input spells and the certificate that it begins with.
use Rattle.std.proofs.Common.{◌≡◌, refl, sym, ap, ◌∙◌, subst, ℕ, ◌≤◌, List, [], ◌∷◌, ◌++◌, length, length-append, codes, Option, Some, None, true, false, arith}
use Rattle.std.specs.Prelude.{Bool, ◌↔◌, IsTrue}
use Rattle.dwg_audit.specs.Auditable.{ValidIsAuditable}
use Rattle.dwg_base.specs.Bytes.{AreBytes}
use Rattle.dwg_base.specs.Devices.{MOST_BYTES}
use Rattle.dwg_base.specs.Refusals.{first_fault}
use Rattle.dwg_base.specs.Refusal.{Refusal}
use Rattle.dwg_base.proofs.ByteLists.{joined_are_bytes}
use Rattle.dwg_cert.specs.AcceptTests.{is_accepted}
use Rattle.dwg_cert.specs.Accepts.{Accepts}
use Rattle.dwg_cert.specs.CertificateLaws.{LinesAreExact, CertificateIsRead, FormIsBytes}
use Rattle.dwg_cert.specs.CertificateLines.{CERTIFICATE_LINES, after_certificate}
use Rattle.dwg_cert.specs.Certified.{certificate_of}
use Rattle.dwg_cert.specs.WrittenForm.{BeginsWithCertificate, certificate_bytes}
use Rattle.dwg_cert.specs.declared.entry.Entry.{Entry}
use Rattle.dwg_file.specs.Contents.{Contents}
use Rattle.dwg_file.specs.DrawingAt.{drawing_at}
use Rattle.dwg_file.specs.FileLines.{ALL_LINES}
use Rattle.dwg_file.specs.Spelled.{Spelled}
use Rattle.dwg_file.specs.Valid.{IsValid}
use Rattle.dwg_graph.specs.Sound.{IsSound}
use Rattle.dwg_messages.specs.Acceptance.{accept_yes, accept_no}
use Rattle.dwg_commands.specs.declared.outcome.Outcome.{Outcome}
use Rattle.dwg_commands.specs.declared.status.Status.TheVariants.{Done, Found}
use Rattle.dwg_commands.specs.declared.words.Command.TheVariants.{Certify, Accept}
use Rattle.dwg_commands.specs.CertifiedInput.{cert_in, drawing_bytes}
use Rattle.dwg_commands.specs.Commands.{READERS, lines_of, row_of}
use Rattle.dwg_commands.specs.Answered.{acceptance, accepted, certified}
use Rattle.dwg_commands.specs.Outcome.{outcome_within}
use Rattle.dwg_commands.specs.OutcomeLaws.{IsInput, said, RefusesBy, ReportsAccepted, NoneIsCertified, SoundIsCertified, UnsoundIsNoted, NoCertificateIsRefused, NoDrawingAfterIsRefused, AcceptReportsAccepted, CertifiedIsAccepted}
use Rattle.dwg_commands.specs.Words.{command_of, reading_of}
use Rattle.dwg_commands.proofs.CertificateOutcomes.{AcceptanceLaws, accepted_where_sound, refused_where_unsound, certified_some, certified_none, read_is_in}
use Rattle.dwg_commands.proofs.Faults.{refused_first, tried_of_drawing}
use Rattle.dwg_commands.proofs.OutcomeLaws.{DrawingLaws, of_input, passed, refused, first_failing, read_is}
use Rattle.dwg_commands.proofs.OwnCertificate.{own_is_certificate, own_has_handles}

-- what is known of certificates as they are written
pub record FormLaws : Type 0 where
  pub exact : LinesAreExact
  pub read : CertificateIsRead
  pub bytes : FormIsBytes

-- each of these words names its command
pub certify_said : (bytes : List ℕ) → IsInput bytes → said (codes "certify") bytes ≡ outcome_within Certify bytes
unfolding command_of reading_of READERS row_of
certify_said bytes input = of_input Certify bytes input refl

pub accept_said : (bytes : List ℕ) → IsInput bytes → said (codes "accept") bytes ≡ outcome_within Accept bytes
unfolding command_of reading_of READERS row_of
accept_said bytes input = of_input Accept bytes input refl

-- `certify` refuses an input that spells no drawing
pub none_is_certified : DrawingLaws → NoneIsCertified
unfolding row_of
none_is_certified laws bytes input none =
    let fails = first_failing laws bytes input none in
    record { refusal = fails.0; first = fails.1; answers = certify_said bytes input ∙ refused Certify bytes fails.0 fails.1 }

-- of the drawing that an input spells it answers this
certify_is : DrawingLaws → (drawing : Contents) (bytes : List ℕ) → IsInput bytes → Spelled drawing bytes → said (codes "certify") bytes ≡ certified drawing
unfolding row_of
certify_is laws drawing bytes input spelled =
    certify_said bytes input ∙ passed Certify bytes (laws.passes bytes drawing input.are spelled) ∙ ap certified (read_is laws drawing bytes input.are spelled)

-- so it writes the certificate of a sound drawing, and notes of another that it isn't sound
pub sound_is_certified : DrawingLaws → ValidIsAuditable → AcceptanceLaws → SoundIsCertified
sound_is_certified laws auditable accepting drawing bytes input spelled sound =
    let can = auditable drawing (laws.valid bytes drawing input.are input.within spelled) in
    certify_is laws drawing bytes input spelled
    ∙ sym (certified_some drawing (certificate_of drawing.objects) refl (sym (accepted_where_sound accepting drawing.objects can.ascending sound)))

pub unsound_is_noted : DrawingLaws → ValidIsAuditable → AcceptanceLaws → UnsoundIsNoted
unsound_is_noted laws auditable accepting drawing bytes input spelled unsound =
    let can = auditable drawing (laws.valid bytes drawing input.are input.within spelled) in
    certify_is laws drawing bytes input spelled ∙ sym (certified_none drawing (sym (refused_where_unsound accepting drawing.objects can.ascending unsound)))

-- `accept` refuses an input that begins with no certificate
pub no_certificate_is_refused : FormLaws → NoCertificateIsRefused
no_certificate_is_refused forms bytes input none = of_first (first_fault CERTIFICATE_LINES bytes) refl
  where
    of_first : (first : Option Refusal) → first_fault CERTIFICATE_LINES bytes ≡ first → RefusesBy CERTIFICATE_LINES bytes (said (codes "accept") bytes)
    of_first (Some refusal) is = record {
      refusal = refusal;
      first = is;
      answers = accept_said bytes input ∙ refused Accept bytes refusal (refused_first bytes refusal is);
    }
    of_first None is = let has = (forms.exact bytes input.are).0 is in absurd (none has.0 has.1 has.2)

-- bytes after others are bytes
are_after : (prefix rest : List ℕ) → AreBytes (prefix ++ rest) → AreBytes rest
are_after [] rest are = are
are_after (byte ∷ prefix) rest are = are_after prefix rest are.1

-- what stands after the certificate of an input is one too
pub input_after : (bytes : List ℕ) (cert : List Entry) (rest : List ℕ) → IsInput bytes → BeginsWithCertificate bytes cert rest → IsInput rest
input_after bytes cert rest input begins = record {
  are = are_after (certificate_bytes cert) rest (subst AreBytes begins.whole input.are);
  within = omega (arith, input.within, ap length begins.whole, length-append (certificate_bytes cert) rest);
}

-- what is known of an input that begins with a certificate
record IsBegun (bytes : List ℕ) (cert : List Entry) (rest : List ℕ) : Type 0 where
  holds : first_fault CERTIFICATE_LINES bytes ≡ None
  is : cert_in bytes ≡ cert
  after : drawing_bytes bytes ≡ rest

begun : FormLaws → (bytes : List ℕ) (cert : List Entry) (rest : List ℕ) → BeginsWithCertificate bytes cert rest → IsBegun bytes cert rest
unfolding drawing_bytes
begun forms bytes cert rest begins =
    let read = forms.read bytes cert rest begins in
    let is : cert_in bytes ≡ cert = sym (read_is_in bytes cert read.1) in
    record { holds = read.0; is = is; after = ap (λ (entries : List Entry). after_certificate entries bytes) is ∙ read.2 }

-- the lines on the drawing are tried there
pub tried_there : FormLaws → (bytes : List ℕ) (cert : List Entry) (rest : List ℕ) → BeginsWithCertificate bytes cert rest → first_fault (lines_of Accept) bytes ≡ first_fault ALL_LINES rest
tried_there forms bytes cert rest begins =
    let known = begun forms bytes cert rest begins in
    tried_of_drawing bytes known.holds ∙ ap (λ (those : List ℕ). first_fault ALL_LINES those) known.after

-- `accept` refuses an input with no drawing there
pub no_drawing_after_is_refused : DrawingLaws → FormLaws → NoDrawingAfterIsRefused
no_drawing_after_is_refused laws forms bytes cert rest input begins none =
    let fails = first_failing laws rest (input_after bytes cert rest input begins) none in
    record {
      refusal = fails.0;
      first = fails.1;
      answers = accept_said bytes input ∙ refused Accept bytes fails.0 (tried_there forms bytes cert rest begins ∙ fails.1);
    }

-- of a certificate and a drawing it answers this
accept_is : DrawingLaws → FormLaws → (bytes : List ℕ) (cert : List Entry) (drawing : Contents) (rest : List ℕ) → IsInput bytes → BeginsWithCertificate bytes cert rest → Spelled drawing rest
    → said (codes "accept") bytes ≡ acceptance (is_accepted drawing.objects cert)
unfolding row_of accepted
accept_is laws forms bytes cert drawing rest input begins spelled =
    let there = input_after bytes cert rest input begins in
    let known = begun forms bytes cert rest begins in
    let same : drawing_at (drawing_bytes bytes) ≡ drawing = ap drawing_at known.after ∙ read_is laws drawing rest there.are spelled in
    accept_said bytes input ∙ passed Accept bytes (tried_there forms bytes cert rest begins ∙ laws.passes rest drawing there.are spelled)
    ∙ ap (λ (one : Contents). accepted one (cert_in bytes)) same ∙ ap (accepted drawing) known.is

-- an answer by a test that reports whether a certificate is accepted
reported_by_test : (drawing : Contents) (cert : List Entry) (answer : Outcome) (test : Bool) → IsTrue test ↔ Accepts drawing.objects cert → (Accepts drawing.objects cert → IsSound drawing.objects)
    → answer ≡ acceptance test → ReportsAccepted drawing cert answer
unfolding accept_yes accept_no
reported_by_test drawing cert answer true reported sound is = record {
  accepted = (λ done. reported.0 refl, λ holds. ap (λ (a : Outcome). a.status) is);
  yes = λ holds. is;
  no = λ fails. absurd (fails (reported.0 refl));
  sound = λ done. sound (reported.0 refl);
}
reported_by_test drawing cert answer false reported sound is = record {
  accepted = (λ done. absurd (differ (sym done ∙ ap (λ (a : Outcome). a.status) is)), λ holds. absurd (cc (reported.1 holds)));
  yes = λ holds. absurd (cc (reported.1 holds));
  no = λ fails. is;
  sound = λ done. absurd (differ (sym done ∙ ap (λ (a : Outcome). a.status) is));
}
  where
    differ : Done ≡ Found → ⊥
    differ same = absurd cc

-- so it reports whether the certificate is one of the drawing's objects
pub accept_reports_accepted : DrawingLaws → ValidIsAuditable → FormLaws → AcceptanceLaws → AcceptReportsAccepted
accept_reports_accepted laws auditable forms accepting bytes cert drawing rest input begins spelled =
    let there = input_after bytes cert rest input begins in
    let can = auditable drawing (laws.valid rest drawing there.are there.within spelled) in
    reported_by_test drawing cert (said (codes "accept") bytes) (is_accepted drawing.objects cert) (accepting.reported drawing.objects cert can.ascending)
    (accepting.sound drawing.objects cert can.ascending) (accept_is laws forms bytes cert drawing rest input begins spelled)

-- the written form of the certificate of a sound drawing, and the input that spells the drawing, begin with that certificate
begins_with_own : AcceptanceLaws → ValidIsAuditable → (drawing : Contents) (bytes : List ℕ) → IsValid drawing → IsSound drawing.objects
    → BeginsWithCertificate (certificate_bytes (certificate_of drawing.objects) ++ bytes) (certificate_of drawing.objects) bytes
begins_with_own accepting auditable drawing bytes valid sound =
    let can = auditable drawing valid in
    record {
      certificate = own_is_certificate drawing.objects can.ascending (omega (arith, can.few)) (accepting.accepted drawing.objects can.ascending sound).handles;
      handles = own_has_handles drawing.version drawing.classes drawing.objects valid.objects;
      whole = refl;
    }

-- what `certify` writes is accepted before what it was written of
pub certified_is_accepted : DrawingLaws → ValidIsAuditable → FormLaws → AcceptanceLaws → CertifiedIsAccepted
certified_is_accepted laws auditable forms accepting drawing bytes input spelled sound small =
    let valid = laws.valid bytes drawing input.are input.within spelled in
    let can = auditable drawing valid in
    let cert : List Entry = certificate_of drawing.objects in
    let prints : (said (codes "certify") bytes).output ≡ certificate_bytes cert = ap (λ (a : Outcome). a.output) (sound_is_certified laws auditable accepting drawing bytes input spelled sound) in
    let is : (said (codes "certify") bytes).output ++ bytes ≡ certificate_bytes cert ++ bytes = ap (λ prefix. prefix ++ bytes) prints in
    let both : IsInput (certificate_bytes cert ++ bytes) = record {
      are = joined_are_bytes (certificate_bytes cert) bytes (forms.bytes cert) input.are;
      within = subst (λ (those : List ℕ). length those ≤ MOST_BYTES) is small;
    } in
    let reports = accept_reports_accepted laws auditable forms accepting (certificate_bytes cert ++ bytes) cert drawing bytes both
    (begins_with_own accepting auditable drawing bytes valid sound) spelled in
    ap (said (codes "accept")) is ∙ reports.yes (accepting.accepted drawing.objects can.ascending sound)
