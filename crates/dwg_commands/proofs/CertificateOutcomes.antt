-- What the commands on certificates pending.
use Rattle.std.proofs.Common.{◌≡◌, refl, sym, ap, ◌∙◌, subst, ℕ, ◌≤◌, ◌%◌, List, [], ◌++◌, length, drop, map, Option, true, false, arith}
use Rattle.std.proofs.lemmas.Bool.{false_from_ne_true}
use Rattle.std.proofs.lemmas.List.{length-map}
use Rattle.std.proofs.lemmas.List.Sorted.{length_permutation}
use Rattle.std.specs.Prelude.{◌↔◌, Bool, Result, Ok, Err, IfOk, IsTrue, is_some, if◌then◌else◌}
use Rattle.std.specs.Result.{result_unwrap_or}
use Rattle.dwg_audit.specs.Auditable.{CanBeAudited, ValidIsAuditable}
use Rattle.dwg_base.specs.Bytes.{AreBytes}
use Rattle.dwg_base.specs.Refusals.{Tried}
use Rattle.dwg_bits.proofs.BitLaws.{bits_same, length_of_bits}
use Rattle.dwg_bits.specs.Bits.{bits}
use Rattle.dwg_bits.specs.Sink.{Extends, Written}
use Rattle.dwg_cert.specs.AcceptTests.{AcceptanceIsDecided, is_accepted}
use Rattle.dwg_cert.specs.CertificateLines.{after_certificate, tried_certificate}
use Rattle.dwg_cert.specs.Certified.{AcceptedIsSound, SoundIsAccepted, certificate_of}
use Rattle.dwg_cert.specs.WrittenForm.{certificate_bytes, size_of}
use Rattle.dwg_cert.specs.declared.entry.Entry.{Entry}
use Rattle.dwg_file.proofs.MapSize.{map_few}
use Rattle.dwg_file.specs.Contents.{Contents}
use Rattle.dwg_file.specs.Spelled.{PairFrame, Spelled}
use Rattle.dwg_file.specs.Valid.{IsValid}
use Rattle.dwg_graph.specs.Places.{Ascend, handles_of}
use Rattle.dwg_graph.specs.Sound.{IsSound}
use Rattle.dwg_object.specs.Objects.{ObjectValue}
use Rattle.dwg_text.specs.Notes.{unsound_note}
use Rattle.dwg_commands.specs.CertifiedInput.{cert_in, drawing_bytes}
use Rattle.dwg_commands.specs.Answered.{certified, noted, printed}
use Rattle.dwg_commands.specs.declared.status.Status.TheVariants.{Found}

-- what is known of acceptance
pub record AcceptanceLaws : Type 0 where
  pub sound : AcceptedIsSound
  pub accepted : SoundIsAccepted
  pub reported : AcceptanceIsDecided

-- a drawing has no more objects than the input that spells it has bytes
pub objects_few : (drawing : Contents) (bytes : List ℕ) → Spelled drawing bytes → length drawing.objects ≤ length bytes
objects_few drawing bytes spelled =
    omega (
      arith,
      length_permutation (map (λ (frame : PairFrame). frame.object) spelled.frames) drawing.objects spelled.objects,
      length-map spelled.frames (λ (frame : PairFrame). frame.object),
      length-map spelled.frames (λ (frame : PairFrame). frame.pair),
      ap length spelled.framed,
      map_few bytes spelled.map_place spelled.pairs spelled.mapped,
    )

-- objects in hand that stand for those of a valid drawing can be audited
pub can_be_certified : ValidIsAuditable → (drawing : Contents) (objects : List ObjectValue) → objects ≡ drawing.objects → IsValid drawing → CanBeAudited objects
can_be_certified auditable drawing objects same is = subst CanBeAudited (sym same) (auditable drawing is)

-- the certificate of sound objects is accepted
pub accepted_where_sound : AcceptanceLaws → (objects : List ObjectValue) → Ascend (handles_of objects) → IsSound objects → is_accepted objects (certificate_of objects) ≡ true
accepted_where_sound laws objects ascend sound = (laws.reported objects (certificate_of objects) ascend).1 (laws.accepted objects ascend sound)

-- and that of others isn't
pub refused_where_unsound : AcceptanceLaws → (objects : List ObjectValue) → Ascend (handles_of objects) → (IsSound objects → ⊥) → is_accepted objects (certificate_of objects) ≡ false
refused_where_unsound laws objects ascend unsound =
    false_from_ne_true (is_accepted objects (certificate_of objects))
    (λ accepted. unsound (laws.sound objects (certificate_of objects) ascend ((laws.reported objects (certificate_of objects) ascend).0 accepted)))

-- so whether objects are sound reports whether their certificate is accepted
reported_by_sound : AcceptanceLaws → (objects : List ObjectValue) → Ascend (handles_of objects) → (some : Bool) → IsTrue some ↔ IsSound objects → some ≡ is_accepted objects (certificate_of objects)
reported_by_sound laws objects ascend true sound = sym (accepted_where_sound laws objects ascend (sound.0 refl))
reported_by_sound laws objects ascend false sound = sym (refused_where_unsound laws objects ascend (λ holds. absurd (cc (sound.1 holds))))

pub reported_by_result : {C E : Type 0} → AcceptanceLaws → (objects those : List ObjectValue) (result : Result (Option C) E) → objects ≡ those → Ascend (handles_of objects)
    → IfOk result (λ found. IsTrue (is_some found) ↔ IsSound objects) → IfOk result (λ found. is_some found ≡ is_accepted those (certificate_of those))
reported_by_result {C} {E} laws objects those (Ok found) same ascend sound =
    reported_by_sound laws objects ascend (is_some found) sound ∙ ap (λ (some : List ObjectValue). is_accepted some (certificate_of some)) same
reported_by_result {C} {E} laws objects those (Err fault) same ascend sound = tt

-- what is answered where the certificate is accepted, and where it isn't
pub certified_some : (drawing : Contents) (cert : List Entry) → cert ≡ certificate_of drawing.objects → true ≡ is_accepted drawing.objects (certificate_of drawing.objects)
    → printed (certificate_bytes cert) ≡ certified drawing
unfolding certified
certified_some drawing cert is accepted =
    ap (λ (entries : List Entry). printed (certificate_bytes entries)) is
    ∙ ap (λ (test : Bool). if test then printed (certificate_bytes (certificate_of drawing.objects)) else noted unsound_note Found) accepted

pub certified_none : (drawing : Contents) → false ≡ is_accepted drawing.objects (certificate_of drawing.objects) → noted unsound_note Found ≡ certified drawing
unfolding certified
certified_none drawing refused = ap (λ (test : Bool). if test then printed (certificate_bytes (certificate_of drawing.objects)) else noted unsound_note Found) refused

-- a sink into which bytes were written holds whole bytes
pub holds_whole : (old new : Written) (bytes : List ℕ) → old.written ≡ [] → Extends old new (bits bytes) → length new.written % 8 ≡ 0
holds_whole old new bytes empty grew =
    let all : new.written ≡ bits bytes = grew.bits ∙ ap (λ prefix. prefix ++ bits bytes) empty in
    omega (arith, ap length all, length_of_bits bytes)

-- and they are those
pub holds_these : (old new : Written) (bytes held : List ℕ) → old.written ≡ [] → Extends old new (bits bytes) → AreBytes bytes → AreBytes held → bits held ≡ new.written → held ≡ bytes
holds_these old new bytes held empty grew are also is =
    let all : new.written ≡ bits bytes = grew.bits ∙ ap (λ prefix. prefix ++ bits bytes) empty in
    bits_same held bytes also are (is ∙ all)

-- the certificate that is read is the one that an input begins with, and what stands after it is after that
pub read_is_in : (bytes : List ℕ) (cert : List Entry) → tried_certificate bytes ≡ Ok cert → cert ≡ cert_in bytes
unfolding cert_in
read_is_in bytes cert tried = sym (ap (λ (one : Tried (List Entry)). result_unwrap_or one []) tried)

pub read_is_before : (bytes : List ℕ) (cert : List Entry) (end : ℕ) → tried_certificate bytes ≡ Ok cert → end ≡ size_of (length cert) → drop end bytes ≡ drawing_bytes bytes
unfolding drawing_bytes
read_is_before bytes cert end tried is =
    ap (λ (place : ℕ). drop place bytes) is ∙ ap (λ (entries : List Entry). after_certificate entries bytes) (read_is_in bytes cert tried)
