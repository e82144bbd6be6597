-- What an answer that was sent left on output and notes.
use Rattle.std.proofs.Common.{◌≡◌, ◌∙◌, ap, subst, sym, ℕ, ◌<◌, ◌≤◌, true, false, List, arith}
use Rattle.std.proofs.lemmas.Bool.Decides.{nat_tests}
use Rattle.std.specs.Prelude.{nat_lt, if◌then◌else◌}
use Rattle.dwg_base.specs.Devices.{MOST_BYTES}
use Rattle.dwg_commands.specs.declared.status.Status.{Status}
use Rattle.dwg_commands.specs.declared.status.Status.TheVariants.{TooLarge}
use Rattle.dwg_commands.specs.declared.outcome.Outcome.{Outcome}
use Rattle.dwg_commands.specs.Answered.{noted, filed_with}
use Rattle.dwg_file.specs.Canonical.{Carried, canonical_with, size_with}
use Rattle.dwg_file.specs.Contents.{Contents}
use Rattle.dwg_file.specs.Plans.{Planned}
use Rattle.dwg_text.specs.Notes.{too_large_note}
use Rattle.dwg_commands.specs.Run.{Sent, Sinks}

-- an answer that is another
pub sent_same : (answer reported : Outcome) (status : Status) (before after : Sinks) → answer ≡ reported → Sent answer status before after → Sent reported status before after
sent_same answer reported status before after is sent = subst (λ (one : Outcome). Sent one status before after) is sent

-- the file of a drawing that is within the limit, and of one that isn't
pub sent_within : (carried : Carried) (drawing : Contents) (other : Planned) (note : List ℕ) (ends status : Status) (before after : Sinks) → size_with carried drawing ≤ MOST_BYTES
    → other ≡ record { drawing = drawing; carried = carried }
    → Sent (record { output = canonical_with other.carried other.drawing; note = note; status = ends }) status before after → Sent (filed_with carried drawing note ends) status before after
unfolding filed_with
sent_within carried drawing other note ends status before after few same sent =
    let within : nat_lt MOST_BYTES (size_with carried drawing) ≡ false = grind (arith, nat_tests) in
    sent_same _ _ status before after
    (ap (λ (one : Planned). record { output = canonical_with one.carried one.drawing; note = note; status = ends }) same
    ∙ sym (ap (λ test. if test then noted (too_large_note (size_with carried drawing)) (TooLarge (size_with carried drawing)) else record { output = canonical_with carried drawing; note = note; status = ends }) within)) sent

pub sent_too_large : (carried : Carried) (drawing : Contents) (size : ℕ) (note : List ℕ) (ends status : Status) (before after : Sinks) → MOST_BYTES < size_with carried drawing → size ≡ size_with carried drawing
    → Sent (noted (too_large_note size) (TooLarge size)) status before after → Sent (filed_with carried drawing note ends) status before after
unfolding filed_with
sent_too_large carried drawing size note ends status before after many same sent =
    let over : nat_lt MOST_BYTES (size_with carried drawing) ≡ true = grind (arith, nat_tests) in
    sent_same _ _ status before after
    (ap (λ one. noted (too_large_note one) (TooLarge one)) same
    ∙ sym (ap (λ test. if test then noted (too_large_note (size_with carried drawing)) (TooLarge (size_with carried drawing)) else record { output = canonical_with carried drawing; note = note; status = ends }) over)) sent
