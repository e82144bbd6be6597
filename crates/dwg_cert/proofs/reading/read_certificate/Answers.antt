use Rattle.std.proofs.Common.{sym, ◌∙◌, ap, length, arith}
use Rattle.std.proofs.lemmas.Result.{err_from_is_err_and}
use Rattle.dwg_cert.proofs.CertificateSound.{begins_with_read, read_are_certificate}
use Rattle.dwg_cert.proofs.EntryReading.{length_of_read}
use Rattle.dwg_cert.proofs.PassingLines.{room_from_prefix, entries_decide, none_of_read, fault_reports}
use Rattle.dwg_cert.proofs.reading.read_certificate.Goals as goal

pub build-requires : goal.build-requires
build-requires c = (read_are_certificate c.args.bytes.now c.in_ok-entries.entries c.in_ok-entries.ensures.answers).0

pub returns-clause-begins : goal.returns-clause-begins
returns-clause-begins c =
    begins_with_read c.args.bytes.now c.in_ok-entries.entries c.build.result c.count-count.result (λ i. omega (arith, c.type_inv.bytes i)) (room_from_prefix c.args.bytes.now (sym c.in_default.ensures.first))
    c.in_ok-entries.ensures.answers c.build.ensures c.count-count.ensures

pub returns-clause-end : goal.returns-clause-end
returns-clause-end c =
    let counted = length_of_read c.args.bytes.now c.in_ok-entries.entries c.in_ok-entries.ensures.answers in
    omega (arith, counted, ap length c.build.ensures, c.count-count.ensures)

pub returns-clause-holds : goal.returns-clause-holds
returns-clause-holds c =
    entries_decide c.args.bytes.now (room_from_prefix c.args.bytes.now (sym c.in_default.ensures.first))
    ∙ none_of_read c.args.bytes.now c.in_ok-entries.entries c.in_ok-entries.ensures.answers

pub returns-in_err-entries-clause-refused : goal.returns-in_err-entries-clause-refused
returns-in_err-entries-clause-refused c =
    let p = err_from_is_err_and c.from_residual.result c.from_residual.ensures.1 in
    rw (p.1, p.2) (fault_reports c.args.bytes.now _ (room_from_prefix c.args.bytes.now (sym c.in_default.ensures.first)) c.in_err-entries.ensures.answers)
