use Rattle.std.proofs.Common.{◌≡◌, ◌∙◌, subst, ℕ, List, []}
use Rattle.std.specs.Prelude.{IfOk}
use Rattle.dwg_cert.specs.WrittenForm.{certificate_bytes}
use Rattle.dwg_commands.proofs.CertificateOutcomes.{holds_these}
use Rattle.dwg_commands.proofs.certificates.written_form.Goals as goal

pub returns : goal.returns
returns c =
    let empty : c.reserve.new.self.written ≡ [] = c.reserve.ensures.same_bits ∙ c.new-sink.ensures in
    let same =
    holds_these c.reserve.new.self c.write_certificate.new.sink (certificate_bytes c.args.cert.now) c.bytes_of.result.now empty c.write_certificate.ensures.written
    (c.certificate_laws.ensures.bytes c.args.cert.now) c.bytes_of.ensures.bytes c.bytes_of.ensures.held in
    subst (λ (bytes : List ℕ). IfOk c.from_slice.result (λ run. run ≡ bytes)) same c.from_slice.ensures
