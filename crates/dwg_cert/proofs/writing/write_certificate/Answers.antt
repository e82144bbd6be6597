use Rattle.std.proofs.Common.{refl, subst}
use Rattle.dwg_cert.specs.Certificates.{HaveHandles}
use Rattle.dwg_cert.proofs.EntryWriting.{certificate_put}
use Rattle.dwg_cert.proofs.writing.write_certificate.Goals as goal

pub returns-clause-written : goal.returns-clause-written
returns-clause-written c =
    certificate_put _ _ _ _ c.entries-entries.result.now c.args.cert.now c.entries-entries.ensures.list c.put.ensures.written c.put_number.ensures.written c.write_entries.ensures.written

pub returns-clause-begins : goal.returns-clause-begins
returns-clause-begins c = λ rest. record {
  certificate = c.entries-entries.ensures.certificate;
  handles = subst HaveHandles c.entries-entries.ensures.list c.write_entries.ensures.handles;
  whole = refl;
}
