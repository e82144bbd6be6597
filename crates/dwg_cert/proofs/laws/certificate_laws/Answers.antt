use Rattle.dwg_cert.proofs.CertificateSound.{begins_with_certificate, read_are_certificate}
use Rattle.dwg_cert.proofs.CertificateComplete.{certificate_is_read, certificate_is_unique, written_is_read, lines_are_exact}
use Rattle.dwg_cert.proofs.EntryRefusals.{refused_is_first}
use Rattle.dwg_cert.proofs.FormBytes.{certificate_is_counted, form_is_bytes}
use Rattle.dwg_cert.proofs.laws.certificate_laws.Goals as goal

pub returns-clause-exact : goal.returns-clause-exact
returns-clause-exact c = lines_are_exact

pub returns-clause-sound : goal.returns-clause-sound
returns-clause-sound c = begins_with_certificate

pub returns-clause-complete : goal.returns-clause-complete
returns-clause-complete c = certificate_is_read

pub returns-clause-unique : goal.returns-clause-unique
returns-clause-unique c = certificate_is_unique

pub returns-clause-read_back : goal.returns-clause-read_back
returns-clause-read_back c = written_is_read

pub returns-clause-refused : goal.returns-clause-refused
returns-clause-refused c = refused_is_first

pub returns-clause-entries : goal.returns-clause-entries
returns-clause-entries c = read_are_certificate

pub returns-clause-counted : goal.returns-clause-counted
returns-clause-counted c = certificate_is_counted

pub returns-clause-bytes : goal.returns-clause-bytes
returns-clause-bytes c = form_is_bytes
