use Rattle.std.proofs.Common.{◌≡◌, subst, List, Option}
use Rattle.std.specs.Prelude.{IfSome}
use Rattle.dwg_base.specs.Devices.{MOST_BYTES}
use Rattle.dwg_cert.specs.Certified.{certificate_of}
use Rattle.dwg_cert.specs.declared.entry.Entry.{Entry}
use Rattle.dwg_commands.proofs.OwnCertificate.{own_is_few}
use Rattle.dwg_file.specs.Contents.{contents_of}
use Rattle.dwg_commands.proofs.certificates.certified_pending.Goals as goal

pub written_form-requires : goal.written_form-requires
written_form-requires c =
    let is = subst (λ (found : Option (List Entry)). IfSome found (λ cert. cert ≡ certificate_of (contents_of c.args.drawing.now).objects)) c.in-Some.is c.in_ok-cert.ensures.certified in
    own_is_few (contents_of c.args.drawing.now).objects c.in-Some.cert MOST_BYTES c.requires is
