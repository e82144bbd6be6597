-- Certificates: which lists of entries are ones.
pub mod Certificates
-- When a certificate is one of a drawing's objects.
pub mod Accepts
-- The tests by which a certificate is checked, object by object.
pub mod AcceptTests
-- What the checker of a certificate holds.
pub mod Checked
-- The certificate of a drawing's objects, and what holds of it.
pub mod Certified
-- The bytes that a certificate is written as.
pub mod WrittenForm
-- The lines of the table of refusals on a certificate, and what an input says that its certificate is.
pub mod CertificateLines
-- Laws of certificates: what an input begins with, and what the lines on a certificate say, are one.
pub mod CertificateLaws
-- The certificate that is drawn up of objects.
pub mod Drawn
