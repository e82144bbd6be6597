use Rattle.std.proofs.Common.{ℕ, ◌+◌, ◌^◌, ◌<◌, List, [], ◌++◌, length, arith}
use Rattle.std.specs.Int.{w16, to_le_bytes}
use Rattle.dwg_base.specs.Bytes.{AreBytes}
use Rattle.dwg_base.specs.declared.version.Version.{Version}
use Rattle.dwg_base.proofs.ByteLists.{are_bytes}
use Rattle.dwg_check.specs.CheckWord.{CHECK_SEED, check_word}
use Rattle.dwg_object.specs.Forms.{FormOf}
use Rattle.dwg_object.specs.Frames.{FrameAt}
use Rattle.dwg_object.specs.Objects.{ObjectValue, value_of}
use Rattle.dwg_object.specs.Written.{PartsFit, body_bytes}
use Rattle.dwg_object.proofs.FormLaws.{form_is_valid, valid_fits}
use Rattle.dwg_object.proofs.StandingLemmas.{stands_bytes, stands_first, stands_next, stands_within}
use Rattle.dwg_file_tests.proofs.tests.objects.written_anew.Goals as goal

-- the object of a frame in few bytes can be written
can_be_written : (version : Version) (bytes : List ℕ) (object : ObjectValue) (end : ℕ) → AreBytes bytes → length bytes < 1000
    → (body : List ℕ) × FrameAt bytes 0 body end × FormOf version [] body object
    → PartsFit version object × AreBytes (body_bytes version object) × (length (body_bytes version object) < 2 ^ 29)
can_be_written version bytes object end are few (body, stands, form) =
    let word : List ℕ = to_le_bytes w16 (check_word CHECK_SEED (stands.size ++ body)) in
    let inside = stands_next bytes 0 stands.size body (stands_first bytes 0 (stands.size ++ body) word stands.stands) in
    let within = stands_within bytes (0 + length stands.size) body inside in
    valid_fits version [] object (form_is_valid version [] body object (stands_bytes bytes (0 + length stands.size) body are inside) (omega (arith, few, within)) form).0

pub written-sink-requires-clause-fits : goal.written-sink-requires-clause-fits
written-sink-requires-clause-fits c =
    (can_be_written c.args.version c.args.bytes.now (value_of c.in-Ok.found.object) c.in-Ok.found.end (are_bytes c.args.bytes.now (λ i. omega (arith, c.type_inv.bytes i)))
    (omega (arith, c.if-bytes-ge1000.false)) c.in-Ok.ensures.found).0

pub written-sink-requires-clause-few : goal.written-sink-requires-clause-few
written-sink-requires-clause-few c =
    (can_be_written c.args.version c.args.bytes.now (value_of c.in-Ok.found.object) c.in-Ok.found.end (are_bytes c.args.bytes.now (λ i. omega (arith, c.type_inv.bytes i)))
    (omega (arith, c.if-bytes-ge1000.false)) c.in-Ok.ensures.found).2
