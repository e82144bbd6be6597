use Rattle.std.proofs.Common.{sym, subst, arith}
use Rattle.dwg_base.proofs.ByteLists.{are_bytes}
use Rattle.dwg_file.specs.Contents.{contents_of}
use Rattle.dwg_file.specs.declared.drawing_parts.Parts.{Parts}
use Rattle.dwg_file.specs.Spelled.{Spelled}
use Rattle.dwg_file.proofs.reading.read_with_frames.Goals as goal

pub build-requires : goal.build-requires
build-requires c =
    let are = are_bytes c.args.bytes.now (λ i. omega (arith, c.type_inv.bytes i)) in
    c.drawing_laws.ensures.valid c.args.bytes.now (contents_of c.in_ok-read.read.parts) are c.requires
    (c.drawing_laws.ensures.read c.args.bytes.now (contents_of c.in_ok-read.read.parts) are c.in_ok-read.ensures.read)

pub returns-clause-spelled : goal.returns-clause-spelled
returns-clause-spelled c =
    let are = are_bytes c.args.bytes.now (λ i. omega (arith, c.type_inv.bytes i)) in
    subst (λ (parts : Parts). Spelled (contents_of parts) c.args.bytes.now) (sym c.build.ensures)
    (c.drawing_laws.ensures.read c.args.bytes.now (contents_of c.in_ok-read.read.parts) are c.in_ok-read.ensures.read)
