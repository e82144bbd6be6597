use Rattle.std.proofs.Common.{sym, subst, arith}
use Rattle.dwg_base.proofs.ByteLists.{are_bytes}
use Rattle.dwg_file.specs.Contents.{Contents}
use Rattle.dwg_file.specs.Valid.{IsValid}
use Rattle.dwg_recover.specs.Recovering.{drawing_recovered}
use Rattle.dwg_recover.proofs.recovery.drawing_of.Goals as goal

pub build-requires : goal.build-requires
build-requires c =
    let bytes = c.args.bytes.now in
    let are = are_bytes bytes (λ i. omega (arith, c.type_inv.bytes i)) in
    subst (λ (drawing : Contents). IsValid drawing) (sym c.requires.parts) (c.drawing_laws.ensures.parts (drawing_recovered bytes) (c.recovered_laws.ensures.parts bytes are c.requires.limit))
