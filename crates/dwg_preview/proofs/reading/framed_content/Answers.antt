use Rattle.std.proofs.Common.{arith}
use Rattle.dwg_preview.proofs.PreviewParts.{section_cut, section_ends_otherwise, section_found}
use Rattle.dwg_preview.proofs.reading.framed_content.Goals as goal

pub returns-then-bytes-place-2-clause-none : goal.returns-then-bytes-place-2-clause-none
returns-then-bytes-place-2-clause-none c = section_cut c.args.bytes.now c.args.place c.rl-size.result c.rl-size.ensures (omega arith)

pub returns-then-not-has_end-clause-none : goal.returns-then-not-has_end-clause-none
returns-then-not-has_end-clause-none c =
    section_ends_otherwise c.has_end.result c.args.bytes.now c.args.place c.rl-size.result c.rl-size.ensures c.has_end.ensures c.if-not-has_end.true

pub returns-clause-stands : goal.returns-clause-stands
returns-clause-stands c =
    section_found c.has_begin.result c.has_end.result c.args.bytes.now c.args.place c.rl-size.result c.piece.result.now (λ i. omega (arith, c.type_inv.bytes i)) c.rl-size.ensures (omega arith)
    c.has_begin.ensures c.if-not-has_begin.false c.has_end.ensures c.if-not-has_end.false c.piece.ensures
