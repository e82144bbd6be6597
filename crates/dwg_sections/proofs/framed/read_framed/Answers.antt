use Rattle.std.proofs.Common.{sym, ◌∙◌, ap, ◌+◌, arith}
use Rattle.dwg_sections.specs.HeaderLines.{bytes_at}
use Rattle.dwg_sections.proofs.FramedSound.{section_with_value}
use Rattle.dwg_sections.proofs.framed.read_framed.Goals as goal

pub returns-in-None-clause-found : goal.returns-in-None-clause-found
returns-in-None-clause-found c =
    section_with_value c.args.bytes.now c.piece.result.now c.args.place c.args.which (λ i. omega (arith, c.type_inv.bytes i)) (sym c.in-None.ensures.first)
    (c.piece.ensures ∙ ap (bytes_at c.args.bytes.now (c.args.place + 20)) c.rl-size.ensures)
