use Rattle.std.proofs.Common.{◌≡◌, ap, length, rules}
use Rattle.dwg_tables.specs.LtypeBody.{StrokeParts}
use Rattle.dwg_tables.proofs.ltype.read_named.Goals as goal

pub returns-in_default-2-clause-parsed : goal.returns-in_default-2-clause-parsed
returns-in_default-2-clause-parsed c =
    let counted : length c.as_slice.result.now ≡ length {A = StrokeParts} c.args.parsed.now.strokes = ap length c.as_slice.ensures in search (rules, counted)

pub returns-clause-parsed : goal.returns-clause-parsed
returns-clause-parsed c =
    let counted : length c.as_slice.result.now ≡ length {A = StrokeParts} c.args.parsed.now.strokes = ap length c.as_slice.ensures in search (rules, counted)
