use Rattle.std.proofs.Common.{◌∙◌, ◌*◌, ap}
use Rattle.dwg_codes.proofs.RunReading.{bytes_counted}
use Rattle.dwg_codes.proofs.run.take_bytes.Goals as goal

pub returns-in-Some-to_bytes-clause-counted : goal.returns-in-Some-to_bytes-clause-counted
returns-in-Some-to_bytes-clause-counted c = bytes_counted _ c.in-Some.span c.args.count c.in-Some-to_bytes.ensures.bits (c.in-Some.ensures.counted ∙ ap (λ n. 8 * n) c.from.ensures)
