use Rattle.std.proofs.Common.{◌≡◌, ◌<◌, length, subst, arith}
use Rattle.std.proofs.lemmas.Bool.Decides.{nat_tests}
use Rattle.dwg_text.specs.Writing.{WritesText}
use Rattle.dwg_text.proofs.Writing.{◌▷◌}
use Rattle.dwg_messages.proofs.Verdicts.{verdict_of_none, verdict_of_some}
use Rattle.dwg_messages.proofs.verdict.write_verdict.Goals as goal

pub returns-then-is_empty : goal.returns-then-is_empty
returns-then-is_empty g c =
    let none : length c.args.found.now ≡ 0 = grind (arith, nat_tests, c.is_empty.ensures, c.if-is_empty.true) in
    subst (WritesText _ _ _ _ _ _) (verdict_of_none c.args.audited.now c.args.found.now none) (c.write.ensures ▷ c.write-then-is_empty.ensures)

pub returns-else-is_empty : goal.returns-else-is_empty
returns-else-is_empty g c =
    let some : 0 < length c.args.found.now = grind (arith, nat_tests, c.is_empty.ensures, c.if-is_empty.false) in
    subst (WritesText _ _ _ _ _ _) (verdict_of_some c.args.audited.now c.args.found.now some) (c.write.ensures ▷ c.write_line.ensures)
