use Rattle.std.proofs.Common.{ap, subst, ◌+◌, ◌++◌}
use Rattle.std.specs.Prelude.{codes, decimal}
use Rattle.dwg_text.specs.Writing.{WritesText}
use Rattle.dwg_text.proofs.Writing.{◌▷◌}
use Rattle.dwg_text.specs.Lines.{line}
use Rattle.dwg_messages.proofs.app_items.write_coded.Goals as goal

pub returns : goal.returns
returns g c =
    subst (WritesText _ _ _ _ _ _) (ap (λ code. line (c.args.prefix.now ++ decimal (1000 + code) ++ codes " " ++ g.T.Value.printed c.args.value.now)) c.from.ensures)
    (c.write.ensures ▷ c.write_value.ensures ▷ c.write-2.ensures ▷ c.write_value-2.ensures ▷ c.write-3.ensures)
