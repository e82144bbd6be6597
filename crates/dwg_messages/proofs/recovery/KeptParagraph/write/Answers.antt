use Rattle.std.proofs.Common.{◌∙◌, ap, subst, sym, ◌++◌, []}
use Rattle.std.specs.Prelude.{codes, decimal, if◌then◌else◌}
use Rattle.dwg_text.specs.Lines.{line}
use Rattle.dwg_text.specs.Values.{upper_digits}
use Rattle.dwg_text.specs.Writing.{WritesText}
use Rattle.dwg_messages.specs.RecoveryNote.{found_line, object_at}
use Rattle.dwg_messages.proofs.recovery.KeptParagraph.write.Goals as goal

pub returns : goal.returns
unfolding found_line
returns g c =
    let kept = c.args.self.now in
    subst (WritesText _ _ _ _ _ _)
    (ap (λ number. line (codes "found: object " ++ upper_digits number ++ codes " at " ++ decimal kept.from)) c.value.ensures.value
    ∙ ap (λ mapped. if mapped then [] else line (codes "found: " ++ object_at kept.handle kept.from)) (sym c.if-self.false)) c.write_placed.ensures
