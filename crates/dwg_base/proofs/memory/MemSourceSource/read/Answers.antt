use Rattle.std.proofs.Common.{◌∙◌, ap, arith, length, sym, drop, take, refl}
use Rattle.std.proofs.lemmas.List.{drop-drop}
use Rattle.dwg_base.proofs.Giving.{given_prefix, given_all}
use Rattle.dwg_base.proofs.memory.MemSourceSource.read.Goals as goal

pub returns-clause-bytes : goal.returns-clause-bytes
returns-clause-bytes c =
    let rest = c.bytes_after-rest.ensures.rest ∙ ap (λ bytes. drop c.self.inside.place bytes) c.as_slice-2.ensures in
    let given = c.copy_prefix.ensures ∙ ap (take c.min-n.result) rest in (
      ap (λ feed. feed.left) (sym c.self.view_is) ∙ given_prefix c.self.inside.bytes c.copy_prefix.new.buf c.self.inside.place c.min-n.result given,
      λ none room. given_all c.self.inside.bytes c.self.inside.place c.min-n.result (ap length (sym rest) ∙ omega (arith, c.self.invariant)),
    )

pub returns-clause-after : goal.returns-clause-after
returns-clause-after c = rw (← c.self.view_is) (rw (c.saturating_add-self-inside.ensures, drop-drop) refl)
