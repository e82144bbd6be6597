use Rattle.std.proofs.Common.{◌∙◌, ◌++◌, ap, subst, take, arith}
use Rattle.std.specs.Prelude.{flat_map}
use Rattle.dwg_text.specs.Lines.{byte_digits}
use Rattle.dwg_text.specs.Writing.{WritesText}
use Rattle.dwg_text.proofs.Elements.{more_digits}
use Rattle.dwg_text.proofs.Writing.{◌▷◌}
use Rattle.dwg_text.proofs.bytes.write_digits.Goals as goal

pub runs-preserved : goal.runs-preserved
runs-preserved g c = (
  omega (arith, c.min-count.ensures),
  subst (WritesText _ _ _ _ _ _)
      (ap (λ run. flat_map byte_digits (take c.runs.at c.args.bytes.now) ++ flat_map byte_digits run) c.run_at.ensures ∙ more_digits c.args.bytes.now c.runs.at c.min-count.result)
      (c.runs.invariant.1 ▷ c.write_run.ensures),
)
