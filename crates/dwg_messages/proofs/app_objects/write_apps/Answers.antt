use Rattle.std.proofs.Common.{subst}
use Rattle.dwg_text.specs.Writing.{WritesText}
use Rattle.dwg_text.proofs.Elements.{more_numbered}
use Rattle.dwg_text.proofs.Writing.{◌▷◌}
use Rattle.dwg_messages.specs.AppText.{app_text}
use Rattle.dwg_messages.proofs.app_objects.write_apps.Goals as goal

pub apps-preserved : goal.apps-preserved
apps-preserved g c =
    subst (WritesText _ _ _ _ _ _) (more_numbered (app_text c.args.handle) c.args.apps.now c.apps.index c.index-apps-index.result c.apps-test.true c.index-apps-index.is)
    (c.apps.invariant ▷ c.write_app.ensures)
