use Rattle.std.proofs.Common.{ap₂, subst}
use Rattle.dwg_text.specs.Numbered.{numbered}
use Rattle.dwg_text.specs.Writing.{WritesText}
use Rattle.dwg_messages.specs.AppText.{app_text, apps_text}
use Rattle.dwg_messages.proofs.app_objects.ObjectParagraph.write.Goals as goal

pub returns : goal.returns
unfolding apps_text
returns g c = subst (WritesText _ _ _ _ _ _) (ap₂ (λ handle apps. numbered (app_text handle) 0 apps) c.handle.ensures c.apps_of.ensures) c.write_apps.ensures
