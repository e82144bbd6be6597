use Rattle.std.proofs.Common.{sym, ◌∙◌, ap, subst}
use Rattle.dwg_text.specs.Writing.{WritesText}
use Rattle.dwg_messages.specs.AppText.{items_text, bytes_or_items, app_after}
use Rattle.dwg_messages.proofs.app_objects.write_after.Goals as goal

pub returns-in-Ok-Some : goal.returns-in-Ok-Some
unfolding app_after bytes_or_items
returns-in-Ok-Some g c =
    subst (WritesText _ _ _ _ _ _)
    (ap items_text c.as_slice.ensures ∙ ap (bytes_or_items c.args.bytes.now) (sym c.in-Ok-Some.field-0-is ∙ c.in-Ok-Some.ensures.computed)) c.write_counted.ensures

pub returns-in-Ok-None : goal.returns-in-Ok-None
unfolding app_after bytes_or_items
returns-in-Ok-None g c =
    subst (WritesText _ _ _ _ _ _) (ap (bytes_or_items c.args.bytes.now) (sym c.in-Ok-None.field-0-is ∙ c.in-Ok-None.ensures.computed)) c.write_bytes_line.ensures
