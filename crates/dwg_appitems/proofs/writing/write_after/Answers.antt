use Rattle.dwg_appitems.proofs.ItemWriting.{text_after}
use Rattle.dwg_appitems.proofs.writing.write_after.Goals as goal

pub returns-in-Text-clause-value : goal.returns-in-Text-clause-value
returns-in-Text-clause-value c = text_after c.args.one.now c.in-Text.mark c.in-Text.text c.as_slice.result.now c.in-Text.is c.as_slice.ensures c.write_text.ensures.value
