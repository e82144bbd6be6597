use Rattle.dwg_appitems.proofs.ItemWriting.{length_with_text}
use Rattle.dwg_appitems.proofs.writing.item_length.Goals as goal

pub returns-in-Text-clause-length : goal.returns-in-Text-clause-length
returns-in-Text-clause-length c =
    length_with_text c.args.one.now c.in-Text.mark c.in-Text.text c.as_slice.result.now c.text_length.result c.in-Text.is c.as_slice.ensures c.text_length.ensures.length
