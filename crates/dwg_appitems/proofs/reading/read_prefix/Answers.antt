use Rattle.std.proofs.Common.{◌∙◌}
use Rattle.dwg_bits.proofs.BitLaws.{length_of_bits_between}
use Rattle.dwg_appitems.proofs.ItemPrefixes.{all_left, prefix_parsed, prefix_unparsed}
use Rattle.dwg_appitems.proofs.reading.read_prefix.Goals as goal

pub returns-in_default : goal.returns-in_default
returns-in_default c =
    let cursor = c.new-cursor.ensures in
    prefix_unparsed c.args.bytes.now _ c.in_ok-item.field-0 _ _ c.first_bytes-first.ensures.first (all_left _ _ _ _ cursor.bytes cursor.place cursor.end) c.in_default.is c.in_ok-item.ensures.parsed

pub returns : goal.returns
returns c =
    let cursor = c.new-cursor.ensures in
    let after = c.read_item.new.cursor in
    prefix_parsed c.args.bytes.now _ c.in_ok-item.field-0 c.in-Some.item _ _ after.end after.place c.first_bytes-first.ensures.first (all_left _ _ _ _ cursor.bytes cursor.place cursor.end)
    c.in-Some.is c.in_ok-item.ensures.parsed (c.in_ok-item.ensures.same_end ∙ cursor.end) (length_of_bits_between after.bytes.now after.place after.end after.within) after.ordered
