use Rattle.std.proofs.Common.{◌∙◌, ap, ap₂, ◌+◌, ◌-◌, w32}
use Rattle.std.specs.Prelude.{if◌then◌else◌, nat_lt}
use Rattle.std.specs.Int.{to_le_bytes}
use Rattle.dwg_preview.specs.Previews.{entry_at, moved_entry}
use Rattle.dwg_preview.proofs.PreviewWriting.{entry_written}
use Rattle.dwg_preview.proofs.writing.write_entry.Goals as goal

pub returns : goal.returns
returns c =
    let place = c.moved_place.ensures ∙ ap₂ (λ picture size. if nat_lt 0 size then picture - c.args.from + c.args.to else 0) c.rl-picture.ensures c.rl-size.ensures in
    entry_written _ _ _ _ (moved_entry c.args.from c.args.to (entry_at c.args.content.now c.args.place)) _ _
    (c.to_le_bytes.ensures ∙ ap (to_le_bytes w32) place) (c.to_le_bytes-2.ensures ∙ ap (to_le_bytes w32) c.rl-size.ensures)
    c.put.ensures c.put-2.ensures c.put-3.ensures
