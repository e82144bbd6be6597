use Rattle.std.proofs.Common.{◌∙◌}
use Rattle.dwg_cert.proofs.DrawnUp.{drawn_handles, sound_reported}
use Rattle.dwg_cert.proofs.certifying.are_sound.Goals as goal

pub accepts_entries-requires-clause-handles : goal.accepts_entries-requires-clause-handles
accepts_entries-requires-clause-handles c = drawn_handles c.args.drawing.now c.entries.result.now (c.entries.ensures.list ∙ c.requires.drawn)

pub returns : goal.returns
returns c = sound_reported c.args.drawing.now c.entries.result.now c.accepts_entries.result c.requires.can.ascending (c.entries.ensures.list ∙ c.requires.drawn) c.accepts_entries.ensures
