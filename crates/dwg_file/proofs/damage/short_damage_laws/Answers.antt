use Rattle.dwg_file.proofs.DamagedParts.{else_is_same}
use Rattle.dwg_file.proofs.ShortDamage.{damaged_frame_fails, short_damage_is_refused}
use Rattle.dwg_file.proofs.damage.short_damage_laws.Goals as goal

pub returns-clause-refused : goal.returns-clause-refused
returns-clause-refused c =
    short_damage_is_refused
    (record {
      header_sound = c.file_header_laws.ensures.sound;
      header_complete = c.file_header_laws.ensures.complete;
      section_sound = c.framed_laws.ensures.sound;
      section_complete = c.framed_laws.ensures.complete;
    })
    c.short_damage_laws.ensures.sealed_shows

pub returns-clause-frame : goal.returns-clause-frame
returns-clause-frame c = damaged_frame_fails c.short_damage_laws.ensures.sealed_shows

pub returns-clause-elsewhere : goal.returns-clause-elsewhere
returns-clause-elsewhere c = else_is_same
