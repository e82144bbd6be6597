use Rattle.dwg_recover.proofs.SectionsOfFile.{section_laws}
use Rattle.dwg_recover.proofs.ShortDamage.{short_damage_costs_one}
use Rattle.dwg_recover.proofs.damage.short_damage_laws.Goals as goal

pub returns : goal.returns
returns c = record {
  short =
      short_damage_costs_one
      (section_laws c.file_header_laws.ensures.sound c.file_header_laws.ensures.complete c.framed_laws.ensures.sound c.framed_laws.ensures.complete)
      c.short_damage_laws.ensures.refused c.short_damage_laws.ensures.frame c.short_damage_laws.ensures.elsewhere;
}
