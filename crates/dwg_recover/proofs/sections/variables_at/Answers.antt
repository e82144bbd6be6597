use Rattle.dwg_sections.specs.declared.framed.Framed.TheVariants.{Variables}
use Rattle.dwg_recover.proofs.SectionFinding.{found_within}
use Rattle.dwg_recover.proofs.sections.variables_at.Goals as goal

pub content-content-requires : goal.content-content-requires
content-content-requires c = found_within Variables c.args.bytes.now c.args.found c.in-Some.place c.requires c.in-Some.is
