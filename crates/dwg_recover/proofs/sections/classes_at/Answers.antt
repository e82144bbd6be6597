use Rattle.std.proofs.Common.{arith}
use Rattle.dwg_sections.specs.declared.framed.Framed.TheVariants.{Classes}
use Rattle.dwg_recover.proofs.SectionFinding.{found_within}
use Rattle.dwg_recover.proofs.sections.classes_at.Goals as goal

pub content-requires : goal.content-requires
content-requires c = found_within Classes c.args.bytes.now c.args.found c.in-Some.place c.requires.found c.in-Some.is

pub overflow_add-place : goal.overflow_add-place
overflow_add-place c = omega (arith, found_within Classes c.args.bytes.now c.args.found c.in-Some.place c.requires.found c.in-Some.is)

pub read_classes-requires-clause-place : goal.read_classes-requires-clause-place
read_classes-requires-clause-place c = omega (arith, found_within Classes c.args.bytes.now c.args.found c.in-Some.place c.requires.found c.in-Some.is)
