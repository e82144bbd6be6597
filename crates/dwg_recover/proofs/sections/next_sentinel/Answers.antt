use Rattle.std.proofs.Common.{◌∙◌}
use Rattle.dwg_recover.proofs.SectionFinding.{found_next, none_next, occurs_there}
use Rattle.dwg_recover.proofs.sections.next_sentinel.Goals as goal

pub returns-in-Some-clause-found : goal.returns-in-Some-clause-found
returns-in-Some-clause-found c =
    found_next c.args.which c.args.bytes.now c.bytes_after.result.now c.as_slice.result.now c.args.at c.in-Some.found c.bytes_after.ensures.rest (c.as_slice.ensures ∙ c.begin_sentinel-sentinel.ensures) c.in-Some.ensures

pub returns-in-Some-clause-stands : goal.returns-in-Some-clause-stands
returns-in-Some-clause-stands c =
    occurs_there c.args.which c.args.bytes.now c.bytes_after.result.now c.as_slice.result.now c.args.at c.in-Some.found c.bytes_after.ensures.rest (c.as_slice.ensures ∙ c.begin_sentinel-sentinel.ensures) c.in-Some.ensures.1

pub returns-in-None-clause-none : goal.returns-in-None-clause-none
returns-in-None-clause-none c =
    none_next c.args.which c.args.bytes.now c.bytes_after.result.now c.as_slice.result.now c.args.at c.bytes_after.ensures.rest (c.as_slice.ensures ∙ c.begin_sentinel-sentinel.ensures) c.in-None.ensures
