use Rattle.std.proofs.Common.{rules, refl, map}
use Rattle.dwg_audit.proofs.LookingUp.{are_looked_up, steps_taken}
use Rattle.dwg_object.specs.Objects.{value_of}
use Rattle.dwg_audit.proofs.lookups.look_up_gathered.Goals as goal

pub returns-in_err-places-clause-steps : goal.returns-in_err-places-clause-steps
returns-in_err-places-clause-steps g c =
    steps_taken c.args.objects.now c.args.known.now c.args.gathered c.in_ok-index.index c.as_slice.result.now c.as_slice-2.result.now c.as_slice-3.result.now c.args.steps.now
    c.find_all.new.steps c.find_all-2.new.steps c.find_all-3.new.steps c.in_ok-index.ensures c.requires.gathered c.as_slice.ensures.value c.as_slice-2.ensures.value c.as_slice-3.ensures
    c.find_all.ensures.steps c.find_all-2.ensures.steps c.find_all-3.ensures.steps

pub returns-clause-lookups : goal.returns-clause-lookups
returns-clause-lookups g c =
    are_looked_up (map value_of c.args.objects.now) c.args.known.now c.args.gathered _ c.in_ok-index.index c.in_ok-index.ensures c.requires.gathered (search rules) (search rules) (search rules) refl refl

pub returns-clause-steps : goal.returns-clause-steps
returns-clause-steps g c =
    steps_taken c.args.objects.now c.args.known.now c.args.gathered c.in_ok-index.index c.as_slice.result.now c.as_slice-2.result.now c.as_slice-3.result.now c.args.steps.now
    c.find_all.new.steps c.find_all-2.new.steps c.find_all-3.new.steps c.in_ok-index.ensures c.requires.gathered c.as_slice.ensures.value c.as_slice-2.ensures.value c.as_slice-3.ensures
    c.find_all.ensures.steps c.find_all-2.ensures.steps c.find_all-3.ensures.steps
