use Rattle.dwg_recover.proofs.WholeRecovery.{frames_are, mapped_stand, objects_are}
use Rattle.dwg_recover.proofs.recovery.gather_frames.Goals as goal

pub read_mapped-requires-clause-header : goal.read_mapped-requires-clause-header
read_mapped-requires-clause-header g c = c.requires.found.header

pub losses_of-requires-clause-header : goal.losses_of-requires-clause-header
losses_of-requires-clause-header g c = c.requires.found.header

pub losses_of-requires-clause-variables : goal.losses_of-requires-clause-variables
losses_of-requires-clause-variables g c = c.requires.found.variables

pub losses_of-requires-clause-classes : goal.losses_of-requires-clause-classes
losses_of-requires-clause-classes g c = c.requires.found.section

pub scan-requires-clause-found : goal.scan-requires-clause-found
scan-requires-clause-found g c = mapped_stand c.args.bytes.now _ c.in_ok-walked.ensures.kept

pub returns-clause-frames : goal.returns-clause-frames
returns-clause-frames g c = frames_are c.args.bytes.now _ _ _ _ c.requires.found.classes c.as_slice.ensures c.in_ok-walked.ensures.kept c.in_ok-kept.ensures.frames

pub returns-clause-objects : goal.returns-clause-objects
returns-clause-objects g c = objects_are c.args.bytes.now _ _ c.in_ok-kept.kept c.requires.found.classes c.as_slice.ensures c.in_ok-kept.ensures.objects
