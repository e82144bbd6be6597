use Rattle.std.proofs.Common.{◌∙◌, ap, map}
use Rattle.dwg_recover.proofs.WholeRecovery.{damaged_value, kept_placed}
use Rattle.dwg_recover.specs.Recovering.{classes_found, object_of, reported}
use Rattle.dwg_file.specs.Contents.{contents_of}
use Rattle.dwg_recover.proofs.recovery.recovered_of.Goals as goal

pub parts_recovered-requires-clause-header : goal.parts_recovered-requires-clause-header
parts_recovered-requires-clause-header c = c.requires.found.header

pub parts_recovered-requires-clause-variables : goal.parts_recovered-requires-clause-variables
parts_recovered-requires-clause-variables c = c.requires.found.variables

pub parts_recovered-requires-clause-classes : goal.parts_recovered-requires-clause-classes
parts_recovered-requires-clause-classes c = c.requires.found.classes

pub parts_recovered-requires-clause-objects : goal.parts_recovered-requires-clause-objects
parts_recovered-requires-clause-objects c =
    let bytes = c.args.bytes.now in c.requires.objects ∙ ap (map (object_of (classes_found bytes) bytes)) c.requires.frames

pub reported-requires : goal.reported-requires
reported-requires c = kept_placed c.args.bytes.now c.into_frames-frames.result.items (c.into_frames-frames.ensures ∙ c.requires.frames)

pub returns : goal.returns
returns c = record {
  recovered =
      damaged_value c.args.bytes.now (contents_of c.drawing_of.result) c.args.refusal c.args.gathered.losses c.in_ok-kept.kept c.requires.refusal c.drawing_of.ensures c.requires.losses
      (c.in_ok-kept.ensures ∙ ap (reported c.args.bytes.now) (c.into_frames-frames.ensures ∙ c.requires.frames));
}
