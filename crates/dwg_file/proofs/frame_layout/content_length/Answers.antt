use Rattle.std.proofs.Common.{arith}
use Rattle.dwg_file.proofs.PlanContent.{content_padded}
use Rattle.dwg_file.proofs.frame_layout.content_length.Goals as goal

pub classes_bits-requires-clause-few : goal.classes_bits-requires-clause-few
classes_bits-requires-clause-few c = let padded = content_padded c.args.classes.now in omega (arith, padded.enough, c.requires.few)

pub returns : goal.returns
returns c = let padded = content_padded c.args.classes.now in omega (arith, padded.enough, padded.close, c.classes_bits.ensures.bits, c.div_ceil.ensures)
