use Rattle.dwg_classes.proofs.ClassWriting.{counted_at}
use Rattle.dwg_classes.proofs.writing.classes_bits.Goals as goal

pub classes-preserved : goal.classes-preserved
classes-preserved c =
    counted_at c.args.classes.now c.classes.class-index c.class-item.result c.classes.bits c.class_bits-bits.result c.classes-test.true c.class-item.is c.class_bits-bits.ensures.value
    c.class_bits-bits.ensures.length c.classes.invariant
