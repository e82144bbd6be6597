use Rattle.std.proofs.Common.{◌∙◌, ap}
use Rattle.std.specs.Option.{option_map}
use Rattle.dwg_bits.specs.Cursor.{rest}
use Rattle.dwg_classes.specs.declared.class.Class.{Class}
use Rattle.dwg_classes.proofs.ClassReading.{class_unread, class_too_small}
use Rattle.dwg_classes.proofs.reading.next_class.Goals as goal

pub returns-in_default-clause-refused : goal.returns-in_default-clause-refused
returns-in_default-clause-refused c =
    class_unread c.args.place c.args.index c.args.cursor.now.place (rest c.args.cursor.now) c.refused.result (cc)
    (c.in_ok-class.ensures.parsed ∙ ap (option_map (λ (class : Class). (class, rest c.read_class.new.cursor))) c.in_default.is)

pub returns-then-class-lt-LEAST_NUMBER-clause-refused : goal.returns-then-class-lt-LEAST_NUMBER-clause-refused
returns-then-class-lt-LEAST_NUMBER-clause-refused c =
    class_too_small c.in-Some.class c.args.place c.args.index c.args.cursor.now.place (rest c.args.cursor.now) (rest c.read_class.new.cursor)
    c.refused-then-class-lt-LEAST_NUMBER.result (cc)
    (c.in_ok-class.ensures.parsed ∙ ap (option_map (λ (class : Class). (class, rest c.read_class.new.cursor))) c.in-Some.is) c.if-class-lt-LEAST_NUMBER.true
