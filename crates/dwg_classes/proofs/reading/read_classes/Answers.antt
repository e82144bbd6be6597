use Rattle.std.proofs.Common.{◌∙◌, sym, subst, arith, List}
use Rattle.std.proofs.lemmas.Result.{err_from_is_err_and}
use Rattle.dwg_bits.proofs.BitLaws.{length_of_bits_between}
use Rattle.dwg_bits.specs.Cursor.{rest}
use Rattle.dwg_classes.specs.declared.class.Class.{Class}
use Rattle.dwg_classes.proofs.ContentReading.{AreReadSoFar, none_so_far, one_so_far, fewer_left, all_read, fault_refused, answers_ok, answers_err}
use Rattle.dwg_classes.proofs.WrittenClasses.{read_are_values, read_are_writable}
use Rattle.dwg_classes.proofs.reading.read_classes.Goals as goal

pub classes-init : goal.classes-init
classes-init c = record {
  read = none_so_far c.args.content.now c.new-classes.result c.new-cursor.result.bytes.now c.new-cursor.result.place c.new-cursor.result.end c.new-classes.ensures c.new-cursor.ensures.bytes c.new-cursor.ensures.place c.new-cursor.ensures.end;
  bytes = c.new-cursor.ensures.bytes;
  end = c.new-cursor.ensures.end;
}

pub classes-preserved : goal.classes-preserved
classes-preserved c =
    let so_far = c.classes.invariant in
    let old = c.classes.cursor in
    let new = c.next_class.new.cursor in
    let taken = c.in_ok-class.ensures in
    record {
      read = subst (λ (classes : List Class). AreReadSoFar c.args.content.now classes new.place (rest new)) (sym c.in_ok-try_push.ensures)
          (one_so_far c.args.content.now c.classes.classes c.in_ok-class.class old.place new.place (rest old) (rest new) so_far.read taken.taken
          (omega (arith, length_of_bits_between old.bytes.now old.place old.end old.within, length_of_bits_between new.bytes.now new.place new.end new.within, taken.same_end)));
      bytes = taken.same_bytes ∙ so_far.bytes;
      end = taken.same_end ∙ so_far.end;
    }

pub classes-smaller : goal.classes-smaller
classes-smaller c =
    let old = c.classes.cursor in
    let new = c.next_class.new.cursor in
    omega (
      arith,
      fewer_left c.in_ok-class.class (rest old) (rest new) c.in_ok-class.ensures.taken,
      length_of_bits_between old.bytes.now old.place old.end old.within,
      length_of_bits_between new.bytes.now new.place new.end new.within,
    )

pub returns-clause-found : goal.returns-clause-found
returns-clause-found c =
    let so_far = c.classes.invariant in
    let old = c.classes.cursor in
    all_read c.args.content.now c.classes.classes old.place (rest old) so_far.read (omega (arith, length_of_bits_between old.bytes.now old.place old.end old.within, c.classes-test.false))

pub returns-clause-tried : goal.returns-clause-tried
returns-clause-tried c = answers_ok c.args.place c.args.content.now c.classes.classes (returns-clause-found c)

pub returns-in_err-class-clause-refused : goal.returns-in_err-class-clause-refused
returns-in_err-class-clause-refused c =
    let so_far = c.classes.invariant in
    let old = c.classes.cursor in
    let p = err_from_is_err_and c.from_residual.result c.from_residual.ensures.1 in
    rw (p.1, p.2) (fault_refused c.args.place c.args.content.now c.classes.classes c.as_slice.result.now old.place (rest old) _ so_far.read
    (omega (arith, length_of_bits_between old.bytes.now old.place old.end old.within, c.classes-test.true)) c.as_slice.ensures c.in_err-class.ensures.refused)

pub returns-in_err-class-clause-tried : goal.returns-in_err-class-clause-tried
returns-in_err-class-clause-tried c =
    let p = err_from_is_err_and c.from_residual.result c.from_residual.ensures.1 in
    let refused = rw p.1 at (returns-in_err-class-clause-refused c) in
    rw p.1 (answers_err c.args.place c.args.content.now p.0 refused)

pub returns-clause-writable : goal.returns-clause-writable
returns-clause-writable c = read_are_writable c.args.content.now c.classes.classes (returns-clause-found c)

pub returns-clause-no_longer : goal.returns-clause-no_longer
returns-clause-no_longer c = (read_are_values c.args.content.now c.classes.classes (returns-clause-found c)).1
