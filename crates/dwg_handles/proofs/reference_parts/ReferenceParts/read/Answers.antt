use Rattle.std.proofs.Common.{refl, None, ◌<◌, length, arith}
use Rattle.dwg_bits.specs.Cursor.{rest}
use Rattle.dwg_handles.proofs.PartsReading.{parts_short, count_short, parts_long, parts_cut, parts_read, not_there}
use Rattle.dwg_handles.proofs.reference_parts.ReferenceParts.read.Goals as goal

pub returns-in_err-code-clause-reads : goal.returns-in_err-code-clause-reads
returns-in_err-code-clause-reads c =
    let start = c.args.cursor.now in
    let short : length (rest start) < 4 = not_there start.bytes.now start.place 4 start.end start.within c.in_err-code.ensures.there.1 in
    parts_short _ (rest start) c.from_residual.ensures (omega arith)

pub returns-in_err-count-clause-reads : goal.returns-in_err-count-clause-reads
returns-in_err-count-clause-reads c =
    let after = c.take.new.self in
    count_short _ _ (rest after) _ c.from_residual-in_err-count.ensures c.in_ok-code.ensures.prefix
    (not_there after.bytes.now after.place 4 after.end after.within c.in_err-count.ensures.there.1)

pub returns-then-count-gt-MOST_BYTES-clause-reads : goal.returns-then-count-gt-MOST_BYTES-clause-reads
returns-then-count-gt-MOST_BYTES-clause-reads c =
    parts_long None _ (rest c.take.new.self) (rest c.take-2.new.self) _ _ refl c.in_ok-code.ensures.prefix c.in_ok-count.ensures.prefix c.in_ok-code.ensures.bound c.in_ok-count.ensures.bound
    c.if-count-gt-MOST_BYTES.true

pub returns-in_err-number-clause-reads : goal.returns-in_err-number-clause-reads
returns-in_err-number-clause-reads c =
    let after = c.take-2.new.self in
    parts_cut _ _ (rest c.take.new.self) (rest after) _ _ c.from_residual-in_err-number.ensures c.in_ok-code.ensures.prefix c.in_ok-count.ensures.prefix c.in_ok-code.ensures.bound
    c.in_ok-count.ensures.bound (not_there after.bytes.now after.place _ after.end after.within c.in_err-number.ensures.there.1)

pub returns-clause-reads : goal.returns-clause-reads
returns-clause-reads c =
    parts_read _ (rest c.take.new.self) (rest c.take-2.new.self) _ _ _ _ c.in_ok-code.ensures.prefix c.in_ok-count.ensures.prefix c.in_ok-number.ensures.prefix c.in_ok-code.ensures.bound
    c.if-count-gt-MOST_BYTES.false c.in_ok-number.ensures.bound
