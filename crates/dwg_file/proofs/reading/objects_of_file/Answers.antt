use Rattle.std.proofs.lemmas.Result.{err_from_is_err_and}
use Rattle.dwg_file.proofs.FileReading.{objects_in, frames_in, objects_hold, map_refused, objects_reported}
use Rattle.dwg_file.proofs.reading.objects_of_file.Goals as goal

pub returns-in_err-pairs-clause-refused : goal.returns-in_err-pairs-clause-refused
returns-in_err-pairs-clause-refused c =
    let p = err_from_is_err_and c.from_residual.result c.from_residual.ensures.1 in
    rw (p.1, p.2) (map_refused c.args.bytes.now _ c.in_err-pairs.ensures.tried)

pub returns-clause-objects : goal.returns-clause-objects
returns-clause-objects c =
    objects_in c.args.classes.now c.args.bytes.now c.in_ok-pairs.pairs c.as_slice.result.now c.in_ok-read.read c.in_ok-pairs.ensures.tried c.as_slice.ensures c.in_ok-read.ensures.tried

pub returns-clause-frames : goal.returns-clause-frames
returns-clause-frames c =
    frames_in c.args.classes.now c.args.bytes.now c.in_ok-pairs.pairs c.as_slice.result.now c.in_ok-read.read c.in_ok-pairs.ensures.tried c.as_slice.ensures c.in_ok-read.ensures.tried

pub returns-clause-holds : goal.returns-clause-holds
returns-clause-holds c =
    objects_hold c.args.classes.now c.args.bytes.now c.in_ok-pairs.pairs c.as_slice.result.now c.in_ok-read.read c.in_ok-pairs.ensures.tried c.as_slice.ensures c.in_ok-read.ensures.tried

pub returns-in_err-read-clause-refused : goal.returns-in_err-read-clause-refused
returns-in_err-read-clause-refused c =
    let p = err_from_is_err_and c.from_residual-in_err-read.result c.from_residual-in_err-read.ensures.1 in
    rw (p.1, p.2)
    (objects_reported c.args.classes.now c.args.bytes.now c.in_ok-pairs.pairs c.as_slice.result.now _ c.in_ok-pairs.ensures.tried c.as_slice.ensures c.in_err-read.ensures.tried)
