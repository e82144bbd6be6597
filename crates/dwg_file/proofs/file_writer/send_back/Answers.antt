use Rattle.std.proofs.lemmas.Result.{err_from_is_err_and}
use Rattle.dwg_file.proofs.GivenBytes.{cut_sends, flushed_sends}
use Rattle.dwg_file.proofs.file_writer.send_back.Goals as goal

pub returns-in_err-send_others-clause-bytes : goal.returns-in_err-send_others-clause-bytes
returns-in_err-send_others-clause-bytes g c =
    let p = err_from_is_err_and c.from_residual.result c.from_residual.ensures.1 in
    rw p.1 (cut_sends _ _ c.args.buffer.now _ c.requires (rw c.as_slice.ensures at c.in_err-send_others.ensures.writes))

pub returns-clause-bytes : goal.returns-clause-bytes
returns-clause-bytes g c = flushed_sends _ _ _ c.args.buffer.now _ _ _ c.flush.result c.requires c.flush.ensures.none (rw c.as_slice.ensures at c.in_ok-send_others.ensures.writes) c.flush.ensures.writes
