use Rattle.std.proofs.Common.{take, arith}
use Rattle.std.proofs.lemmas.Result.{err_from_is_err_and}
use Rattle.dwg_objmap.specs.Pages.{handles_of}
use Rattle.dwg_file.proofs.FramesAlong.{frames_refused, frames_on, frames_over}
use Rattle.dwg_file.proofs.frames.read_frames.Goals as goal

pub returns-in_err-read-clause-tried : goal.returns-in_err-read-clause-tried
returns-in_err-read-clause-tried c =
    let p = err_from_is_err_and c.from_residual-in_err-read.result c.from_residual-in_err-read.ensures.1 in
    rw (p.1, p.2)
    (frames_refused c.args.hints.now c.args.bytes.now c.args.pairs.now c.pairs.index c.pairs.read c.index-pairs-index.result _ c.pairs.invariant.along (omega arith) c.index-pairs-index.is
    (c.in_err-read.ensures.goes_on c.pairs.invariant.along.earlier (handles_of (take c.pairs.index c.args.pairs.now)) c.pairs.invariant.along.has_read))

pub pairs-preserved : goal.pairs-preserved
pairs-preserved c =
    record {
      along =
          frames_on c.args.hints.now c.args.bytes.now c.args.pairs.now c.pairs.index c.pairs.read c.index-pairs-index.result c.in_ok-read.read c.pairs.invariant.along (omega arith) c.index-pairs-index.is
          (c.in_ok-read.ensures.goes_on c.pairs.invariant.along.earlier (handles_of (take c.pairs.index c.args.pairs.now)) c.pairs.invariant.along.has_read);
      lent = c.in_ok-read.ensures.lent c.pairs.invariant.lent;
    }

pub returns-clause-tried : goal.returns-clause-tried
returns-clause-tried c = frames_over c.args.hints.now c.args.bytes.now c.args.pairs.now c.pairs.index c.pairs.read c.pairs.invariant.along (omega arith)
