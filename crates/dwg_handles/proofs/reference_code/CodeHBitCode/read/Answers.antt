use Rattle.dwg_handles.proofs.ReferenceReading.{ref_read, ref_unresolved}
use Rattle.dwg_handles.proofs.reference_code.CodeHBitCode.read.Goals as goal

pub returns-in_err-target-clause-reads : goal.returns-in_err-target-clause-reads
returns-in_err-target-clause-reads c =
    ref_unresolved _ _ c.in_ok-parts.parts _ _ c.from_residual-in_err-target.ensures c.in_ok-parts.ensures.reads c.in_err-target.ensures.unresolved

pub returns-clause-reads : goal.returns-clause-reads
returns-clause-reads c = ref_read _ _ c.in_ok-parts.parts _ _ c.in_ok-parts.ensures.reads c.in_ok-target.ensures.resolved
