use Rattle.dwg_recover.proofs.CandidatesAlong.{ordered_mapped, ordered_some}
use Rattle.dwg_recover.proofs.WalkAlong.{same_in_ok}
use Rattle.dwg_recover.proofs.candidates.mapped_frames.Goals as goal

pub keep_all-requires : goal.keep_all-requires
keep_all-requires g c = ordered_some c.args.bytes.now c.args.pairs.now _ _ c.in_ok-candidates.ensures.frames c.in_ok-ordered.ensures

pub returns-clause-kept : goal.returns-clause-kept
returns-clause-kept g c =
    same_in_ok (λ kept. kept) _ _ c.keep_all.result (ordered_mapped c.args.bytes.now c.args.pairs.now _ _ c.in_ok-candidates.ensures.frames c.in_ok-ordered.ensures) c.keep_all.ensures
