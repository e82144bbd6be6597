use Rattle.std.proofs.Common.{sym, ◌∙◌, arith}
use Rattle.dwg_recover.proofs.ScanAlong.{next_reported, none_reported, scan_begins, scan_whole}
use Rattle.dwg_recover.proofs.scan.with_scanned.Goals as goal

pub frames-init : goal.frames-init
frames-init g c = record { scanned = scan_begins c.args.hints.now c.args.bytes.now c.args.kept.frames 0 c.args.steps.now; objects = c.requires.objects }

pub frames-smaller : goal.frames-smaller
frames-smaller g c =
    let next = next_reported c.args.hints.now c.args.bytes.now c.frames.kept.frames c.frames.place c.frames.steps c.next_scanned.new.steps _ c.in-Some.found c.in-Some.is c.in_ok-found.ensures.next in
    omega (arith, next.after, next.within)

pub returns-in-None-clause-frames : goal.returns-in-None-clause-frames
returns-in-None-clause-frames g c =
    sym (none_reported c.args.hints.now c.args.bytes.now c.frames.kept.frames c.frames.place c.frames.steps c.next_scanned.new.steps _ c.in-None.is c.in_ok-found.ensures.next)
    ∙ c.frames.invariant.scanned.left ∙ scan_whole c.args.hints.now c.args.bytes.now c.args.kept.frames
