use Rattle.dwg_recover.proofs.ScanAlong.{next_found, scan_goes_on, scan_passes}
use Rattle.dwg_recover.proofs.ScanReading.{kept_at, none_at}
use Rattle.dwg_recover.proofs.scan.next_scanned.Goals as goal

pub places-preserved-then-place-after : goal.places-preserved-then-place-after
places-preserved-then-place-after g c = record {
  scanned =
      scan_passes c.args.hints.now c.args.bytes.now c.args.kept.now c.args.from c.args.kept.now c.places.place c.after-after.result c.args.steps.now c.places.steps
      c.places.invariant.scanned c.after-after.ensures.after c.after-after.ensures.taken;
}

pub returns-in-Some-clause-next : goal.returns-in-Some-clause-next
returns-in-Some-clause-next g c =
    next_found c.args.hints.now c.args.bytes.now c.args.kept.now c.args.from c.places.place c.args.steps.now c.places.steps c.scan_place.new.steps c.in-Some.found c.places.invariant.scanned
    c.places-test.true (kept_at c.args.hints.now c.args.bytes.now c.args.kept.now c.places.place _ c.in-Some.found c.in-Some.is c.in_ok-found.ensures.found) c.in_ok-found.ensures.steps

pub places-preserved : goal.places-preserved
places-preserved g c = record {
  scanned =
      scan_goes_on c.args.hints.now c.args.bytes.now c.args.kept.now c.args.from c.args.kept.now c.args.kept.now c.places.place c.args.steps.now c.places.steps c.scan_place.new.steps
      c.places.invariant.scanned c.places-test.true (none_at c.args.hints.now c.args.bytes.now c.args.kept.now c.places.place _ c.in-None.is c.in_ok-found.ensures.found) c.in_ok-found.ensures.steps;
}
