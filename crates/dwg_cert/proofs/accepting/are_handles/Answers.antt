use Rattle.std.proofs.Common.{◌≡◌, ◌<◌, refl, true, false, length, map, arith}
use Rattle.std.specs.Prelude.{◌==◌}
use Rattle.std.proofs.lemmas.Bool.Decides.{nat_tests}
use Rattle.std.proofs.lemmas.List.{length-map}
use Rattle.std.proofs.lemmas.Option.{slice_get_read}
use Rattle.dwg_cert.proofs.Checking.{handles_further, no_handles, other_lengths}
use Rattle.dwg_graph.proofs.Counting.{value_there}
use Rattle.dwg_object.specs.Objects.{handle_of, value_of}
use Rattle.dwg_cert.proofs.accepting.are_handles.Goals as goal

pub returns-then-entries-objects : goal.returns-then-entries-objects
returns-then-entries-objects c =
    other_lengths c.args.entries.now (map value_of c.args.objects.now) (λ same. absurd (omega (arith, same, length-map c.args.objects.now value_of, c.if-entries-objects.true)))

pub returns-then-ne : goal.returns-then-ne
returns-then-ne c =
    let entry = c.index-entries-i.result in
    let object = c.index-objects-i.result in
    let within : c.entries.i < length c.args.objects.now = omega (arith, c.entries-test.true, c.if-entries-objects.false) in
    let other : (entry.handle == handle_of (value_of object)) ≡ false = grind (arith, nat_tests, c.if-ne.true, c.if-ne.ensures, c.handle.ensures) in
    handles_further c.args.entries.now (map value_of c.args.objects.now) c.entries.i entry (value_of object) false _
    (slice_get_read c.args.entries.now (length c.args.entries.now) c.entries.i entry refl c.entries-test.true c.index-entries-i.is)
    (value_there c.args.objects.now c.entries.i object within c.index-objects-i.is) other c.entries.invariant

pub entries-preserved : goal.entries-preserved
entries-preserved c =
    let entry = c.index-entries-i.result in
    let object = c.index-objects-i.result in
    let within : c.entries.i < length c.args.objects.now = omega (arith, c.entries-test.true, c.if-entries-objects.false) in
    let same : (entry.handle == handle_of (value_of object)) ≡ true = grind (arith, nat_tests, c.if-ne.false, c.if-ne.ensures, c.handle.ensures) in
    handles_further c.args.entries.now (map value_of c.args.objects.now) c.entries.i entry (value_of object) true _
    (slice_get_read c.args.entries.now (length c.args.entries.now) c.entries.i entry refl c.entries-test.true c.index-entries-i.is)
    (value_there c.args.objects.now c.entries.i object within c.index-objects-i.is) same c.entries.invariant

pub returns : goal.returns
returns c =
    no_handles c.args.entries.now (map value_of c.args.objects.now) c.entries.i _ (omega (arith, c.entries-test.false))
    (omega (arith, c.entries-test.false, c.if-entries-objects.false, length-map c.args.objects.now value_of)) c.entries.invariant
