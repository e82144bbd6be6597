use Rattle.std.proofs.Common.{sym, ap, arith}
use Rattle.std.specs.Prelude.{find}
use Rattle.std.specs.List.{range_with_len}
use Rattle.dwg_cert.specs.CertificateLines.{entry_fails}
use Rattle.dwg_cert.proofs.EntryTests.{least_first}
use Rattle.dwg_cert.proofs.EntryReading.{entry_refused, entry_read, least_read, search_goes_on, entries_read}
use Rattle.dwg_cert.proofs.reading.read_entries.Goals as goal

pub entries-init : goal.entries-init
entries-init c = record {
  read = c.in_ok-entries.ensures.empty;
  least = sym (least_first c.args.bytes.now);
  left = ap (λ n. find (entry_fails c.args.bytes.now) (range_with_len 0 n)) (omega arith);
}

pub returns-in_default : goal.returns-in_default
returns-in_default c = record {
  answers = rw c.new.ensures (entry_refused c.args.bytes.now c.entries.index c.args.count c.requires.counted c.entries-test.true c.in_default.ensures.fails c.entries.invariant.left);
}

pub entries-preserved : goal.entries-preserved
entries-preserved c = record {
  read = entry_read c.args.bytes.now c.entries.entries.items c.push.new.self.items c.entries.index c.in-Some.entry c.entries.invariant.read c.in-Some.ensures.passes.1 c.in_ok-push.ensures.items;
  least = least_read c.args.bytes.now c.entries.index c.in-Some.entry c.value-least.result c.in-Some.ensures.passes.1 c.value-least.ensures.value;
  left = search_goes_on c.args.bytes.now c.entries.index c.args.count c.entries-test.true c.in-Some.ensures.passes.0 c.entries.invariant.left;
}

pub returns : goal.returns
returns c = record {
  answers =
      entries_read c.args.bytes.now c.entries.entries.items c.from_vec.result c.entries.index c.args.count c.requires.counted (omega arith) c.entries.invariant.read c.entries.invariant.left
      c.from_vec.ensures;
}
