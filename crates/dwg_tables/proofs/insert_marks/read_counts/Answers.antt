use Rattle.std.proofs.Common.{refl, ℕ, arith, rules}
use Rattle.std.specs.Prelude.{◌==◌}
use Rattle.dwg_bits.proofs.BitLaws.{length_of_bits_between}
use Rattle.dwg_grammar.specs.Codes.{rc}
use Rattle.dwg_grammar.specs.Combinators.{always}
use Rattle.dwg_common.proofs.UntilReading.{one_begun, found_parsed, value_takes, unmarked}
use Rattle.dwg_tables.proofs.MarkParts.{counts_take}
use Rattle.dwg_tables.proofs.insert_marks.read_counts.Goals as goal

pub marks-preserved : goal.marks-preserved
marks-preserved c = record {
  so_far = one_begun rc (λ count. count == 0) (λ (count : ℕ). always count) c.marks.counts _ c.in-Some.count c.in-Some.count _ _ _ _ counts_take
      (unmarked c.in-Some.count c.if-count-eq-END_OF_MARKS.false) c.in_ok-try_push.ensures
      (found_parsed rc c.parse_code.result c.in-Some.count _ _ c.in-Some.is c.parse_code.ensures.parsed) refl c.marks.invariant.so_far;
  kept = search rules;
}

pub marks-smaller : goal.marks-smaller
marks-smaller c =
    let before = c.marks.cursor in
    let after = c.parse_code.new.cursor in
    omega (
      arith,
      value_takes rc (λ (count : ℕ). always count) c.in-Some.count c.in-Some.count _ _ _ counts_take
          (found_parsed rc c.parse_code.result c.in-Some.count _ _ c.in-Some.is c.parse_code.ensures.parsed) refl,
      length_of_bits_between before.bytes.now before.place before.end before.within,
      length_of_bits_between after.bytes.now after.place after.end after.within,
    )
