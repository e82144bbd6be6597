use Rattle.std.proofs.Common.{rules, arith}
use Rattle.std.specs.Prelude.{◌==◌}
use Rattle.dwg_bits.proofs.BitLaws.{length_of_bits_between}
use Rattle.dwg_grammar.specs.Codes.{bs}
use Rattle.dwg_common.proofs.AppReading.{app_takes}
use Rattle.dwg_common.proofs.UntilReading.{one_begun, found_parsed, value_takes, unmarked}
use Rattle.dwg_common.specs.AppList.{app_item}
use Rattle.dwg_common.proofs.app_list.read_items.Goals as goal

pub items-preserved : goal.items-preserved
items-preserved c = record {
  so_far = one_begun bs (λ size. size == 0) (app_item c.args.base) c.items.found _ c.in-Some.size c.in-Some-2.item _ _ _ _ (app_takes c.args.base (search))
      (unmarked c.in-Some.size c.if-size-eq-MARK.false) c.in_ok-try_push.ensures
      (found_parsed bs c.parse_code.result c.in-Some.size _ _ c.in-Some.is c.parse_code.ensures.parsed)
      (found_parsed (app_item c.args.base c.in-Some.size) c.in_ok-item.field-0 c.in-Some-2.item _ _ c.in-Some-2.is c.in_ok-item.ensures.parsed)
      c.items.invariant.so_far;
  kept = search rules;
}

pub items-smaller : goal.items-smaller
items-smaller c =
    let before = c.items.cursor in
    let after = c.read_item.new.cursor in
    omega (
      arith,
      value_takes bs (app_item c.args.base) c.in-Some.size c.in-Some-2.item _ _ _ (app_takes c.args.base (let w = c.well_formed in search))
          (found_parsed bs c.parse_code.result c.in-Some.size _ _ c.in-Some.is c.parse_code.ensures.parsed)
          (found_parsed (app_item c.args.base c.in-Some.size) c.in_ok-item.field-0 c.in-Some-2.item _ _ c.in-Some-2.is c.in_ok-item.ensures.parsed),
      length_of_bits_between before.bytes.now before.place before.end before.within,
      length_of_bits_between after.bytes.now after.place after.end after.within,
    )
