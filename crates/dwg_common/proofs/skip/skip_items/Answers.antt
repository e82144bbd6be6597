use Rattle.std.proofs.Common.{rules, arith}
use Rattle.dwg_bits.proofs.BitLaws.{length_of_bits_between}
use Rattle.dwg_grammar.specs.Codes.{bs}
use Rattle.dwg_common.proofs.AppReading.{app_takes}
use Rattle.dwg_common.proofs.UntilReading.{found_parsed, value_takes, unmarked}
use Rattle.dwg_common.proofs.SkipLemmas.{one_skipped, item_there}
use Rattle.dwg_common.specs.AppList.{app_item}
use Rattle.dwg_common.proofs.skip.skip_items.Goals as goal

pub items-preserved : goal.items-preserved
items-preserved c = record {
  so_far = one_skipped c.args.base c.in-Some.size _ _ _ _ (app_takes c.args.base (search)) (unmarked c.in-Some.size c.if-size-eq0.false)
      (found_parsed bs c.parse_code.result c.in-Some.size _ _ c.in-Some.is c.parse_code.ensures.parsed)
      (item_there c.args.base c.in-Some.size _ _ c.skip_item.result tt c.in-Some-skip_item.is c.skip_item.ensures.skipped) c.items.invariant.so_far;
  kept = search rules;
}

pub items-smaller : goal.items-smaller
items-smaller c =
    let before = c.items.cursor in
    let after = c.skip_item.new.cursor in
    let item = item_there c.args.base c.in-Some.size _ _ c.skip_item.result tt c.in-Some-skip_item.is c.skip_item.ensures.skipped in
    omega (
      arith,
      value_takes bs (app_item c.args.base) c.in-Some.size item.0 _ _ _ (app_takes c.args.base (search))
          (found_parsed bs c.parse_code.result c.in-Some.size _ _ c.in-Some.is c.parse_code.ensures.parsed) item.1,
      length_of_bits_between before.bytes.now before.place before.end before.within,
      length_of_bits_between after.bytes.now after.place after.end after.within,
    )
