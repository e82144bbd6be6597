-- Application data, read item by item up to the mark.
use Rattle.std.proofs.Common.{ℕ, ◌^◌, ◌<◌, arith}
use Rattle.dwg_grammar.specs.Codes.{bs}
use Rattle.dwg_grammar.proofs.TableLemmas.{bs_is_code}
use Rattle.dwg_grammar.proofs.ToEndLemmas.{bs_least}
use Rattle.dwg_common.specs.AppList.{app_item}
use Rattle.dwg_common.specs.AppListLaws.{app_item_is_code}
use Rattle.dwg_common.proofs.UntilReading.{TakeBits}

-- sizes take bits, and sizes and items are codes
pub app_takes : (base : ℕ) → base < 2 ^ 63 → TakeBits bs (app_item base)
app_takes base small = record {
  tag_is_code = bs_is_code;
  some_bits = λ size prefix spelled. omega (arith, bs_least size prefix spelled);
  value_is_code = λ size. app_item_is_code base size small;
}
