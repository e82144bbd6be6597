use Rattle.std.proofs.Common.{arith}
use Rattle.dwg_codes.proofs.GroupReading.{group_below, last_below, ten_groups}
use Rattle.dwg_codes.proofs.modular.+signed_mc_within.Goals as goal

pub returns-then-byte-lt128-clause-value : goal.returns-then-byte-lt128-clause-value
returns-then-byte-lt128-clause-value t c = last_below 128 c.args.more _ (omega (arith, c.if-more-eq0.false)) (omega arith)

pub overflow_mul-result : goal.overflow_mul-result
overflow_mul-result t c = omega (arith, ten_groups _ _ (omega (arith, c.requires)) c.in_ok-negative.ensures.value)

pub overflow_add-result : goal.overflow_add-result
overflow_add-result t c = omega (arith, ten_groups _ _ (omega (arith, c.requires)) c.in_ok-negative.ensures.value)

pub returns-clause-value : goal.returns-clause-value
returns-clause-value t c = group_below 128 c.args.more _ _ (omega (arith, c.if-more-eq0.false)) (omega arith) c.in_ok-negative.ensures.value
