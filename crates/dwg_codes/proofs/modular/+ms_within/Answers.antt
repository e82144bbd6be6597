use Rattle.std.proofs.Common.{arith}
use Rattle.dwg_codes.proofs.GroupReading.{group_below, last_below}
use Rattle.dwg_codes.proofs.ShortReading.{three_groups, ms_cut, ms_found}
use Rattle.dwg_codes.proofs.PrefixReading.{if_none}
use Rattle.dwg_codes.proofs.modular.+ms_within.Goals as goal

pub returns-then-group-lt32768-clause-value : goal.returns-then-group-lt32768-clause-value
returns-then-group-lt32768-clause-value t c = last_below 32768 c.args.more _ (omega (arith, c.if-more-eq0.false)) c.if-group-lt32768.true

pub overflow_mul-result : goal.overflow_mul-result
overflow_mul-result t c = omega (arith, three_groups _ _ (omega (arith, c.requires)) c.in_ok-high.ensures.value)

pub overflow_add-result : goal.overflow_add-result
overflow_add-result t c = omega (arith, three_groups _ _ (omega (arith, c.requires)) c.in_ok-high.ensures.value, c.in_ok-group.ensures.value)

pub returns-clause-value : goal.returns-clause-value
returns-clause-value t c =
    group_below 32768 c.args.more _ _ (omega (arith, c.if-more-eq0.false)) (omega (arith, c.in_ok-group.ensures.value)) c.in_ok-high.ensures.value

pub returns-in_err-high-clause-none : goal.returns-in_err-high-clause-none
returns-in_err-high-clause-none t c =
    if_none _ _
    (ms_cut c.args.more c.in_ok-group.group c.args.bytes.now c.in_ok-group.rest.now (omega (arith, c.if-more-eq0.false)) c.in_ok-group.ensures.found
    (omega (arith, c.if-group-lt32768.false)) c.in_err-high.ensures.none)

pub returns-clause-found : goal.returns-clause-found
returns-clause-found t c =
    ms_found c.args.more c.in_ok-group.group c.in_ok-high.high c.in_ok-high.used c.args.bytes.now c.in_ok-group.rest.now (omega (arith, c.if-more-eq0.false))
    c.in_ok-group.ensures.found c.in_ok-group.ensures.rest (omega (arith, c.if-group-lt32768.false)) c.in_ok-high.ensures.found
