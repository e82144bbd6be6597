use Rattle.std.proofs.Common.{◌≡◌, ◌+◌, ◌-◌, ◌<◌, ℕ, arith}
use Rattle.dwg_bits.specs.Sink.{missing_bits}
use Rattle.dwg_bits.proofs.Filling.{none_put, all_appended, all_completed, both_put, raised_whole, highest_fits, byte_at_most}
use Rattle.dwg_bits.proofs.WordParts.{shifted_fits}
use Rattle.dwg_bits.proofs.fill.put.Goals as goal

pub returns-then-width-eq0-clause-bits : goal.returns-then-width-eq0-clause-bits
returns-then-width-eq0-clause-bits c = none_put _ c.args.count c.args.value c.args.width c.requires.filled c.if-width-eq0.true

pub returns-then-free-eq0-clause-bits : goal.returns-then-free-eq0-clause-bits
returns-then-free-eq0-clause-bits c = all_appended _ _ c.args.count c.args.value c.args.width c.requires.filled (omega (arith, c.if-free-eq0.true)) c.append.ensures.bits

pub overflow_cast-value : goal.overflow_cast-value
overflow_cast-value c =
    let free : ℕ = missing_bits c.args.count in
    let whole : c.args.width + (free - c.args.width) ≡ free = omega (arith, c.if-width-free.true) in
    let few : free < 8 = omega arith in
    omega (arith, raised_whole c.args.value c.args.width (free - c.args.width) free whole few c.requires.value, shifted_fits c.args.value c.args.width (free - c.args.width) free c.requires.value whole, byte_at_most free few)

pub complete-requires-clause-low : goal.complete-requires-clause-low
complete-requires-clause-low c =
    let free : ℕ = missing_bits c.args.count in
    let whole : c.args.width + (free - c.args.width) ≡ free = omega (arith, c.if-width-free.true) in
    let few : free < 8 = omega arith in
    omega (arith, raised_whole c.args.value c.args.width (free - c.args.width) free whole few c.requires.value, shifted_fits c.args.value c.args.width (free - c.args.width) free c.requires.value whole)

pub returns-then-width-free-clause-bits : goal.returns-then-width-free-clause-bits
returns-then-width-free-clause-bits c =
    let free : ℕ = missing_bits c.args.count in
    let whole : c.args.width + (free - c.args.width) ≡ free = omega (arith, c.if-width-free.true) in
    all_completed _ _ c.args.count c.args.value c.args.width (free - c.args.width) _ c.requires.filled whole c.if-width-eq0.false
    (raised_whole c.args.value c.args.width (free - c.args.width) free whole (omega arith) c.requires.value) c.complete.ensures.bits

pub overflow_cast-value-2 : goal.overflow_cast-value-2
overflow_cast-value-2 c =
    let free : ℕ = missing_bits c.args.count in
    let few : free < 8 = omega arith in
    omega (arith, highest_fits c.args.value c.args.width free (c.args.width - free) (omega (arith, c.if-width-free.false)) c.requires.value, byte_at_most free few)

pub complete-requires-2-clause-low : goal.complete-requires-2-clause-low
complete-requires-2-clause-low c =
    highest_fits c.args.value c.args.width (missing_bits c.args.count) (c.args.width - missing_bits c.args.count) (omega (arith, c.if-width-free.false)) c.requires.value

pub returns-clause-bits : goal.returns-clause-bits
returns-clause-bits c =
    both_put _ _ _ c.args.count c.args.value c.args.width (c.args.width - missing_bits c.args.count) c.requires.filled (omega (arith, c.if-free-eq0.false)) (omega (arith, c.if-width-free.false))
    c.complete-2.ensures.bits c.append-2.ensures.bits
