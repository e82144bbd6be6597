use Rattle.std.proofs.Common.{sym, arith, rules, w64}
use Rattle.std.proofs.lemmas.Int.{to_z-of_z}
use mir.Val.{SFits}
use Rattle.dwg_objmap.proofs.PairReading.{no_move, out_of_range, pair_found}
use Rattle.dwg_objmap.proofs.pair.read_pair.Goals as goal

pub returns-in_default-read_signed_mc-clause-none : goal.returns-in_default-read_signed_mc-clause-none
returns-in_default-read_signed_mc-clause-none c =
    no_move c.args.before.now c.args.bytes.now _ _ _ c.in-Some.ensures.reads c.bytes_after-rest.ensures.rest c.in_default-read_signed_mc.ensures.reads (λ i. omega (arith, c.type_inv.bytes i))

pub returns-in_default-pair_at_steps-clause-none : goal.returns-in_default-pair_at_steps-clause-none
returns-in_default-pair_at_steps-clause-none c =
    let fits : SFits w64 c.in-Some-read_signed_mc.move_ = search rules in
    out_of_range c.args.before.now c.args.bytes.now _ _ _ _ _ c.in-Some.ensures.reads c.bytes_after-rest.ensures.rest c.in-Some-read_signed_mc.ensures.reads
    (sym (simp to_z-of_z at c.in_default-pair_at_steps.ensures))

pub returns-clause-found : goal.returns-clause-found
returns-clause-found c =
    let fits : SFits w64 c.in-Some-read_signed_mc.move_ = search rules in
    pair_found c.args.before.now _ c.args.bytes.now _ _ _ _ _ c.in-Some.ensures.reads c.bytes_after-rest.ensures.rest c.in-Some-read_signed_mc.ensures.reads
    (sym (simp to_z-of_z at c.in-Some-pair_at_steps.ensures))
