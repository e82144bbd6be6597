-- A pair written after another.
use Rattle.std.proofs.Common.{◌≡◌, sym, ◌∙◌, ap, ap₂, subst, ℕ, ◌+◌, ◌-◌, ◌*◌, ◌≤◌, ◌++◌, length, length-append, arith}
use Rattle.std.specs.Prelude.{ℤ}
use Rattle.dwg_bits.specs.Bits.{bits}
use Rattle.dwg_bits.proofs.BitLaws.{bits_joined, length_of_bits}
use Rattle.dwg_bits.specs.Sink.{Written, Extends}
use Rattle.dwg_bits.proofs.SinkLemmas.{extends_by_both}
use Rattle.dwg_grammar.specs.ModularCodes.{mc, signed_mc}
use Rattle.dwg_objmap.specs.declared.pair.Pair.{Pair}
use Rattle.dwg_objmap.specs.Pairs.{move_between, pair_after}

-- a pair is written by its two steps
pub length_of_pair : (before pair : Pair)
    → length ((pair_after before).short pair) ≡ length (mc.short (pair.handle - before.handle)) + length (signed_mc.short (move_between before.place pair.place))
unfolding pair_after
length_of_pair before pair = length-append (mc.short (pair.handle - before.handle)) (signed_mc.short (move_between before.place pair.place))

-- after the step of the handle there is room for that of the place
pub move_has_room : (first second : Written) (before pair : Pair) (step : ℕ) (move : ℤ) → 8 * length ((pair_after before).short pair) ≤ first.spare → step ≡ pair.handle - before.handle
    → Extends first second (bits (mc.short step)) → move ≡ move_between before.place pair.place → 8 * length (signed_mc.short move) ≤ second.spare
move_has_room first second before pair step move room is_step extends is =
    omega (arith, room, extends.spare, length_of_bits (mc.short step), length_of_pair before pair, ap (λ n. length (mc.short n)) is_step, ap (λ z. length (signed_mc.short z)) is)

-- a sink that grew by both steps grew by the pair
pub pair_extends : (first second third : Written) (before pair : Pair) (step : ℕ) (move : ℤ) → step ≡ pair.handle - before.handle → Extends first second (bits (mc.short step))
    → move ≡ move_between before.place pair.place → Extends second third (bits (signed_mc.short move)) → Extends first third (bits ((pair_after before).short pair))
unfolding pair_after
pair_extends first second third before pair step move is_step one is two =
    subst (Extends first third)
    (sym (bits_joined (mc.short step) (signed_mc.short move)) ∙ ap₂ (λ n z. bits (mc.short n ++ signed_mc.short z)) is_step is)
    (extends_by_both first second third (bits (mc.short step)) (bits (signed_mc.short move)) one two)
