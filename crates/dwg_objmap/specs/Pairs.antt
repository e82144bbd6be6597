-- Pairs of the object map: a handle and a place, each written as a step from the pair before (Open Design Specification, "Object map"). The bounds are a rule of this project.
use Rattle.std.specs.Prelude.{◌≡◌, ℕ, suc, ℤ, pos, negsuc, ◌+◌, ◌-◌, ◌^◌, ◌<◌, ◌≤◌, ◌+ℤ◌, List, ◌++◌, Option, Some, None, nat_lt, nat_le, option_map, option_and_then, if◌then◌else◌}
use Rattle.dwg_grammar.specs.Grammar.{Grammar}
use Rattle.dwg_grammar.specs.ModularCodes.{mc, signed_mc}
use Rattle.dwg_objmap.specs.declared.pair.Pair.{Pair}

-- a pair's handle and place lie in their ranges
pub record IsPair (pair : Pair) : Type 0 where
  pub handle : pair.handle < 2 ^ 63
  pub place : pair.place < 2 ^ 63

-- what the first pair of a page is written from
abbrev pub ORIGIN : Pair
ORIGIN = record { handle = 0; place = 0 }

-- bytes spell a pair after another: MC, the step of the handle; signed MC, the step of the place
pub record PairSpells (before pair : Pair) (bytes : List ℕ) : Type 0 where
  pub step : ℕ
  pub move : ℤ
  pub prefix : List ℕ
  pub back : List ℕ
  pub in_range : IsPair pair
  pub handle : pair.handle ≡ before.handle + step
  pub place : pos pair.place ≡ pos before.place +ℤ move
  pub step_spelled : mc.Spells step prefix
  pub move_spelled : signed_mc.Spells move back
  pub whole : bytes ≡ prefix ++ back

-- the place that a step leads to, where it isn't before the begin of the file
abbrev pub moved : ℕ → ℤ → Option ℕ
moved place (pos step) = Some (place + step)
moved place (negsuc less) = if nat_lt less place then Some (place - suc less) else None

-- the step from a place to another
abbrev pub move_between : ℕ → ℕ → ℤ
move_between from to = if nat_le from to then pos (to - from) else negsuc (from - to - 1)

-- the place that a step leads to, where it is in range
abbrev pub place_at_step : ℕ → ℤ → Option ℕ
place_at_step place move = option_and_then (λ to. if nat_lt to (2 ^ 63) then Some to else None) (moved place move)

-- the pair that two steps lead to, where it is in range
abbrev pub pair_at_steps : Pair → ℕ → ℤ → Option Pair
pair_at_steps before step move =
    if nat_lt (before.handle + step) (2 ^ 63) then option_map (λ place. record { handle = before.handle + step; place = place }) (place_at_step before.place move) else None

-- a pair after another as a code over bytes
unfoldable pub pair_after : Pair → Grammar ℕ Pair
pair_after before = record {
  Spells = λ pair bytes. PairSpells before pair bytes;
  IsValue = λ pair. IsPair pair × (before.handle ≤ pair.handle);
  parse = λ bytes.
      option_and_then
      (λ (one : ℕ × List ℕ). option_and_then
      (λ (two : ℤ × List ℕ). option_map (λ (pair : Pair). (pair, two.1)) (pair_at_steps before one.0 two.0))
      (signed_mc.parse one.1))
      (mc.parse bytes);
  short = λ pair. mc.short (pair.handle - before.handle) ++ signed_mc.short (move_between before.place pair.place);
}
