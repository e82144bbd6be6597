-- The random numbers of a made drawing. A rule of this project.
use Rattle.std.specs.Prelude.{ℕ, zero, suc, ◌+◌, ◌*◌, ◌%◌, ◌^◌}

-- the state after a state
unfoldable pub next_state : ℕ → ℕ
next_state state = (state * 1664525 + 1013904223) % 2 ^ 32

-- the state of a number: the seed has number 0
unfoldable pub state_at : ℕ → ℕ → ℕ
state_at seed zero = seed
state_at seed (suc number) = next_state (state_at seed number)

-- the word of a coordinate that a state gives: a number from 64.0 on
abbrev pub word_of : ℕ → ℕ
word_of state = 0x4050000000000000 + state * 65536
