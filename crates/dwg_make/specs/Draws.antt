-- What the random numbers of one entity give. A rule of this project.
use Rattle.std.specs.Prelude.{ℕ, ◌-◌, ◌*◌, ◌%◌}
use Rattle.dwg_make.specs.Random.{state_at, word_of}
use Rattle.dwg_make.specs.declared.random.Draw.{Draw}

-- how many random numbers an entity uses
abbrev pub STATES_OF_ENTITY : ℕ
STATES_OF_ENTITY = 9

-- the draw of the nine states after a state
unfoldable pub draw_from : ℕ → Draw
draw_from state = record {
  choice = state_at state 1 % 6;
  w2 = word_of (state_at state 2);
  w3 = word_of (state_at state 3);
  w4 = word_of (state_at state 4);
  w5 = word_of (state_at state 5);
  w6 = word_of (state_at state 6);
  w7 = word_of (state_at state 7);
  w8 = word_of (state_at state 8);
  w9 = word_of (state_at state 9);
}

-- the draw of the further entity of a number, from 1 on: the first uses the nine states after the seed, and each other the nine after those of the one before it
abbrev pub draw_of : ℕ → ℕ → Draw
draw_of seed number = draw_from (state_at seed (STATES_OF_ENTITY * (number - 1)))
