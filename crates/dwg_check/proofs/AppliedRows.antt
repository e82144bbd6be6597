-- What zero bytes make of a check word.
use Rattle.std.specs.Prelude.{ℕ, ◌/◌, ◌%◌, List, [], ◌∷◌, bit_xor, ◌==◌, if◌then◌else◌}

-- what a row makes of a word: the entries of the bits that are set, the lowest first, xored
unfoldable pub applied : List ℕ → ℕ → ℕ
applied [] word = 0
applied (entry ∷ row) word = bit_xor (if word % 2 == 1 then entry else 0) (applied row (word / 2))
