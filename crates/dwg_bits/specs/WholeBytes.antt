-- The bytes of a list of bits, eight bits a byte. A rule of this project.
use Rattle.std.proofs.Common.{ℕ, Bool, List, [], ◌∷◌}
use Rattle.dwg_bits.specs.Bits.{num}

-- the bytes whose bits these are; bits after the last whole byte are left out
unfoldable pub whole_bytes : List Bool → List ℕ
whole_bytes (a ∷ b ∷ c ∷ d ∷ e ∷ f ∷ g ∷ h ∷ rest) = num (a ∷ b ∷ c ∷ d ∷ e ∷ f ∷ g ∷ h ∷ []) ∷ whole_bytes rest
whole_bytes _ = []
