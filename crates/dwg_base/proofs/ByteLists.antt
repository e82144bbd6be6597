-- When lists are lists of bytes: by their places, and where they are joined.
use Rattle.std.specs.Prelude.{ℕ, zero, suc, ◌<◌, List, [], ◌∷◌, ◌++◌, get_or}
use Rattle.std.proofs.Common.{arith}
use Rattle.dwg_base.specs.Bytes.{AreBytes}

-- what the type of a slice of bytes says by place
pub are_bytes : (bytes : List ℕ) → ((i : ℕ) → get_or bytes i 0 < 256) → AreBytes bytes
are_bytes [] small = tt
are_bytes (byte ∷ bytes) small = (small 0, are_bytes bytes (λ i. small (suc i)))

-- bytes joined are bytes
pub joined_are_bytes : (a b : List ℕ) → AreBytes a → AreBytes b → AreBytes (a ++ b)
joined_are_bytes [] b all all_b = all_b
joined_are_bytes (byte ∷ a) b all all_b = (all.0, joined_are_bytes a b all.1 all_b)

-- each place of a list of bytes has a byte, also past its end
pub byte_below : (bytes : List ℕ) → AreBytes bytes → (i : ℕ) → get_or bytes i 0 < 256
byte_below [] all i = omega arith
byte_below (byte ∷ bytes) all zero = all.0
byte_below (byte ∷ bytes) all (suc i) = byte_below bytes all.1 i
