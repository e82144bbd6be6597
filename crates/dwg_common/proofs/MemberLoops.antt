-- Parts of members, one of each, tried, counted and written one after the other: what loops over them keep.
use Rattle.std.proofs.Common.{◌≡◌, ℕ, ◌+◌, Bool, List, ◌++◌, length, map}
use Rattle.dwg_bits.specs.Sink.{Written, Extends}
use Rattle.dwg_grammar.specs.Grammar.{Grammar}
use Rattle.dwg_grammar.specs.ToEnd.{AreValues, short_all}

-- the parts are values exactly where those that are left are
pub record AreTried {V W : Type 0} (code : Grammar Bool W) (part : V → W) (members left : List V) : Type 0 where
  pub fit : AreValues code (map part left) → AreValues code (map part members)
  pub fitted : AreValues code (map part members) → AreValues code (map part left)

-- parts are counted up to those that are left: so many bits so far and theirs are all
pub record AreCounted {V W : Type 0} (code : Grammar Bool W) (part : V → W) (members left : List V) (count : ℕ) : Type 0 where
  pub are : AreValues code (map part left)
  pub bits : length (short_all code (map part members)) ≡ count + length (short_all code (map part left))

-- parts are written up to those that are left: the sink grew by so many bits, and these and what is written of those that are left are what is written of all
pub record AreWrittenSoFar {V W : Type 0} (code : Grammar Bool W) (part : V → W) (members left : List V) (old now : Written) : Type 0 where
  pub are : AreValues code (map part left)
  pub done : List Bool
  pub grown : Extends old now done
  pub whole : short_all code (map part members) ≡ done ++ short_all code (map part left)
