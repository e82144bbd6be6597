-- Values written one after the other, and their bits counted.
use Rattle.std.proofs.Common.{◌≡◌, ℕ, ◌+◌, Bool, List, ◌++◌, length}
use Rattle.dwg_bits.specs.Sink.{Written, Extends}
use Rattle.dwg_grammar.specs.Grammar.{Grammar}
use Rattle.dwg_grammar.specs.ToEnd.{AreValues, short_all}

-- values are counted up to those that are left: so many bits so far and theirs are all
pub record AreCounted {V : Type 0} (code : Grammar Bool V) (values left : List V) (count : ℕ) : Type 0 where
  pub are : AreValues code left
  pub bits : length (short_all code values) ≡ count + length (short_all code left)

-- values are written up to those that are left: the sink grew by so many bits, and these and what is written of those that are left are what is written of all
pub record AreWrittenSoFar {V : Type 0} (code : Grammar Bool V) (values left : List V) (old now : Written) : Type 0 where
  pub done : List Bool
  pub grown : Extends old now done
  pub whole : short_all code values ≡ done ++ short_all code left
  pub are : AreValues code left
