-- What holds of pieces that are sent one after the other.
use Rattle.std.proofs.Common.{sym, ◌∙◌, ap, ℕ, List, ◌++◌, append_assoc}
use Rattle.std.proofs.KnownBytes.{Appends-trans}
use Rattle.std.specs.Prelude.{Option, Result, Ok, Err}
use Rattle.std.specs.Io.KnownBytes.{Appends}
use Rattle.dwg_base.specs.Devices.{AppendsPrefix, Sends}

-- a piece and then another are both
pub sends_both : {T E : Type 0} (a b c : Option (List ℕ)) (first second : List ℕ) (result : Result T E) → Appends a b first → Sends b c second result → Sends a c (first ++ second) result
sends_both a b c first second (Ok value) sent sends = Appends-trans a b c first second sent sends
sends_both a b c first second (Err fault) sent (prefix, (rest, same), took) =
    (first ++ prefix, (rest, ap (λ all. first ++ all) same ∙ sym (append_assoc first prefix rest)), Appends-trans a b c first prefix sent took)

-- a prefix of a piece is a prefix of the piece and another
pub prefix_of_both : (a b : Option (List ℕ)) (first second : List ℕ) → AppendsPrefix a b first → AppendsPrefix a b (first ++ second)
prefix_of_both a b first second (prefix, (rest, same), took) = (prefix, (rest ++ second, ap (λ all. all ++ second) same ∙ append_assoc prefix rest second), took)
