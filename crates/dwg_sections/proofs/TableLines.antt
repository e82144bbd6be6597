-- Lines of the table of refusals: what it means that one fails, and that none of several does.
use Rattle.std.proofs.Common.{◌≡◌, ℕ, Bool, true, false, not, List, Option, Some, None, refl, bytes_eq}
use Rattle.std.specs.Option.{option_or}
use Rattle.std.proofs.lemmas.Bool.{not-false, not_from_true}
use Rattle.std.proofs.lemmas.Slice.Eq.{bytes_eq-Decides}
use Rattle.dwg_base.specs.Refusals.{refuse_if}

-- a line that does not refuse has its test false
pub no_refusal : (test : Bool) (line index place : ℕ) → refuse_if test line index place ≡ None → test ≡ false
no_refusal false line index place none = refl
no_refusal true line index place none = absurd cc

-- a line whose test is false does not refuse
pub keeps : (test : Bool) (line index place : ℕ) → test ≡ false → refuse_if test line index place ≡ None
keeps false line index place holds = refl
keeps true line index place holds = absurd cc

-- no refusal of two is none of either
pub both_none : {T : Type 0} (first second : Option T) → option_or first second ≡ None → (first ≡ None) × (second ≡ None)
both_none None second none = (refl, none)
both_none (Some refusal) second none = absurd cc

-- none of either is no refusal of two
pub none_of_both : {T : Type 0} (first second : Option T) → first ≡ None → second ≡ None → option_or first second ≡ None
none_of_both None second here after = after
none_of_both (Some refusal) second here after = absurd cc

-- two lists of bytes that compare as equal are equal
pub same_bytes : (a b : List ℕ) → not (bytes_eq a b) ≡ false → a ≡ b
same_bytes a b test = (bytes_eq-Decides a b).0 (not-false _ test)

-- equal lists of bytes compare as equal
pub bytes_same : (a b : List ℕ) → a ≡ b → not (bytes_eq a b) ≡ false
bytes_same a b same = not_from_true _ ((bytes_eq-Decides a b).1 same)
