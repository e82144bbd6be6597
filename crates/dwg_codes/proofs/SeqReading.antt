-- Reading one code and then another.
use Rattle.std.proofs.Common.{◌≡◌, refl, sym, ◌∙◌, ap, subst, Bool, List, ◌++◌, Option, Some, None}
use Rattle.std.proofs.lemmas.List.{append_assoc, append_cancel_left}
use Rattle.dwg_grammar.specs.Grammar.{Grammar, IsCode, AnyLetters, BeginsWith, Reads}
use Rattle.dwg_grammar.specs.Combinators.{seq}
use Rattle.dwg_grammar.proofs.CodeLemmas.{unique_of_code}

-- where no value is read, none is read by a code whose spellings are all spellings of a value
pub unread_through : {V W : Type 0} (code : Grammar Bool V) (seen : Grammar Bool W) (result : Option W) (old new : List Bool)
    → ((value : W) (prefix : List Bool) → seen.Spells value prefix → (inner : V) × code.Spells inner prefix)
    → result ≡ None → (BeginsWith code old → ⊥) → new ≡ old → Reads seen result old new
unread_through {V} {W} code seen result old new through none unread same =
    subst (λ (one : Option W). Reads seen one old new) (sym none) (begins, same)
  where
    begins : BeginsWith seen old → ⊥
    begins (value, prefix, rest, spelled, whole) = let inner = through value prefix spelled in unread (inner.0, prefix, rest, inner.1, whole)

-- two values that were read one after the other
pub seq_read : {V W : Type 0} (first : Grammar Bool V) (second : V → Grammar Bool W) (v : V) (w : W) (old mid new : List Bool)
    → Reads first (Some v) old mid → Reads (second v) (Some w) mid new → Reads (seq first second) (Some (v, w)) old new
seq_read first second v w old mid new one two =
    (one.0 ++ two.0, (one.0, two.0, one.1, two.1, refl), one.2 ∙ ap (λ rest. one.0 ++ rest) two.2 ∙ sym (append_assoc one.0 two.0 new))

-- where the first isn't there, both aren't
pub first_unread : {V W : Type 0} (first : Grammar Bool V) (second : V → Grammar Bool W) (old : List Bool) → (BeginsWith first old → ⊥) → BeginsWith (seq first second) old → ⊥
first_unread first second old unread (both, prefix, rest, spelled, whole) =
    unread (both.0, spelled.0, spelled.1 ++ rest, spelled.2, whole ∙ ap (λ all. all ++ rest) spelled.4 ∙ append_assoc spelled.0 spelled.1 rest)

-- where the second isn't after the first, both aren't there
pub second_unread : {V W : Type 0} (first : Grammar Bool V) (second : V → Grammar Bool W) (v : V) (old mid : List Bool) → IsCode AnyLetters first
    → Reads first (Some v) old mid → (BeginsWith (second v) mid → ⊥) → BeginsWith (seq first second) old → ⊥
second_unread first second v old mid is one unread (both, prefix, rest, spelled, whole) =
    let split : old ≡ spelled.0 ++ (spelled.1 ++ rest) = whole ∙ ap (λ all. all ++ rest) spelled.4 ∙ append_assoc spelled.0 spelled.1 rest in
    let same : (v ≡ both.0) × (one.0 ≡ spelled.0) =
    unique_of_code AnyLetters first is v both.0 one.0 spelled.0 mid (spelled.1 ++ rest) one.1 spelled.2 (sym one.2 ∙ split) in
    let after : mid ≡ spelled.1 ++ rest = append_cancel_left one.0 mid (spelled.1 ++ rest) (sym one.2 ∙ split ∙ ap (λ f. f ++ (spelled.1 ++ rest)) (sym same.1)) in
    unread (both.1, spelled.1, rest, subst (λ x. (second x).Spells both.1 spelled.1) (sym same.0) spelled.3, after)
