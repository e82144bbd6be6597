-- Reading and writing a tag and what is after it.
use Rattle.std.proofs.Common.{◌≡◌, refl, sym, ◌∙◌, ap, ap₂, subst, ℕ, ◌+◌, ◌≤◌, Bool, List, ◌++◌, length, Option, Some, None, arith}
use Rattle.std.proofs.lemmas.List.{length-append, append_assoc, append_cancel_left}
use Rattle.dwg_bits.specs.Bits.{low_bits}
use Rattle.dwg_bits.proofs.BitLaws.{length_of_low_bits}
use Rattle.dwg_grammar.specs.Grammar.{Grammar, BeginsWith, Reads, AnyLetters}
use Rattle.dwg_grammar.specs.Combinators.{fixed, tagged}
use Rattle.dwg_grammar.proofs.CodeLemmas.{unique_of_code}
use Rattle.dwg_grammar.proofs.CombinatorLemmas.{fixed_is_code}

-- what is read after a known tag is read by the line of this tag
pub read_at : {V : Type 0} (by : ℕ → Grammar Bool V) (tag known : ℕ) (result read : Option V) (old new : List Bool)
    → tag ≡ known → result ≡ read → Reads (by known) read old new → Reads (by tag) result old new
read_at {V} by tag known result read old new at same reads =
    subst (λ (one : Option V). Reads (by tag) one old new) (sym same) (subst (λ n. Reads (by n) read old new) (sym at) reads)

-- a tag and a value after it are a value by the tag
pub tagged_read : {V : Type 0} (by : ℕ → Grammar Bool V) (IsTagged : V → Type 0) (pick : V → ℕ) (count width tag : ℕ) (value : V) (old mid new : List Bool)
    → count ≡ width → Reads (fixed count) (Some tag) old mid → Reads (by tag) (Some value) mid new → Reads (tagged (fixed width) by IsTagged pick) (Some value) old new
tagged_read by IsTagged pick count width tag value old mid new same first next = (
  first.0 ++ next.0,
  (tag, first.0, next.0, (first.1.0 ∙ same, first.1.1), next.1, refl),
  first.2 ∙ ap (λ rest. first.0 ++ rest) next.2 ∙ sym (append_assoc first.0 next.0 new),
)

-- where nothing is after the tag, there is no value by a tag
pub tagged_unread : {V : Type 0} (by : ℕ → Grammar Bool V) (IsTagged : V → Type 0) (pick : V → ℕ) (count width tag : ℕ) (result : Option V) (old mid left : List Bool)
    → count ≡ width → result ≡ None → Reads (fixed count) (Some tag) old mid → Reads (by tag) None mid left → Reads (tagged (fixed width) by IsTagged pick) result old old
tagged_unread {V} by IsTagged pick count width tag result old mid left same none first next =
    subst (λ (one : Option V). Reads (tagged (fixed width) by IsTagged pick) one old old) (sym none) (begins, refl)
  where
    begins : BeginsWith (tagged (fixed width) by IsTagged pick) old → ⊥
    begins (value, prefix, rest, spelled, whole) =
        let split : old ≡ spelled.1 ++ (spelled.2 ++ rest) = whole ∙ ap (λ all. all ++ rest) spelled.5 ∙ append_assoc spelled.1 spelled.2 rest in
        let one : (tag ≡ spelled.0) × (first.0 ≡ spelled.1) =
        unique_of_code AnyLetters (fixed count) (fixed_is_code count) tag spelled.0 first.0 spelled.1 mid (spelled.2 ++ rest) first.1 (spelled.3.0 ∙ sym same, spelled.3.1) (sym first.2 ∙ split) in
        let after : mid ≡ spelled.2 ++ rest = append_cancel_left first.0 mid (spelled.2 ++ rest) (sym first.2 ∙ split ∙ ap (λ f. f ++ (spelled.2 ++ rest)) (sym one.1)) in
        next.0 (value, spelled.2, rest, subst (λ n. (by n).Spells value spelled.2) (sym one.0) spelled.4, after)

-- a tag and what is after it are as long as both
pub tagged_length : {V : Type 0} (by : ℕ → Grammar Bool V) (value : V) (width tag picked first second : ℕ)
    → first ≡ width → tag ≡ picked → second ≡ length ((by tag).short value) → first + second ≡ length (low_bits width picked ++ (by picked).short value)
tagged_length by value width tag picked first second one same two =
    ap₂ (λ m n. m + n) (one ∙ sym (length_of_low_bits width picked)) (two ∙ ap (λ n. length ((by n).short value)) same)
    ∙ sym (length-append (low_bits width picked) ((by picked).short value))

-- room for a tag and what is after it is room for the tag
pub tag_room : (count width picked spare : ℕ) (more : List Bool) → count ≡ width → length (low_bits width picked ++ more) ≤ spare → count ≤ spare
tag_room count width picked spare more same room = omega (arith, length-append (low_bits width picked) more, length_of_low_bits width picked)
