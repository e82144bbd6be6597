-- What holds of every code: its spellings are distinguished, and what is parsed is what is spelled.
use Rattle.std.proofs.Common.{◌≡◌, refl, sym, ◌∙◌, ap, List, ◌++◌, Option, Some, None}
use Rattle.std.specs.Option.{option_map, option_map_or}
use Rattle.std.proofs.lemmas.List.{append_cancel_right}
use Rattle.std.proofs.lemmas.Option.{some_pair_parts, none-some}
use Rattle.dwg_grammar.specs.Grammar.{Grammar, IsCode, BeginsWith, Reads, IsUnique, IsLawful}

-- what is after a prefix of a text is a text
abbrev pub IsClosed : {A : Type 0} → (List A → Type 0) → Type 0
IsClosed {A} IsText = (prefix rest : List A) → IsText (prefix ++ rest) → IsText rest

-- letters spell at most one value by a code, and no spelling begins another
pub unique_of_code : {A V : Type 0} (IsText : List A → Type 0) (code : Grammar A V) → IsCode IsText code → IsUnique code
unique_of_code {A} {V} IsText code is value other prefix other_prefix rest other_rest spelled other_spelled same =
    let both : ◌≡◌ {A = Option (V × List A)} (Some (value, rest)) (Some (other, other_rest)) =
    sym (is.complete prefix rest value spelled) ∙ ap code.parse same ∙ is.complete other_prefix other_rest other other_spelled in
    let parts : (value ≡ other) × (rest ≡ other_rest) = some_pair_parts value other rest other_rest both in
    (parts.0, append_cancel_right prefix other_prefix other_rest (ap (λ after. prefix ++ after) (sym parts.1) ∙ same))

-- a parse that answers read the value that a prefix spells
pub reads_some : {A V : Type 0} (IsText : List A → Type 0) (code : Grammar A V) (letters rest : List A) (value : V)
    → IsCode IsText code → IsText letters → code.parse letters ≡ Some (value, rest) → Reads code (Some value) letters rest
reads_some IsText code letters rest value is text found = is.sound letters rest value text found

-- a parse that doesn't answer had no prefix that spells a value
pub reads_none : {A V : Type 0} (IsText : List A → Type 0) (code : Grammar A V) (letters : List A)
    → IsCode IsText code → code.parse letters ≡ None → Reads code None letters letters
reads_none {A} {V} IsText code letters is none = (none_begins, refl)
  where
    none_begins : BeginsWith code letters → ⊥
    none_begins (value, prefix, rest, spelled, same) =
        none-some {A = V × List A} (value, rest) (sym none ∙ ap code.parse same ∙ is.complete prefix rest value spelled)

-- what a parse found is what is read, and what is left are the letters after, or all letters
pub reads : {A V : Type 0} (IsText : List A → Type 0) (code : Grammar A V) (letters : List A) (found : Option (V × List A))
    → IsCode IsText code → IsText letters → code.parse letters ≡ found
    → Reads code (option_map (λ (one : V × List A). one.0) found) letters (option_map_or (λ (one : V × List A). one.1) found letters)
reads IsText code letters (Some one) is text same = reads_some IsText code letters one.1 one.0 is text same
reads IsText code letters None is text same = reads_none IsText code letters is same

-- every code is lawful
pub lawful_of_code : {A V : Type 0} (IsText : List A → Type 0) (code : Grammar A V) → IsCode IsText code → IsLawful code
lawful_of_code IsText code is = record {
  unique = unique_of_code IsText code is;
  value = λ value prefix spelled. is.value prefix value spelled;
  canonical = is.canonical;
  shortest = λ value prefix spelled. is.least prefix value spelled;
}
