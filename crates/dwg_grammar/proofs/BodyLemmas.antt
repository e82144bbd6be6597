-- What holds of every body: its spellings are distinguished, and what is parsed is what is spelled.
use Rattle.std.proofs.Common.{◌≡◌, sym, ◌∙◌, ap, ap₂, ℕ, Bool, List, Option, Some}
use Rattle.std.proofs.lemmas.Option.{some_pair_parts}
use Rattle.dwg_grammar.specs.Bodies.{BodyGrammar, BeginsWithBody, IsBody, IsUniqueBody, IsFreeBody, IsLawfulBody}

-- what begins with a body is parsed
pub begins_parsed : {V : Type 0} (base : ℕ) (body : BodyGrammar V) (value : V) (main main_left references references_left : List Bool) → IsBody base body
    → BeginsWithBody body value main main_left references references_left → body.parse main references ≡ Some (value, (main_left, references_left))
begins_parsed base body value main main_left references references_left is begins =
    ap₂ body.parse begins.main_whole begins.references_whole ∙ is.complete begins.main_prefix main_left begins.reference_prefix references_left value begins.spelled

-- main bits and reference bits spell at most one value by their prefixes
pub unique_body : {V : Type 0} (base : ℕ) (body : BodyGrammar V) → IsBody base body → IsUniqueBody body
unique_body {V} base body is value other main main_left other_main_left references references_left other_references_left begins begins_other =
    let both : ◌≡◌ {A = Option (V × (List Bool × List Bool))} (Some (value, (main_left, references_left))) (Some (other, (other_main_left, other_references_left))) =
    sym (begins_parsed base body value main main_left references references_left is begins)
    ∙ begins_parsed base body other main other_main_left references other_references_left is begins_other in
    let parts : (value ≡ other) × (◌≡◌ {A = List Bool × List Bool} (main_left, references_left) (other_main_left, other_references_left)) =
    some_pair_parts value other (main_left, references_left) (other_main_left, other_references_left) both in
    let after : (main_left ≡ other_main_left) × (references_left ≡ other_references_left) =
    some_pair_parts main_left other_main_left references_left other_references_left (ap (λ (pair : List Bool × List Bool). Some pair) parts.1) in
    (parts.0, after.0, after.1)

-- every body is lawful
pub lawful_of_body : {V : Type 0} (base : ℕ) (body : BodyGrammar V) → IsBody base body → IsLawfulBody base body
lawful_of_body base body is = record {
  unique = unique_body base body is;
  value = is.value;
  canonical = is.canonical;
  shortest = is.least_main;
  shortest_references = is.least_references;
  listed = is.listed;
  respelled = is.respelled;
  padded = is.padded;
}

-- every body is one where any count may follow
pub free_of_body : {V : Type 0} (base : ℕ) (body : BodyGrammar V) → IsBody base body → ((over : ℕ) → body.MayFollow over) → IsFreeBody base body
free_of_body base body is may = record { lawful = lawful_of_body base body is; followed = may }
