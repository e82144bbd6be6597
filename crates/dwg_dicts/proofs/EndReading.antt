-- References that were read to the end are what is parsed to the end, and a record is what its parts are.
use Rattle.std.proofs.Common.{◌≡◌, refl, ◌∙◌, ap, ℕ, suc, ◌^◌, ◌<◌, Bool, List, ◌++◌, length, Option, Some, None, arith}
use Rattle.std.specs.Option.{option_map}
use Rattle.std.proofs.lemmas.List.{length-append}
use Rattle.dwg_grammar.specs.ToEnd.{SpellsToEnd, ReadsToEnd}
use Rattle.dwg_grammar.proofs.ToEndBodies.{to_end_sound, to_end_complete}
use Rattle.dwg_grammar.specs.Reference.{Reference}
use Rattle.dwg_grammar.specs.ReferenceCodes.{reference}
use Rattle.dwg_grammar.proofs.ReferenceLemmas.{reference_is_code, reference_least}
use Rattle.dwg_dicts.specs.XRecords.{all_targets}

-- letters that aren't cut to the end are parsed as none
uncut : (base : ℕ) (letters : List Bool) (found : Option (List Reference × List Bool)) → base < 2 ^ 63
    → ((values : List Reference) (over : List Bool) → SpellsToEnd 8 (reference base) values letters over → ⊥) → all_targets base letters ≡ found → found ≡ None
uncut base letters None small none same = refl
uncut base letters (Some one) small none same =
    absurd (none one.0 one.1 (to_end_sound 8 (reference base) (suc (length letters)) letters one (reference_is_code base small) same))

-- what was read to the end is what is parsed
pub all_parsed : (base : ℕ) (found : Option (List Reference)) (old new : List Bool) → base < 2 ^ 63 → ReadsToEnd 8 (reference base) found old new
    → all_targets base old ≡ option_map (λ (values : List Reference). (values, new)) found
all_parsed base (Some values) old new small cut =
    ap (λ (letters : List Bool). all_targets base letters) cut.whole
    ∙ to_end_complete 8 (reference base) values cut.prefix new (suc (length (cut.prefix ++ new))) (reference_is_code base small) (reference_least base) (omega arith) cut.spelled cut.short
    (omega (arith, length-append cut.prefix new))
all_parsed base None old new small (none, same) = uncut base old (all_targets base old) small none refl
