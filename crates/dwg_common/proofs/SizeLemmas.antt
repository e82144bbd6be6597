-- The bit size in the common parts of AC1014: their main bits begin with what gives it, and so give one.
use Rattle.std.proofs.Common.{◌≡◌, refl, sym, ◌∙◌, ap, subst, ℕ, ◌^◌, ◌<◌, Bool, true, false, List, [], ◌++◌, Option, None}
use Rattle.std.specs.Prelude.{◌==◌}
use Rattle.std.proofs.lemmas.Bool.Decides.{Decides-eqb}
use Rattle.std.proofs.lemmas.List.{append_assoc}
use Rattle.dwg_grammar.specs.Codes.{rl}
use Rattle.dwg_grammar.specs.Grammar.{IsCode, AnyLetters}
use Rattle.dwg_grammar.proofs.CodeLemmas.{unique_of_code}
use Rattle.dwg_common.specs.declared.app_data.AppData.{AppData}
use Rattle.dwg_common.specs.declared.entity.EntityCommon.{EntityCommon}
use Rattle.dwg_common.specs.declared.object.ObjectCommon.{ObjectCommon}
use Rattle.dwg_common.specs.AppListLaws.{app_list_is_code}
use Rattle.dwg_common.specs.BitSizes.{sized_prefix, SpellsSize}
use Rattle.dwg_common.specs.CommonLaws.{graphic_is_code}
use Rattle.dwg_common.specs.Entities.{entity_common}
use Rattle.dwg_common.specs.LawSets.{codes, versions}
use Rattle.dwg_common.specs.Layouts.{older}
use Rattle.dwg_common.specs.NonEntities.{object_common}

-- a number that is known is spelled by its code
of_known : (number inner : ℕ) (letters : List Bool) → (inner == number) ≡ true → rl.Spells inner letters → rl.Spells number letters
of_known number inner letters same spelled = subst (λ (n : ℕ). rl.Spells n letters) ((Decides-eqb inner number).0 same) spelled

-- four pieces, put together from the first
pieces : (one two three four five first second third main : List Bool) → main ≡ first ++ five → first ≡ one ++ second → second ≡ two ++ third → third ≡ three ++ four
    → main ≡ (one ++ (two ++ three)) ++ (four ++ five)
pieces one two three four five first second third main all with_one with_two with_three =
    all ∙ ap (λ (l : List Bool). l ++ five) (with_one ∙ ap (λ (l : List Bool). one ++ l) (with_two ∙ ap (λ (l : List Bool). two ++ l) with_three ∙ sym (append_assoc two three four))
    ∙ sym (append_assoc one (two ++ three) four)) ∙ append_assoc (one ++ (two ++ three)) four five

-- an entity's
pub entity_spells_size : (size base : ℕ) (common : EntityCommon) (main references : List Bool) (over : ℕ)
    → (entity_common (older size) base).Spells common main references over → SpellsSize true base size main
unfolding entity_common
entity_spells_size size base common main references over (parsed, named, same, (first, five, (one, second, app, (two, third, picture, (three, four, known, rest, with_three), with_two), with_one), look, all), names) = record {
  prefix = one ++ (two ++ three);
  after = four ++ five;
  spelled = (parsed.0.0, parsed.0.1.0, (one, two ++ three, app, (two, three, picture, of_known size known.0 three known.2.0 known.2.1, refl), refl));
  whole = pieces one two three four five first second third main all with_one with_two with_three;
}

-- what stands up to the bit size is a code
pub sized_prefix_is_code : (entity : Bool) (base : ℕ) → base < 2 ^ 63 → IsCode AnyLetters (sized_prefix entity base)
sized_prefix_is_code entity base small = search (codes, versions, app_list_is_code, graphic_is_code) depth 8

-- main bits give one bit size
pub one_size : (entity : Bool) (base size other : ℕ) (main : List Bool) → base < 2 ^ 63 → SpellsSize entity base size main → SpellsSize entity base other main → size ≡ other
one_size entity base size other main small is was =
    ap (λ (parsed : List AppData × (Option (List ℕ) × ℕ)). parsed.1.1)
    (unique_of_code AnyLetters (sized_prefix entity base) (sized_prefix_is_code entity base small) (is.spelled.0, (is.spelled.1, size)) (was.spelled.0, (was.spelled.1, other))
    is.prefix was.prefix is.after was.after is.spelled.2 was.spelled.2 (sym is.whole ∙ was.whole)).0

-- another object's
pub object_spells_size : (size base : ℕ) (common : ObjectCommon) (main references : List Bool) (over : ℕ)
    → (object_common (older size) base).Spells common main references over → SpellsSize false base size main
unfolding object_common
object_spells_size size base common main references over (parsed, named, same, (one, second, app, (three, four, known, count, with_three), all), names) = record {
  prefix = one ++ ([] ++ three);
  after = four;
  spelled = (parsed.0, None, (one, [] ++ three, app, ([], three, (refl, refl), of_known size known.0 three known.2.0 known.2.1, refl), refl));
  whole = all ∙ ap (λ (l : List Bool). one ++ l) with_three ∙ sym (append_assoc one three four);
}
