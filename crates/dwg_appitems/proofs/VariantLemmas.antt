-- A code as one variant of an enum is a code.
use Rattle.std.proofs.Common.{◌≡◌, refl, sym, ◌∙◌, ap, subst, Bool, true, false, List, [], length, Option, Some, ◌≤◌}
use Rattle.std.specs.Prelude.{option_map}
use Rattle.std.specs.Option.{option_map_or}
use Rattle.dwg_grammar.specs.Combinators.{choose}
use Rattle.dwg_grammar.specs.Grammar.{Grammar, IsCode, AnyLetters}
use Rattle.dwg_grammar.proofs.CombinatorLemmas.{IsFound, option_map_some}
use Rattle.dwg_appitems.specs.Items.{variant}

-- it is one where what a value of the variant holds is reported of it
pub variant_is_code : {V W : Type 0} (into : V → W) (inside : W → Option V) (code : Grammar Bool V) → IsCode AnyLetters code → ((held : V) → inside (into held) ≡ Some held)
    → IsCode AnyLetters (variant into inside code)
variant_is_code {V} {W} into inside code is reported = record {
  sound = λ letters rest value text found.
      option_map_some (λ (found : V × List Bool). (into found.0, found.1)) (code.parse letters) (value, rest) found
      (λ pair was same. subst (IsFound (variant into inside code).Spells letters) same (of_sound letters pair (is.sound letters pair.1 pair.0 text was)));
  complete = λ prefix rest value spelled.
      ap (option_map (λ (found : V × List Bool). (into found.0, found.1))) (is.complete prefix rest spelled.0 spelled.2)
      ∙ ap (λ (first : W). Some (first, rest)) (sym spelled.1);
  value = λ prefix value spelled. (spelled.0, spelled.1, is.value prefix spelled.0 spelled.2);
  canonical = λ value fits.
      (fits.0, fits.1, subst (λ (letters : List Bool). code.Spells fits.0 letters) (sym (short_of fits.0 value fits.1)) (is.canonical fits.0 fits.2));
  least = λ prefix value spelled.
      subst (λ (letters : List Bool). length letters ≤ length prefix) (sym (short_of spelled.0 value spelled.1)) (is.least prefix spelled.0 spelled.2);
}
  where
    of_sound : (letters : List Bool) (pair : V × List Bool) → IsFound code.Spells letters pair → IsFound (variant into inside code).Spells letters (into pair.0, pair.1)
    of_sound letters pair found = (found.0, (pair.0, refl, found.1), found.2)

    short_of : (held : V) (value : W) → value ≡ into held → (variant into inside code).short value ≡ code.short held
    short_of held value same =
        ap (λ (one : Option V). option_map_or code.short one []) (ap inside same ∙ reported held)

-- what holds of each of two codes by a test holds of the one that the test chooses
pub of_chosen : {V : Type 0} (Holds : Grammar Bool V → Type 0) (test : Bool) (chosen otherwise : Grammar Bool V)
    → (test ≡ true → Holds chosen) → (test ≡ false → Holds otherwise) → Holds (choose test chosen otherwise)
of_chosen Holds true chosen otherwise first second = first refl
of_chosen Holds false chosen otherwise first second = second refl
