-- A code whose values are seen as a struct by its parts. A rule of this project.
use Rattle.std.proofs.Common.{◌≡◌, sym, subst, Bool}
use Rattle.dwg_grammar.proofs.CombinatorLemmas.{struct_is_code}
use Rattle.dwg_grammar.specs.Grammar.{Grammar, IsCode, AnyLetters}
use Rattle.dwg_grammar.specs.Combinators.{shaped}

-- it is a code where struct and parts follow from each other
pub shaped_is_code : {V W : Type 0} (into : V → W) (back : W → V) (code : Grammar Bool V) → IsCode AnyLetters code
    → ((value : V) → code.IsValue value → back (into value) ≡ value) → ((seen : W) → into (back seen) ≡ seen) → IsCode AnyLetters (shaped into back code)
shaped_is_code {V} {W} into back code is forth again =
    struct_is_code AnyLetters (λ value. code.IsValue (back value)) into back code is
    (λ value fits. subst code.IsValue (sym (forth value fits)) fits)
    (λ seen fits. (fits, again seen))
    forth
