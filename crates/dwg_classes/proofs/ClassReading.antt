-- Reading a class: what was read of a code is what is parsed by it.
use Rattle.std.proofs.Common.{◌≡◌, refl, sym, ◌∙◌, ap, subst, inl, inr, ℕ, ◌<◌, ◌≤◌, Bool, List, Option, Some, None, arith}
use Rattle.std.specs.Option.{option_map}
use Rattle.std.proofs.lemmas.Bool.Decides.{nat_tests}
use Rattle.dwg_base.specs.Refusals.{IfRefused}
use Rattle.dwg_base.specs.declared.refusal.Fault.{Fault}
use Rattle.dwg_base.specs.declared.refusal.Fault.TheVariants.{Refused}
use Rattle.dwg_grammar.proofs.CodeLemmas.{reads_some, reads_none}
use Rattle.dwg_classes.specs.declared.class.Class.{Class}
use Rattle.dwg_classes.specs.Class.{any_class, numbered_class, LEAST_NUMBER}
use Rattle.dwg_classes.proofs.ClassCode.{any_class_is_code}
use Rattle.dwg_classes.specs.ClassLines.{spelling_refusal, number_refusal, ClassFails}
use Rattle.dwg_grammar.specs.Grammar.{Grammar, IsCode, AnyLetters, BeginsWith, Reads}
use Rattle.dwg_grammar.specs.Codes.{bs, tv, b}
use Rattle.dwg_grammar.proofs.TableLemmas.{bs_is_code, tv_is_code}
use Rattle.dwg_grammar.proofs.TruthCode.{b_is_code}

-- letters that begin with no value are parsed as none
unparsed : {A V : Type 0} (code : Grammar A V) (letters : List A) (found : Option (V × List A)) → IsCode AnyLetters code → (BeginsWith code letters → ⊥) → code.parse letters ≡ found → found ≡ None
unparsed code letters None is none same = refl
unparsed code letters (Some one) is none same = let parts = is.sound letters one.1 one.0 tt same in absurd (none (one.0, parts.0, one.1, parts.1, parts.2))

-- what was read is what is parsed, and what is left are the letters after
parsed : {A V : Type 0} (code : Grammar A V) (found : Option V) (old new : List A) → IsCode AnyLetters code → Reads code found old new
    → code.parse old ≡ option_map (λ (value : V). (value, new)) found
parsed code (Some value) old new is (prefix, spelled, whole) = ap code.parse whole ∙ is.complete prefix new value spelled
parsed code None old new is (none, same) = unparsed code old (code.parse old) is none refl

-- so of a BS
pub bs_parsed : (found : Option ℕ) (old new : List Bool) → Reads bs found old new → bs.parse old ≡ option_map (λ (value : ℕ). (value, new)) found
bs_parsed found old new read = parsed bs found old new bs_is_code read

-- of a TV
pub tv_parsed : (found : Option (List ℕ)) (old new : List Bool) → Reads tv found old new → tv.parse old ≡ option_map (λ (value : List ℕ). (value, new)) found
tv_parsed found old new read = parsed tv found old new tv_is_code read

-- and of a B
pub b_parsed : (found : Option Bool) (old new : List Bool) → Reads b found old new → b.parse old ≡ option_map (λ (value : Bool). (value, new)) found
b_parsed found old new read = parsed b found old new b_is_code read

-- a class that was parsed and whose number is one that classes have was taken
pub class_taken : (class : Class) (old new : List Bool) → any_class.parse old ≡ Some (class, new) → LEAST_NUMBER ≤ class.number → Reads numbered_class (Some class) old new
class_taken class old new found enough =
    let parts = reads_some AnyLetters any_class old new class any_class_is_code tt found in
    (parts.0, (grind (arith, nat_tests), parts.1), parts.2)

-- one that wasn't parsed is refused
pub class_unread : (place index first : ℕ) (old : List Bool) (fault : Fault) → fault ≡ Refused (spelling_refusal place index first) → any_class.parse old ≡ None
    → IfRefused fault (ClassFails place index first old)
class_unread place index first old fault same none =
    subst (λ one. IfRefused one (ClassFails place index first old)) (sym same) (inl (refl, (reads_none AnyLetters any_class old any_class_is_code none).0))

-- and so is one whose number is too small
pub class_too_small : (class : Class) (place index first : ℕ) (old new : List Bool) (fault : Fault) → fault ≡ Refused (number_refusal place index first) → any_class.parse old ≡ Some (class, new)
    → class.number < LEAST_NUMBER → IfRefused fault (ClassFails place index first old)
class_too_small class place index first old new fault same found small =
    let parts = reads_some AnyLetters any_class old new class any_class_is_code tt found in
    let fails : ClassFails place index first old (number_refusal place index first) = inr (refl, class, parts.0, new, parts.1, parts.2, small) in
    subst (λ one. IfRefused one (ClassFails place index first old)) (sym same) fails
