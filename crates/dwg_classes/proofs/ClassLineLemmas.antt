-- What is tried class by class answers what a content is cut into, or the first class that fails a line.
use Rattle.std.proofs.Common.{◌≡◌, refl, sym, ◌∙◌, ap, ap₂, subst, inl, inr, ℕ, zero, suc, ◌+◌, ◌-◌, ◌<◌, ◌≤◌, Bool, true, false, List, [], ◌∷◌, ◌++◌, length, Option, Some, None, arith}
use Rattle.std.specs.Prelude.{◌↔◌, nat_lt, Ok, Err, if◌then◌else◌}
use Rattle.std.proofs.lemmas.Bool.Decides.{nat_tests}
use Rattle.std.proofs.lemmas.List.{append_assoc, append_cancel_left, length-append}
use Rattle.dwg_base.specs.Refusals.{Tried}
use Rattle.dwg_base.specs.Refusal.{Refusal}
use Rattle.dwg_bits.specs.Bits.{bits}
use Rattle.dwg_grammar.specs.Grammar.{Grammar, IsCode, AnyLetters, BeginsWith}
use Rattle.dwg_grammar.proofs.CodeLemmas.{unique_of_code, reads_some, reads_none}
use Rattle.dwg_grammar.specs.ToEnd.{SpellsAll}
use Rattle.dwg_grammar.proofs.ToEndLemmas.{all_to_end, spells_one_more, no_cut_to_end}
use Rattle.dwg_classes.specs.declared.class.Class.{Class}
use Rattle.dwg_classes.specs.Class.{any_class, numbered_class, LEAST_BITS, LEAST_NUMBER, AreClasses}
use Rattle.dwg_classes.specs.ClassLines.{spelling_refusal, number_refusal, ClassFails, RefusesClass, with_class, classes_after, tried_classes}
use Rattle.dwg_classes.proofs.ClassCode.{any_class_is_code, numbered_class_is_code, class_least, classes_cut_uniquely}

-- two spellings of values before the same letters, after each of which no other value is spelled, spell the same values and leave the same letters
stuck_alike : {A V : Type 0} (IsText : List A → Type 0) (code : Grammar A V) → IsCode IsText code
    → (values others : List V) (prefix rest other_prefix other_rest : List A) → SpellsAll code values prefix → SpellsAll code others other_prefix → prefix ++ rest ≡ other_prefix ++ other_rest
    → (BeginsWith code rest → ⊥) → (BeginsWith code other_rest → ⊥) → (values ≡ others) × (rest ≡ other_rest)
stuck_alike IsText code is [] [] prefix rest other_prefix other_rest spelled other_spelled same none other_none =
    (refl, ap (λ first. first ++ rest) (sym spelled) ∙ same ∙ ap (λ first. first ++ other_rest) other_spelled)
stuck_alike IsText code is [] (other ∷ others) prefix rest other_prefix other_rest spelled (first, back, one, more, whole) same none other_none =
    absurd (none (
      other,
      first,
      back ++ other_rest,
      one,
      ap (λ all. all ++ rest) (sym spelled) ∙ same ∙ ap (λ all. all ++ other_rest) whole ∙ append_assoc first back other_rest,
    ))
stuck_alike IsText code is (value ∷ values) [] prefix rest other_prefix other_rest (first, back, one, more, whole) other_spelled same none other_none =
    absurd (other_none (
      value,
      first,
      back ++ rest,
      one,
      ap (λ all. all ++ other_rest) (sym other_spelled) ∙ sym same ∙ ap (λ all. all ++ rest) whole ∙ append_assoc first back rest,
    ))
stuck_alike IsText code is (value ∷ values) (other ∷ others) prefix rest other_prefix other_rest (first, back, one, more, whole) (other_first, other_back, other_one, other_more, other_whole) same none other_none =
    let joined : first ++ (back ++ rest) ≡ other_first ++ (other_back ++ other_rest) =
    sym (append_assoc first back rest) ∙ ap (λ all. all ++ rest) (sym whole) ∙ same ∙ ap (λ all. all ++ other_rest) other_whole ∙ append_assoc other_first other_back other_rest in
    let alike = unique_of_code IsText code is value other first other_first (back ++ rest) (other_back ++ other_rest) one other_one joined in
    let after : back ++ rest ≡ other_back ++ other_rest =
    append_cancel_left first (back ++ rest) (other_back ++ other_rest) (joined ∙ ap (λ all. all ++ (other_back ++ other_rest)) (sym alike.1)) in
    let further = stuck_alike IsText code is values others back rest other_back other_rest more other_more after none other_none in
    (ap₂ ◌∷◌ alike.0 further.0, further.1)

-- a class with a number is a class
begins_with_any : (letters : List Bool) → BeginsWith numbered_class letters → BeginsWith any_class letters
begins_with_any letters (class, prefix, rest, spelled, whole) = (class, prefix, rest, spelled.1, whole)

-- where a class is spelled whose number is too small, no class with a number is spelled
small_unread : (class : Class) (spelling after letters : List Bool) → any_class.Spells class spelling → letters ≡ spelling ++ after → class.number < LEAST_NUMBER → BeginsWith numbered_class letters → ⊥
small_unread class spelling after letters spelled same small (other, prefix, rest, other_spelled, whole) =
    let alike = unique_of_code AnyLetters any_class any_class_is_code class other spelling prefix after rest spelled other_spelled.1 (sym same ∙ whole) in
    let enough : LEAST_NUMBER ≤ other.number = let passed = other_spelled.0 in grind (arith, nat_tests) in
    omega (arith, enough, small, ap (λ (one : Class). one.number) alike.0)

-- where the next class fails, no class with a number is spelled
failed_unread : (place index first : ℕ) (rest : List Bool) (refusal : Refusal) → ClassFails place index first rest refusal → BeginsWith numbered_class rest → ⊥
failed_unread place index first rest refusal (inl (same, none)) begins = none (begins_with_any rest begins)
failed_unread place index first rest refusal (inr (same, class, spelling, after, spelled, whole, small)) begins =
    small_unread class spelling after rest spelled whole small begins

-- the next class fails in one way
fails_alike : (place index first : ℕ) (rest : List Bool) (refusal other : Refusal) → ClassFails place index first rest refusal → ClassFails place index first rest other → refusal ≡ other
fails_alike place index first rest refusal other (inl (same, none)) (inl (other_same, other_none)) = same ∙ sym other_same
fails_alike place index first rest refusal other (inl (same, none)) (inr (other_same, class, spelling, after, spelled, whole, small)) =
    absurd (none (class, spelling, after, spelled, whole))
fails_alike place index first rest refusal other (inr (same, class, spelling, after, spelled, whole, small)) (inl (other_same, other_none)) =
    absurd (other_none (class, spelling, after, spelled, whole))
fails_alike place index first rest refusal other (inr number) (inr other_number) = number.0 ∙ sym other_number.0

-- a content has one refusal at the most
refusals_alike : (place : ℕ) (content : List ℕ) (refusal other : Refusal) → RefusesClass place content refusal → RefusesClass place content other → refusal ≡ other
refusals_alike place content refusal other refuses others =
    let alike = stuck_alike AnyLetters numbered_class numbered_class_is_code refuses.before others.before refuses.prefix refuses.rest others.prefix others.rest refuses.spelled others.spelled
    (sym refuses.whole ∙ others.whole) (failed_unread place (length refuses.before) (length refuses.prefix) refuses.rest refusal refuses.fails)
    (failed_unread place (length others.before) (length others.prefix) others.rest other others.fails) in
    let prefix : length refuses.prefix ≡ length others.prefix =
    omega (arith, ap length (sym refuses.whole ∙ others.whole), ap length alike.1, length-append refuses.prefix refuses.rest, length-append others.prefix others.rest) in
    let fails : ClassFails place (length others.before) (length others.prefix) others.rest refusal =
    subst (λ index. ClassFails place index (length others.prefix) others.rest refusal) (ap length alike.0)
    (subst (λ first. ClassFails place (length refuses.before) first others.rest refusal) prefix
    (subst (λ rest. ClassFails place (length refuses.before) (length refuses.prefix) rest refusal) alike.1 refuses.fails)) in
    fails_alike place (length others.before) (length others.prefix) others.rest refusal other fails others.fails

-- a content that has a refusal is cut into no classes
refused_uncut : (place : ℕ) (content : List ℕ) (refusal : Refusal) (classes : List Class) → RefusesClass place content refusal → AreClasses content classes → ⊥
refused_uncut place content refusal classes refuses (slack, cut) =
    no_cut_to_end AnyLetters LEAST_BITS numbered_class numbered_class_is_code refuses.before (bits content) refuses.prefix refuses.rest refuses.spelled refuses.whole refuses.more
    (failed_unread place (length refuses.before) (length refuses.prefix) refuses.rest refusal refuses.fails) classes slack cut

-- a content is cut into classes in one way at the most
pub classes_alike : (content : List ℕ) (classes others : List Class) → AreClasses content classes → AreClasses content others → classes ≡ others
classes_alike content classes others (slack, cut) (other_slack, other_cut) = (classes_cut_uniquely classes others (bits content) slack other_slack cut other_cut).0

-- what was tried says of a content what holds of it
abbrev Holds : ℕ → List ℕ → Tried (List Class) → Type 0
Holds place content (Ok classes) = AreClasses content classes
Holds place content (Err refusal) = RefusesClass place content refusal

-- a choice holds where both its branches do
holds_by : (place : ℕ) (content : List ℕ) (chosen otherwise : Tried (List Class)) (test : Bool)
    → (test ≡ true → Holds place content chosen) → (test ≡ false → Holds place content otherwise) → Holds place content (if test then chosen else otherwise)
holds_by place content chosen otherwise true first second = first refl
holds_by place content chosen otherwise false first second = second refl

-- the class after those that are spelled is refused where it fails a line at the first bit after them
refused_after : (place : ℕ) (content : List ℕ) (before : List Class) (prefix rest : List Bool) (first : ℕ) (refusal : Refusal)
    → SpellsAll numbered_class before prefix → bits content ≡ prefix ++ rest → LEAST_BITS ≤ length rest → first ≡ length prefix
    → ClassFails place (length before) first rest refusal → RefusesClass place content refusal
refused_after place content before prefix rest first refusal spelled whole more counted fails = record {
  before = before;
  prefix = prefix;
  rest = rest;
  spelled = spelled;
  whole = whole;
  more = more;
  fails = subst (λ (bit : ℕ). ClassFails place (length before) bit rest refusal) counted fails;
}

-- what a class that was parsed gives holds, where what the bits after it give does
with_class_holds : (place : ℕ) (content : List ℕ) (before : List Class) (prefix rest : List Bool) (first : ℕ) (others : Class → List Bool → Tried (List Class)) (found : Option (Class × List Bool))
    → SpellsAll numbered_class before prefix → bits content ≡ prefix ++ rest → LEAST_BITS ≤ length rest → first ≡ length prefix → any_class.parse rest ≡ found
    → ((class : Class) (spelling after : List Bool) → any_class.Spells class spelling → rest ≡ spelling ++ after → LEAST_NUMBER ≤ class.number → Holds place content (others class after))
    → Holds place content (with_class place before first others found)
with_class_holds place content before prefix rest first others None spelled whole more counted parsed after_holds =
    refused_after place content before prefix rest first (spelling_refusal place (length before) first) spelled whole more counted
    (inl (refl, (reads_none AnyLetters any_class rest any_class_is_code parsed).0))
with_class_holds place content before prefix rest first others (Some (class, after)) spelled whole more counted parsed after_holds =
    let found = reads_some AnyLetters any_class rest after class any_class_is_code tt parsed in
    holds_by place content (Err (number_refusal place (length before) first)) (others class after) (nat_lt class.number LEAST_NUMBER)
    (λ small.
    refused_after place content before prefix rest first (number_refusal place (length before) first) spelled whole more counted
    (inr (refl, class, found.0, after, found.1, found.2, grind (arith, nat_tests))))
    (λ enough. after_holds class found.0 after found.1 found.2 (grind (arith, nat_tests)))

-- what is tried after classes that are spelled holds of the content
after_holds : (place : ℕ) (content : List ℕ) (fuel : ℕ) (before : List Class) (prefix rest : List Bool) (first : ℕ)
    → SpellsAll numbered_class before prefix → bits content ≡ prefix ++ rest → length rest ≤ fuel → first ≡ length prefix
    → Holds place content (classes_after place fuel before first rest)
unfolding classes_after
after_holds place content zero before prefix rest first spelled whole enough counted =
    (rest, all_to_end LEAST_BITS numbered_class before (bits content) prefix rest spelled whole (omega arith))
after_holds place content (suc fuel) before prefix rest first spelled whole enough counted =
    holds_by place content (Ok before) _ (nat_lt (length rest) LEAST_BITS)
    (λ short. (rest, all_to_end LEAST_BITS numbered_class before (bits content) prefix rest spelled whole (grind (arith, nat_tests))))
    (λ long.
    let more : LEAST_BITS ≤ length rest = grind (arith, nat_tests) in
    with_class_holds place content before prefix rest first
    (λ class after. classes_after place fuel (before ++ class ∷ []) (first + (length rest - length after)) after)
    (any_class.parse rest) spelled whole more counted refl
    (λ class spelling after one same number.
    let numbered : numbered_class.Spells class spelling = (grind (arith, nat_tests), one) in
    let long_one : LEAST_BITS ≤ length spelling = class_least class spelling numbered in
    let sum : length rest ≡ length spelling + length after = ap length same ∙ length-append spelling after in
    after_holds place content fuel (before ++ class ∷ []) (prefix ++ spelling) after (first + (length rest - length after))
    (spells_one_more numbered_class before class prefix spelling spelled numbered)
    (whole ∙ ap (λ all. prefix ++ all) same ∙ sym (append_assoc prefix spelling after))
    (omega (arith, sum, long_one))
    (omega (arith, sum, length-append prefix spelling))))

-- what is tried holds
tried_holds : (place : ℕ) (content : List ℕ) → Holds place content (tried_classes place content)
unfolding tried_classes
tried_holds place content = after_holds place content (length (bits content)) [] [] (bits content) 0 refl refl (omega arith) refl

-- what holds of a content that is cut into classes are these classes
ok_alike : (place : ℕ) (content : List ℕ) (classes : List Class) (tried : Tried (List Class)) → Holds place content tried → AreClasses content classes → tried ≡ Ok classes
ok_alike place content classes (Ok others) holds are = ap Ok (classes_alike content others classes holds are)
ok_alike place content classes (Err refusal) holds are = absurd (refused_uncut place content refusal classes holds are)

-- what holds of a content that has a refusal is this refusal
err_alike : (place : ℕ) (content : List ℕ) (refusal : Refusal) (tried : Tried (List Class)) → Holds place content tried → RefusesClass place content refusal → tried ≡ Err refusal
err_alike place content refusal (Ok classes) holds refuses = absurd (refused_uncut place content refusal classes refuses holds)
err_alike place content refusal (Err other) holds refuses = ap Err (refusals_alike place content other refusal holds refuses)

-- what is tried gives classes exactly where a content is cut into them
pub tried_ok : (place : ℕ) (content : List ℕ) (classes : List Class) → (tried_classes place content ≡ Ok classes) ↔ AreClasses content classes
tried_ok place content classes =
    (λ same. subst (Holds place content) same (tried_holds place content), λ are. ok_alike place content classes (tried_classes place content) (tried_holds place content) are)

-- and a refusal exactly where it is that of the first class that fails a line
pub tried_err : (place : ℕ) (content : List ℕ) (refusal : Refusal) → (tried_classes place content ≡ Err refusal) ↔ RefusesClass place content refusal
tried_err place content refusal =
    (λ same. subst (Holds place content) same (tried_holds place content), λ refuses. err_alike place content refusal (tried_classes place content) (tried_holds place content) refuses)
