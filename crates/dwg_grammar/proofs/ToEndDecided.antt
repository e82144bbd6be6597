-- Letters are cut into values to their end, or they are not, and which of both follows from the letters. A rule of this project.
use Rattle.std.proofs.Common.{◌≡◌, refl, sym, ◌∙◌, ap, ℕ, zero, suc, ◌<◌, ◌≤◌, Bool, true, false, List, [], ◌∷◌, ◌++◌, length, Option, Some, None, inl, inr, arith}
use Rattle.std.specs.Prelude.{◌⊎◌, nat_lt}
use Rattle.std.proofs.lemmas.Bool.Decides.{nat_tests}
use Rattle.std.proofs.lemmas.List.{append_assoc, append_cancel_left, length-append}
use Rattle.dwg_grammar.specs.Grammar.{Grammar, IsCode, AnyLetters, BeginsWith}
use Rattle.dwg_grammar.proofs.CodeLemmas.{reads_none, unique_of_code}
use Rattle.dwg_grammar.specs.ToEnd.{SpellsAll, SpellsToEnd, HaveLeast}

-- letters are cut into values to their end
pub record HasCut {A V : Type 0} (least : ℕ) (code : Grammar A V) (letters : List A) : Type 0 where
  pub values : List V
  pub left : List A
  pub cut : SpellsToEnd least code values letters left

-- a value before a cutting makes one
cut_with : {A V : Type 0} (least : ℕ) (code : Grammar A V) (letters prefix rest : List A) (value : V) → code.Spells value prefix → letters ≡ prefix ++ rest → HasCut least code rest → HasCut least code letters
cut_with least code letters prefix rest value spelled whole after = record {
  values = value ∷ after.values;
  left = after.left;
  cut = record {
    prefix = prefix ++ after.cut.prefix;
    spelled = (prefix, after.cut.prefix, spelled, after.cut.spelled, refl);
    whole = whole ∙ ap (λ all. prefix ++ all) after.cut.whole ∙ sym (append_assoc prefix after.cut.prefix after.left);
    short = after.cut.short;
  };
}

-- what is after the first value of a cutting is cut as well
cut_after : {A V : Type 0} (least : ℕ) (code : Grammar A V) (letters prefix rest : List A) (value : V) → IsCode AnyLetters code → code.Spells value prefix → letters ≡ prefix ++ rest
    → least ≤ length letters → HasCut least code letters → HasCut least code rest
cut_after {A} {V} least code letters prefix rest value is spelled whole enough has = of_values has.values has.left has.cut.prefix has.cut.spelled has.cut.whole has.cut.short
  where
    of_values : (values : List V) (left all : List A) → SpellsAll code values all → letters ≡ all ++ left → length left < least → HasCut least code rest
    of_values [] left all none same few = absurd (omega (arith, ap length none, ap length same, length-append all left))
    of_values (other ∷ others) left all (first, back, one, more, cut) same few =
        let joined : prefix ++ rest ≡ first ++ (back ++ left) = sym whole ∙ same ∙ ap (λ some. some ++ left) cut ∙ append_assoc first back left in
        let alike = unique_of_code AnyLetters code is value other prefix first rest (back ++ left) spelled one joined in
        let after : rest ≡ back ++ left = append_cancel_left prefix rest (back ++ left) (joined ∙ ap (λ some. some ++ (back ++ left)) (sym alike.1)) in
        record {
          values = others;
          left = left;
          cut = record { prefix = back; spelled = more; whole = after; short = few };
        }

-- letters with enough for a value that begin with none have no cutting
cut_begins : {A V : Type 0} (least : ℕ) (code : Grammar A V) (letters : List A) → least ≤ length letters → HasCut least code letters → BeginsWith code letters
cut_begins {A} {V} least code letters enough has = of_values has.values has.left has.cut.prefix has.cut.spelled has.cut.whole has.cut.short
  where
    of_values : (values : List V) (left all : List A) → SpellsAll code values all → letters ≡ all ++ left → length left < least → BeginsWith code letters
    of_values [] left all none same few = absurd (omega (arith, ap length none, ap length same, length-append all left))
    of_values (value ∷ values) left all (first, back, one, more, cut) same few =
        (value, first, back ++ left, one, same ∙ ap (λ some. some ++ left) cut ∙ append_assoc first back left)

-- letters have a cutting or they have none
decided_within : {A V : Type 0} (least : ℕ) (code : Grammar A V) (fuel : ℕ) (letters : List A) → IsCode AnyLetters code → HaveLeast least code → 0 < least → length letters < fuel
    → HasCut least code letters ⊎ (HasCut least code letters → ⊥)
decided_within least code zero letters is have some fuel = absurd (omega (arith, fuel))
decided_within {A} {V} least code (suc fuel) letters is have some enough =
    by_length (nat_lt (length letters) least) refl (λ rest shorter. decided_within least code fuel rest is have some shorter)
  where
    by_rest : (prefix rest : List A) (value : V) → code.Spells value prefix → letters ≡ prefix ++ rest → least ≤ length letters
        → HasCut least code rest ⊎ (HasCut least code rest → ⊥) → HasCut least code letters ⊎ (HasCut least code letters → ⊥)
    by_rest prefix rest value spelled whole long (inl after) = inl (cut_with least code letters prefix rest value spelled whole after)
    by_rest prefix rest value spelled whole long (inr none) = inr (λ has. none (cut_after least code letters prefix rest value is spelled whole long has))

    by_parse : (found : Option (V × List A)) → code.parse letters ≡ found → least ≤ length letters
        → ((rest : List A) → length rest < fuel → HasCut least code rest ⊎ (HasCut least code rest → ⊥)) → HasCut least code letters ⊎ (HasCut least code letters → ⊥)
    by_parse None same long after = inr (λ has. (reads_none AnyLetters code letters is same).0 (cut_begins least code letters long has))
    by_parse (Some (value, rest)) same long after =
        let one = is.sound letters rest value tt same in
        let shorter : length rest < fuel = omega (arith, have value one.0 one.1, ap length one.2, length-append one.0 rest, some, enough) in
        by_rest one.0 rest value one.1 one.2 long (after rest shorter)

    by_length : (short : Bool) → nat_lt (length letters) least ≡ short
        → ((rest : List A) → length rest < fuel → HasCut least code rest ⊎ (HasCut least code rest → ⊥)) → HasCut least code letters ⊎ (HasCut least code letters → ⊥)
    by_length true short after =
        inl (record { values = []; left = letters; cut = record { prefix = []; spelled = refl; whole = refl; short = grind (arith, nat_tests) } })
    by_length false long after = by_parse (code.parse letters) refl (grind (arith, nat_tests)) after

-- so it is of all letters
pub cut_decided : {A V : Type 0} (least : ℕ) (code : Grammar A V) (letters : List A) → IsCode AnyLetters code → HaveLeast least code → 0 < least
    → HasCut least code letters ⊎ (HasCut least code letters → ⊥)
cut_decided least code letters is have some = decided_within least code (suc (length letters)) letters is have some (omega arith)
