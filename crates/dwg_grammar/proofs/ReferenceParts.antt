-- Parts of references are codes, and what they spell hangs on nothing but their references.
use Rattle.std.proofs.Common.{◌≡◌, refl, sym, ◌∙◌, ap, subst, ℕ, ◌^◌, ◌<◌, Bool, true, false, List, [], ◌∷◌, ◌++◌, Option}
use Rattle.std.specs.Option.{option_map_or}
use Rattle.std.proofs.lemmas.List.{append_assoc, append-nil}
use Rattle.dwg_grammar.specs.Grammar.{Grammar, AnyLetters}
use Rattle.dwg_grammar.specs.Combinators.{chain}
use Rattle.dwg_grammar.proofs.CombinatorLemmas.{any_letters_closed, always_is_code, seq_is_code}
use Rattle.dwg_grammar.proofs.ListLemmas.{items_is_code, when_is_code}
use Rattle.dwg_grammar.specs.ToEnd.{SpellsAll}
use Rattle.dwg_grammar.proofs.ToEndLemmas.{spells_one, spells_all_append}
use Rattle.dwg_grammar.specs.ReferenceCodes.{reference}
use Rattle.dwg_grammar.proofs.ReferenceLemmas.{reference_is_code}
use Rattle.dwg_grammar.proofs.Shaped.{shaped_is_code}
use Rattle.dwg_grammar.specs.References.{ReferencePart, no_refs, one_ref, some_refs, maybe_refs, then_refs, two_refs, seen_refs, IsReferencePart}

-- values that are spelled are spelled in two pieces
pub split_all : {V : Type 0} (code : Grammar Bool V) (values others : List V) (letters : List Bool) → SpellsAll code (values ++ others) letters
    → (prefix : List Bool) × (back : List Bool) × SpellsAll code values prefix × SpellsAll code others back × (letters ≡ prefix ++ back)
split_all code [] others letters spelled = ([], letters, refl, spelled, refl)
split_all code (value ∷ values) others letters (first, rest, one, more, same) =
    let after = split_all code values others rest more in
    (first ++ after.0, after.1, (first, after.0, one, after.2, refl), after.3, same ∙ ap (λ last. first ++ last) after.4 ∙ sym (append_assoc first after.0 after.1))

-- one value that is spelled as a list is spelled
pub split_one : {V : Type 0} (code : Grammar Bool V) (value : V) (letters : List Bool) → SpellsAll code (value ∷ []) letters → code.Spells value letters
split_one code value letters (first, rest, one, none, same) =
    subst (code.Spells value) (sym (same ∙ ap (λ last. first ++ last) none ∙ append-nil first)) one

-- one reference
pub one_is_part : (base : ℕ) → base < 2 ^ 63 → IsReferencePart base (one_ref base)
one_is_part base small = record {
  is_code = reference_is_code base small;
  listed = λ value letters spelled. spells_one (reference base) value letters spelled;
  respelled = λ value letters other spelled others. split_one (reference base) value other others;
}

-- so many references
pub some_is_part : (base count : ℕ) → base < 2 ^ 63 → IsReferencePart base (some_refs base count)
unfolding chain
some_is_part base count small = record {
  is_code = items_is_code AnyLetters (reference base) count any_letters_closed (reference_is_code base small);
  listed = λ values letters spelled. spelled.1;
  respelled = λ values letters other spelled others. (spelled.0, others);
}

-- a part that is there by a test
pub maybe_is_part : {R : Type 0} (base : ℕ) (test : Bool) (part : ReferencePart R) → IsReferencePart base part → IsReferencePart base (maybe_refs test part)
maybe_is_part {R} base true part is = record {
  is_code = when_is_code AnyLetters true part.grammar (λ holds. is.is_code);
  listed = λ value letters spelled.
      subst (λ (one : Option R). SpellsAll (reference base) (option_map_or part.list one []) letters) (sym spelled.1) (is.listed spelled.0 letters spelled.2);
  respelled = λ value letters other spelled others. (
    spelled.0,
    spelled.1,
    is.respelled spelled.0 letters other spelled.2
        (subst (λ (one : Option R). SpellsAll (reference base) (option_map_or part.list one []) other) spelled.1 others),
  );
}
maybe_is_part {R} base false part is = record {
  is_code = when_is_code AnyLetters false part.grammar (λ holds. is.is_code);
  listed = λ value letters spelled.
      subst (λ (one : Option R). SpellsAll (reference base) (option_map_or part.list one []) letters) (sym spelled.0) spelled.1;
  respelled = λ value letters other spelled others.
      (spelled.0, subst (λ (one : Option R). SpellsAll (reference base) (option_map_or part.list one []) other) spelled.0 others);
}

-- a part and then another
pub then_is_part : {R S : Type 0} (base : ℕ) (first : ReferencePart R) (second : ReferencePart S) → IsReferencePart base first → IsReferencePart base second
    → IsReferencePart base (then_refs first second)
then_is_part {R} {S} base first second is is_second = record {
  is_code = seq_is_code AnyLetters first.grammar (λ value. second.grammar) any_letters_closed is.is_code (λ value fits. is_second.is_code);
  listed = λ both letters spelled.
      subst (SpellsAll (reference base) (first.list both.0 ++ second.list both.1)) (sym spelled.4)
      (spells_all_append (reference base) (first.list both.0) (second.list both.1) spelled.0 spelled.1 (is.listed both.0 spelled.0 spelled.2) (is_second.listed both.1 spelled.1 spelled.3));
  respelled = λ both letters other spelled others.
      let parts = split_all (reference base) (first.list both.0) (second.list both.1) other others in
      (parts.0, parts.1, is.respelled both.0 spelled.0 parts.0 spelled.2 parts.2, is_second.respelled both.1 spelled.1 parts.1 spelled.3 parts.3, parts.4);
}

-- two references
pub two_is_part : (base : ℕ) → base < 2 ^ 63 → IsReferencePart base (two_refs base)
two_is_part base small = then_is_part base (one_ref base) (one_ref base) (one_is_part base small) (one_is_part base small)

-- no references
pub none_is_part : (base : ℕ) → IsReferencePart base no_refs
none_is_part base = record {
  is_code = always_is_code AnyLetters tt;
  listed = λ value letters spelled. spelled.1;
  respelled = λ value letters other spelled others. (spelled.0, others);
}

-- a part that is seen as a struct, where struct and parts follow from each other
pub seen_is_part : {R S : Type 0} (base : ℕ) (into : R → S) (back : S → R) (part : ReferencePart R) → IsReferencePart base part
    → ((value : R) → back (into value) ≡ value) → ((seen : S) → into (back seen) ≡ seen) → IsReferencePart base (seen_refs into back part)
seen_is_part {R} {S} base into back part is forth again = record {
  is_code = shaped_is_code into back part.grammar is.is_code (λ value fits. forth value) again;
  listed = λ value letters spelled.
      subst (λ (one : R). SpellsAll (reference base) (part.list one) letters) (sym (of_seen value spelled.0 spelled.1)) (is.listed spelled.0 letters spelled.2);
  respelled = λ value letters other spelled others. (
    spelled.0,
    spelled.1,
    is.respelled spelled.0 letters other spelled.2
        (subst (λ (one : R). SpellsAll (reference base) (part.list one) other) (of_seen value spelled.0 spelled.1) others),
  );
}
  where
    of_seen : (value : S) (inner : R) → value ≡ into inner → back value ≡ inner
    of_seen value inner is_into = ap back is_into ∙ forth inner
