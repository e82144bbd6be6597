-- Bodies made of codes meet the laws of bodies.
use Rattle.std.proofs.Common.{◌≡◌, refl, sym, ◌∙◌, ap, subst, ℕ, ◌≤◌, Bool, List, [], ◌++◌, length, Option, Some}
use Rattle.std.specs.Prelude.{option_map, option_and_then}
use Rattle.std.specs.Option.{option_map_or}
use Rattle.std.proofs.lemmas.Option.{option_and_then_some}
use Rattle.dwg_grammar.specs.Grammar.{Grammar, IsCode, AnyLetters}
use Rattle.dwg_grammar.proofs.CombinatorLemmas.{IsFound, option_map_some}
use Rattle.dwg_grammar.specs.ToEnd.{SpellsAll}
use Rattle.dwg_grammar.specs.ReferenceCodes.{reference}
use Rattle.dwg_grammar.specs.Bodies.{BodyGrammar, BeginsWithBody, IsBody}
use Rattle.dwg_grammar.specs.MakingBodies.{body, main_body, variant, put_together}
use Rattle.dwg_grammar.specs.References.{ReferencePart, no_refs, IsReferencePart}
use Rattle.dwg_grammar.proofs.ReferenceParts.{none_is_part}

-- what was found of a body: its value, and the bits after its prefixes
abbrev pub IsFoundBody : {V : Type 0} → BodyGrammar V → List Bool → List Bool → V × (List Bool × List Bool) → Type 0
IsFoundBody {V} grammar main references found = BeginsWithBody grammar found.0 main found.1.0 references found.1.1

-- a struct by what its main bits give and by its references is a body: it is given by its parts, and they by it
pub body_is_body : {A R V : Type 0} (base : ℕ) (main : Grammar Bool A) (references : A → ReferencePart R) (into : A → R → V) (main_of : V → A) (references_of : V → R)
    → IsCode AnyLetters main → ((parsed : A) → main.IsValue parsed → IsReferencePart base (references parsed))
    → ((parsed : A) (named : R) → main.IsValue parsed → (references parsed).grammar.IsValue named → (main_of (into parsed named) ≡ parsed) × (references_of (into parsed named) ≡ named))
    → ((value : V) → into (main_of value) (references_of value) ≡ value)
    → IsBody base (body main references into main_of references_of)
body_is_body {A} {R} {V} base main references into main_of references_of is_main is_part forth back = record {
  sound = λ main_bits main_left reference_bits references_left value found.
      option_and_then_some (λ (parsed : A × List Bool). option_map (put_together into parsed) ((references parsed.0).grammar.parse reference_bits))
      (main.parse main_bits) (value, (main_left, references_left)) found
      (λ parsed was others. option_map_some (put_together into parsed) ((references parsed.0).grammar.parse reference_bits) (value, (main_left, references_left)) others
      (λ named was_named same. subst (IsFoundBody made main_bits reference_bits) same
      (of_both main_bits reference_bits parsed named (is_main.sound main_bits parsed.1 parsed.0 tt was) was_named)));
  complete = λ main_bits main_left reference_bits references_left value spelled.
      of_prefixes main_bits main_left reference_bits references_left value spelled.0 spelled.1 spelled.2 spelled.3 spelled.4;
  value = λ value main_bits reference_bits over spelled.
      moved (λ parsed named. main.IsValue parsed × (references parsed).grammar.IsValue named) value main_bits reference_bits over spelled
      (parsed_fits value main_bits reference_bits over spelled, named_fits value main_bits reference_bits over spelled);
  canonical = λ value over fits may. (
    main_of value,
    references_of value,
    sym (back value),
    is_main.canonical (main_of value) fits.0,
    (is_part (main_of value) fits.0).is_code.canonical (references_of value) fits.1,
  );
  least_main = λ value main_bits reference_bits over spelled.
      moved (λ parsed named. length (main.short parsed) ≤ length main_bits) value main_bits reference_bits over spelled
      (is_main.least main_bits spelled.0 spelled.3);
  least_references = λ value main_bits reference_bits over spelled.
      moved (λ parsed named. length ((references parsed).grammar.short named) ≤ length reference_bits) value main_bits reference_bits over spelled
      ((is_part spelled.0 (parsed_fits value main_bits reference_bits over spelled)).is_code.least reference_bits spelled.1 spelled.4);
  listed = λ value main_bits reference_bits over spelled.
      moved (λ parsed named. SpellsAll (reference base) ((references parsed).list named) reference_bits) value main_bits reference_bits over spelled
      ((is_part spelled.0 (parsed_fits value main_bits reference_bits over spelled)).listed spelled.1 reference_bits spelled.4);
  respelled = λ value main_bits reference_bits other over other_over spelled others may. (
    spelled.0,
    spelled.1,
    spelled.2,
    spelled.3,
    (is_part spelled.0 (parsed_fits value main_bits reference_bits over spelled)).respelled spelled.1 reference_bits other spelled.4
        (unmoved (λ parsed named. SpellsAll (reference base) ((references parsed).list named) other) value main_bits reference_bits over spelled others),
  );
  padded = λ over few. tt;
}
  where
    made : BodyGrammar V
    made = body main references into main_of references_of

    parsed_fits : (value : V) (main_bits reference_bits : List Bool) (over : ℕ) (spelled : made.Spells value main_bits reference_bits over) → main.IsValue spelled.0
    parsed_fits value main_bits reference_bits over spelled = is_main.value main_bits spelled.0 spelled.3

    named_fits : (value : V) (main_bits reference_bits : List Bool) (over : ℕ) (spelled : made.Spells value main_bits reference_bits over)
        → (references spelled.0).grammar.IsValue spelled.1
    named_fits value main_bits reference_bits over spelled =
        (is_part spelled.0 (parsed_fits value main_bits reference_bits over spelled)).is_code.value reference_bits spelled.1 spelled.4

    parts_of : (value : V) (main_bits reference_bits : List Bool) (over : ℕ) (spelled : made.Spells value main_bits reference_bits over)
        → (main_of value ≡ spelled.0) × (references_of value ≡ spelled.1)
    parts_of value main_bits reference_bits over spelled =
        subst (λ (one : V). (main_of one ≡ spelled.0) × (references_of one ≡ spelled.1)) (sym spelled.2)
        (forth spelled.0 spelled.1 (parsed_fits value main_bits reference_bits over spelled) (named_fits value main_bits reference_bits over spelled))

    moved : (P : A → R → Type 0) (value : V) (main_bits reference_bits : List Bool) (over : ℕ) (spelled : made.Spells value main_bits reference_bits over)
        → P spelled.0 spelled.1 → P (main_of value) (references_of value)
    moved P value main_bits reference_bits over spelled holds =
        let parts = parts_of value main_bits reference_bits over spelled in
        subst (λ (parsed : A). P parsed (references_of value)) (sym parts.0) (subst (λ (named : R). P spelled.0 named) (sym parts.1) holds)

    unmoved : (P : A → R → Type 0) (value : V) (main_bits reference_bits : List Bool) (over : ℕ) (spelled : made.Spells value main_bits reference_bits over)
        → P (main_of value) (references_of value) → P spelled.0 spelled.1
    unmoved P value main_bits reference_bits over spelled holds =
        let parts = parts_of value main_bits reference_bits over spelled in
        subst (λ (parsed : A). P parsed spelled.1) parts.0 (subst (λ (named : R). P (main_of value) named) parts.1 holds)

    of_both : (main_bits reference_bits : List Bool) (parsed : A × List Bool) (named : R × List Bool) → IsFound main.Spells main_bits parsed
        → (references parsed.0).grammar.parse reference_bits ≡ Some named → IsFoundBody made main_bits reference_bits (put_together into parsed named)
    of_both main_bits reference_bits parsed named (prefix, spelled, same) was =
        let found = (is_part parsed.0 (is_main.value prefix parsed.0 spelled)).is_code.sound reference_bits named.1 named.0 tt was in
        record {
          main_prefix = prefix;
          reference_prefix = found.0;
          spelled = (parsed.0, named.0, refl, spelled, found.1);
          main_whole = same;
          references_whole = found.2;
        }

    of_prefixes : (main_bits main_left reference_bits references_left : List Bool) (value : V) (parsed : A) (named : R) → value ≡ into parsed named
        → main.Spells parsed main_bits → (references parsed).grammar.Spells named reference_bits
        → made.parse (main_bits ++ main_left) (reference_bits ++ references_left) ≡ Some (value, (main_left, references_left))
    of_prefixes main_bits main_left reference_bits references_left value parsed named is_into spelled spelled_named =
        ap (option_and_then (λ (parsed : A × List Bool). option_map (put_together into parsed) ((references parsed.0).grammar.parse (reference_bits ++ references_left))))
        (is_main.complete main_bits main_left parsed spelled)
        ∙ ap (option_map (put_together into (parsed, main_left))) ((is_part parsed (is_main.value main_bits parsed spelled)).is_code.complete reference_bits references_left named spelled_named)
        ∙ ap (λ (one : V). Some (one, (main_left, references_left))) (sym is_into)

-- what main bits give alone is a body
pub main_is_body : {V : Type 0} (base : ℕ) (main : Grammar Bool V) → IsCode AnyLetters main → IsBody base (main_body main)
main_is_body {V} base main is =
    body_is_body base main (λ parsed. no_refs) (λ parsed named. parsed) (λ value. value) (λ value. tt) is (λ parsed fits. none_is_part base) (λ parsed named fits none. (refl, refl)) (λ value. refl)

-- a body as one variant of an enum is a body
pub variant_is_body : {V W : Type 0} (base : ℕ) (into : V → W) (back : W → Option V) (inner : BodyGrammar V) → IsBody base inner
    → ((held : V) → back (into held) ≡ Some held) → IsBody base (variant into back inner)
variant_is_body {V} {W} base into back inner is parsed = record {
  sound = λ main main_left references references_left value found.
      option_map_some (λ (found : V × (List Bool × List Bool)). (into found.0, found.1)) (inner.parse main references) (value, (main_left, references_left)) found
      (λ one was same. subst (IsFoundBody (variant into back inner) main references) same (of_inner main references one (is.sound main one.1.0 references one.1.1 one.0 was)));
  complete = λ main main_left references references_left value spelled.
      ap (option_map (λ (found : V × (List Bool × List Bool)). (into found.0, found.1))) (is.complete main main_left references references_left spelled.0 spelled.2)
      ∙ ap (λ (one : W). Some (one, (main_left, references_left))) (sym spelled.1);
  value = λ value main references over spelled. (spelled.0, spelled.1, is.value spelled.0 main references over spelled.2);
  canonical = λ value over fits may. (
    fits.0,
    fits.1,
    subst (λ (one : Option V). inner.Spells fits.0 (option_map_or inner.short_main one []) (option_map_or inner.short_references one []) over) (sym (held_back value fits.0 fits.1))
        (is.canonical fits.0 over fits.2 may),
  );
  least_main = λ value main references over spelled.
      subst (λ (one : Option V). length (option_map_or inner.short_main one []) ≤ length main) (sym (held_back value spelled.0 spelled.1))
      (is.least_main spelled.0 main references over spelled.2);
  least_references = λ value main references over spelled.
      subst (λ (one : Option V). length (option_map_or inner.short_references one []) ≤ length references) (sym (held_back value spelled.0 spelled.1))
      (is.least_references spelled.0 main references over spelled.2);
  listed = λ value main references over spelled.
      subst (λ (one : Option V). SpellsAll (reference base) (option_map_or inner.references one []) references) (sym (held_back value spelled.0 spelled.1))
      (is.listed spelled.0 main references over spelled.2);
  respelled = λ value main references other over other_over spelled others may. (
    spelled.0,
    spelled.1,
    is.respelled spelled.0 main references other over other_over spelled.2
        (subst (λ (one : Option V). SpellsAll (reference base) (option_map_or inner.references one []) other) (held_back value spelled.0 spelled.1) others) may,
  );
  padded = is.padded;
}
  where
    held_back : (value : W) (held : V) → value ≡ into held → back value ≡ Some held
    held_back value held is_into = ap back is_into ∙ parsed held

    of_inner : (main references : List Bool) (one : V × (List Bool × List Bool)) → IsFoundBody inner main references one
        → IsFoundBody (variant into back inner) main references (into one.0, one.1)
    of_inner main references one begins = record {
      main_prefix = begins.main_prefix;
      reference_prefix = begins.reference_prefix;
      spelled = (one.0, refl, begins.spelled);
      main_whole = begins.main_whole;
      references_whole = begins.references_whole;
    }
