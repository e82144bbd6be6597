-- Bodies whose references go to the end of the reference bits: nothing gives how many there are. A rule of this project.
use Rattle.std.proofs.Common.{◌≡◌, refl, sym, ◌∙◌, ap, subst, ℕ, zero, suc, ◌+◌, ◌^◌, ◌<◌, ◌≤◌, Bool, true, false, List, [], ◌∷◌, ◌++◌, length, Option, Some, arith}
use Rattle.std.specs.Prelude.{nat_lt, if◌then◌else◌, option_map, option_and_then}
use Rattle.std.proofs.lemmas.Bool.Decides.{nat_tests}
use Rattle.std.proofs.lemmas.List.{append_assoc, length-append}
use Rattle.std.proofs.lemmas.Option.{option_and_then_some, some_pair_parts}
use Rattle.dwg_grammar.proofs.CombinatorLemmas.{IsFound, option_map_some}
use Rattle.dwg_grammar.specs.Grammar.{Grammar, IsCode, AnyLetters}
use Rattle.dwg_grammar.specs.ToEnd.{SpellsAll, SpellsToEnd, AreValues, short_all, HaveLeast}
use Rattle.dwg_grammar.proofs.ToEndLemmas.{value_all, canonical_all, least_all}
use Rattle.dwg_grammar.specs.Bodies.{BodyGrammar, BeginsWithBody, IsBody}
use Rattle.dwg_grammar.specs.MakingBodies.{put_together, parse_to_end, to_end}
use Rattle.dwg_grammar.specs.Reference.{Reference}
use Rattle.dwg_grammar.specs.ReferenceCodes.{reference}
use Rattle.dwg_grammar.proofs.ReferenceLemmas.{reference_is_code, reference_least}

-- what is parsed to the end is cut to the end
pub to_end_sound : {V : Type 0} (least : ℕ) (code : Grammar Bool V) (fuel : ℕ) (letters : List Bool) (found : List V × List Bool) → IsCode AnyLetters code
    → parse_to_end least code fuel letters ≡ Some found → SpellsToEnd least code found.0 letters found.1
unfolding parse_to_end
to_end_sound least code zero letters found is same = absurd cc
to_end_sound {V} least code (suc fuel) letters found is same =
    by_length (nat_lt (length letters) least) refl same (λ rest after was. to_end_sound least code fuel rest after is was)
  where
    -- a value before those after it
    with_one : (one : V × List Bool) (after : List V × List Bool) → code.parse letters ≡ Some one → SpellsToEnd least code after.0 one.1 after.1
        → SpellsToEnd least code (one.0 ∷ after.0) letters after.1
    with_one one after was cut =
        let prefix = is.sound letters one.1 one.0 tt was in
        record {
          prefix = prefix.0 ++ cut.prefix;
          spelled = (prefix.0, cut.prefix, prefix.1, cut.spelled, refl);
          whole = prefix.2 ∙ ap (λ all. prefix.0 ++ all) cut.whole ∙ sym (append_assoc prefix.0 cut.prefix after.1);
          short = cut.short;
        }

    by_length : (short : Bool) → nat_lt (length letters) least ≡ short
        → (if short then Some ([], letters)
        else option_and_then (λ (one : V × List Bool). option_map (λ (after : List V × List Bool). (one.0 ∷ after.0, after.1)) (parse_to_end least code fuel one.1)) (code.parse letters))
        ≡ Some found
        → ((rest : List Bool) (after : List V × List Bool) → parse_to_end least code fuel rest ≡ Some after → SpellsToEnd least code after.0 rest after.1)
        → SpellsToEnd least code found.0 letters found.1
    by_length true short same again =
        let parts = some_pair_parts [] found.0 letters found.1 same in
        subst (λ (values : List V). SpellsToEnd least code values letters found.1) parts.0
        (subst (λ (left : List Bool). SpellsToEnd least code [] letters left) parts.1
        (record { prefix = []; spelled = refl; whole = refl; short = grind (arith, nat_tests) }))
    by_length false long same again =
        option_and_then_some (λ (one : V × List Bool). option_map (λ (after : List V × List Bool). (one.0 ∷ after.0, after.1)) (parse_to_end least code fuel one.1)) (code.parse letters) found same
        (λ one was others. option_map_some (λ (after : List V × List Bool). (one.0 ∷ after.0, after.1)) (parse_to_end least code fuel one.1) found others
        (λ after was_after made. subst (λ (all : List V × List Bool). SpellsToEnd least code all.0 letters all.1) made
        (with_one one after was (again one.1 after was_after))))

-- letters with enough for a value are parsed as that value and those after it
one_to_end : {V : Type 0} (least : ℕ) (code : Grammar Bool V) (fuel : ℕ) (letters rest left : List Bool) (value : V) (values : List V) → nat_lt (length letters) least ≡ false
    → code.parse letters ≡ Some (value, rest) → parse_to_end least code fuel rest ≡ Some (values, left) → parse_to_end least code (suc fuel) letters ≡ Some (value ∷ values, left)
unfolding parse_to_end
one_to_end {V} least code fuel letters rest left value values long parsed after =
    let step : V × List Bool → Option (List V × List Bool) =
    λ (one : V × List Bool). option_map (λ (after : List V × List Bool). (one.0 ∷ after.0, after.1)) (parse_to_end least code fuel one.1) in
    ap (λ (test : Bool). if test then Some ([], letters) else option_and_then step (code.parse letters)) long ∙ ap (option_and_then step) parsed
    ∙ ap (option_map (λ (after : List V × List Bool). (value ∷ after.0, after.1))) after

-- and what is cut to the end is parsed, with fuel for each letter
pub to_end_complete : {V : Type 0} (least : ℕ) (code : Grammar Bool V) (values : List V) (prefix left : List Bool) (fuel : ℕ) → IsCode AnyLetters code → HaveLeast least code → 0 < least
    → SpellsAll code values prefix → length left < least → length prefix < fuel → parse_to_end least code fuel (prefix ++ left) ≡ Some (values, left)
unfolding parse_to_end
to_end_complete least code values prefix left zero is have some spelled few enough = absurd (omega (arith, enough))
to_end_complete {V} least code [] prefix left (suc fuel) is have some none few enough =
    let long : length (prefix ++ left) < least = omega (arith, length-append prefix left, ap length none, few) in
    let short : nat_lt (length (prefix ++ left)) least ≡ true = grind (arith, nat_tests) in
    let step : V × List Bool → Option (List V × List Bool) =
    λ (one : V × List Bool). option_map (λ (after : List V × List Bool). (one.0 ∷ after.0, after.1)) (parse_to_end least code fuel one.1) in
    ap (λ (test : Bool). if test then Some ([], prefix ++ left) else option_and_then step (code.parse (prefix ++ left))) short
    ∙ ap (λ (all : List Bool). Some ([], all ++ left)) none
to_end_complete {V} least code (value ∷ values) prefix left (suc fuel) is have some (first, back, one, more, cut) few enough =
    let least_one : least ≤ length first = have value first one in
    let lengths : length prefix ≡ length first + length back = ap length cut ∙ length-append first back in
    let far : least ≤ length (prefix ++ left) = omega (arith, length-append prefix left, lengths, least_one) in
    let long : nat_lt (length (prefix ++ left)) least ≡ false = grind (arith, nat_tests) in
    let parsed : code.parse (prefix ++ left) ≡ Some (value, back ++ left) =
    ap (λ (all : List Bool). code.parse (all ++ left)) cut ∙ ap code.parse (append_assoc first back left) ∙ is.complete first (back ++ left) value one in
    one_to_end least code fuel (prefix ++ left) (back ++ left) left value values long parsed
    (to_end_complete least code values back left fuel is have some more few (omega (arith, enough, lengths, least_one, some)))

-- such a struct is a body: it is given by its parts, and they by it
pub to_end_is_body : {A V : Type 0} (base : ℕ) (main : Grammar Bool A) (into : A → List Reference → V) (main_of : V → A) (references_of : V → List Reference)
    → base < 2 ^ 63 → IsCode AnyLetters main
    → ((parsed : A) (named : List Reference) → main.IsValue parsed → (main_of (into parsed named) ≡ parsed) × (references_of (into parsed named) ≡ named))
    → ((value : V) → into (main_of value) (references_of value) ≡ value) → IsBody base (to_end base main into main_of references_of)
to_end_is_body {A} {V} base main into main_of references_of small is_main forth back = record {
  sound = λ main_bits main_left reference_bits references_left value found.
      option_and_then_some (λ (parsed : A × List Bool). option_map (put_together into parsed) (parse_to_end 8 (reference base) (suc (length reference_bits)) reference_bits))
      (main.parse main_bits) (value, (main_left, references_left)) found
      (λ parsed was others. option_map_some (put_together into parsed) (parse_to_end 8 (reference base) (suc (length reference_bits)) reference_bits) (value, (main_left, references_left)) others
      (λ named was_named same. subst (λ (all : V × (List Bool × List Bool)). BeginsWithBody made all.0 main_bits all.1.0 reference_bits all.1.1) same
      (of_both main_bits reference_bits parsed named (is_main.sound main_bits parsed.1 parsed.0 tt was)
      (to_end_sound 8 (reference base) (suc (length reference_bits)) reference_bits named (reference_is_code base small) was_named))));
  complete = λ main_bits main_left reference_bits references_left value spelled.
      of_prefixes main_bits main_left reference_bits references_left value spelled.0 spelled.1 spelled.2 spelled.3 spelled.4 spelled.5;
  value = λ value main_bits reference_bits over spelled.
      moved (λ parsed named. main.IsValue parsed × AreValues (reference base) named) value main_bits reference_bits over spelled
      (is_main.value main_bits spelled.0 spelled.3, value_all AnyLetters (reference base) spelled.1 reference_bits (reference_is_code base small) spelled.4);
  canonical = λ value over fits may. (
    main_of value,
    references_of value,
    sym (back value),
    is_main.canonical (main_of value) fits.0,
    canonical_all AnyLetters (reference base) (references_of value) (reference_is_code base small) fits.1,
    may,
  );
  least_main = λ value main_bits reference_bits over spelled.
      moved (λ parsed named. length (main.short parsed) ≤ length main_bits) value main_bits reference_bits over spelled
      (is_main.least main_bits spelled.0 spelled.3);
  least_references = λ value main_bits reference_bits over spelled.
      moved (λ parsed named. length (short_all (reference base) named) ≤ length reference_bits) value main_bits reference_bits over spelled
      (least_all AnyLetters (reference base) spelled.1 reference_bits (reference_is_code base small) spelled.4);
  listed = λ value main_bits reference_bits over spelled.
      moved (λ parsed named. SpellsAll (reference base) named reference_bits) value main_bits reference_bits over spelled spelled.4;
  respelled = λ value main_bits reference_bits other over other_over spelled others may. (
    spelled.0,
    spelled.1,
    spelled.2,
    spelled.3,
    subst (λ (named : List Reference). SpellsAll (reference base) named other) (parts_of value main_bits reference_bits over spelled).1 others,
    may,
  );
  padded = λ over few. few;
}
  where
    made : BodyGrammar V
    made = to_end base main into main_of references_of

    parts_of : (value : V) (main_bits reference_bits : List Bool) (over : ℕ) (spelled : made.Spells value main_bits reference_bits over)
        → (main_of value ≡ spelled.0) × (references_of value ≡ spelled.1)
    parts_of value main_bits reference_bits over spelled =
        subst (λ (one : V). (main_of one ≡ spelled.0) × (references_of one ≡ spelled.1)) (sym spelled.2)
        (forth spelled.0 spelled.1 (is_main.value main_bits spelled.0 spelled.3))

    moved : (P : A → List Reference → Type 0) (value : V) (main_bits reference_bits : List Bool) (over : ℕ) (spelled : made.Spells value main_bits reference_bits over)
        → P spelled.0 spelled.1 → P (main_of value) (references_of value)
    moved P value main_bits reference_bits over spelled holds =
        let parts = parts_of value main_bits reference_bits over spelled in
        subst (λ (parsed : A). P parsed (references_of value)) (sym parts.0) (subst (λ (named : List Reference). P spelled.0 named) (sym parts.1) holds)

    of_both : (main_bits reference_bits : List Bool) (parsed : A × List Bool) (named : List Reference × List Bool) → IsFound main.Spells main_bits parsed
        → SpellsToEnd 8 (reference base) named.0 reference_bits named.1 → BeginsWithBody made (into parsed.0 named.0) main_bits parsed.1 reference_bits named.1
    of_both main_bits reference_bits parsed named (prefix, spelled, same) cut = record {
      main_prefix = prefix;
      reference_prefix = cut.prefix;
      spelled = (parsed.0, named.0, refl, spelled, cut.spelled, cut.short);
      main_whole = same;
      references_whole = cut.whole;
    }

    of_prefixes : (main_bits main_left reference_bits references_left : List Bool) (value : V) (parsed : A) (named : List Reference) → value ≡ into parsed named
        → main.Spells parsed main_bits → SpellsAll (reference base) named reference_bits → length references_left < 8
        → made.parse (main_bits ++ main_left) (reference_bits ++ references_left) ≡ Some (value, (main_left, references_left))
    of_prefixes main_bits main_left reference_bits references_left value parsed named is_into spelled spelled_named few =
        let fuel : ℕ = suc (length (reference_bits ++ references_left)) in
        ap (option_and_then (λ (parsed : A × List Bool). option_map (put_together into parsed) (parse_to_end 8 (reference base) fuel (reference_bits ++ references_left))))
        (is_main.complete main_bits main_left parsed spelled)
        ∙ ap (option_map (put_together into (parsed, main_left)))
        (to_end_complete 8 (reference base) named reference_bits references_left fuel (reference_is_code base small) (reference_least base) (omega arith) spelled_named few
        (omega (arith, length-append reference_bits references_left)))
        ∙ ap (λ (one : V). Some (one, (main_left, references_left))) (sym is_into)
