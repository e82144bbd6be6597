-- Codes made of codes are codes.
use Rattle.std.proofs.Common.{◌≡◌, refl, sym, ◌∙◌, ap, ap₂, subst, ℕ, ◌+◌, ◌^◌, ◌<◌, ◌≤◌, Bool, true, false, List, [], ◌∷◌, ◌++◌, length, take, drop, Option, Some, None, arith}
use Rattle.std.specs.Prelude.{nat_lt, option_map, option_and_then, if◌then◌else◌}
use Rattle.std.proofs.lemmas.Bool.Decides.{nat_tests}
use Rattle.std.proofs.lemmas.List.{append_assoc, length-append, length-take-le, take-append-drop, take_at, drop_at}
use Rattle.std.proofs.lemmas.Option.{some_pair_parts, none-some, same_Some, option_and_then_some}
use Rattle.dwg_base.specs.Bytes.{AreBytes}
use Rattle.dwg_bits.specs.Bits.{num}
use Rattle.dwg_bits.proofs.BitLaws.{num_fits, length_of_low_bits, num_of_low_bits}
use Rattle.dwg_grammar.specs.Grammar.{Grammar, IsCode, AnyLetters}
use Rattle.dwg_grammar.proofs.CodeLemmas.{IsClosed}
use Rattle.dwg_grammar.specs.Combinators.{fixed, byte_parse, one_byte, always, never, seq, choose, image, restrict, tagged}

-- all lists are closed
pub any_letters_closed : {A : Type 0} → IsClosed {A = A} AnyLetters
any_letters_closed prefix rest text = tt

-- what is after a prefix of bytes is bytes
pub bytes_closed : IsClosed AreBytes
bytes_closed [] rest text = text
bytes_closed (byte ∷ prefix) rest text = bytes_closed prefix rest text.1

-- what was found: a value that a prefix of the letters spells, and the letters after
abbrev pub IsFound : {A V : Type 0} → (V → List A → Type 0) → List A → V × List A → Type 0
IsFound {A} Spells letters found = (prefix : List A) × Spells found.0 prefix × (letters ≡ prefix ++ found.1)

-- where a mapped option has a value, the option had one
pub option_map_some : {A B P : Type 0} (f : A → B) (o : Option A) (y : B) → option_map f o ≡ Some y → ((x : A) → o ≡ Some x → f x ≡ y → P) → P
option_map_some f None y e k = absurd (none-some y e)
option_map_some f (Some x) y e k = k x refl (same_Some (f x) y e)

-- a choice that has a value has it by one of its branches
pub if_some : {A P : Type 0} (test : Bool) (x y : Option A) (z : A) → (if test then x else y) ≡ Some z
    → (test ≡ true → x ≡ Some z → P) → (test ≡ false → y ≡ Some z → P) → P
if_some true x y z e chosen otherwise = chosen refl e
if_some false x y z e chosen otherwise = otherwise refl e

-- so many bits are a code
pub fixed_is_code : (count : ℕ) → IsCode AnyLetters (fixed count)
fixed_is_code count = record {
  sound = λ letters rest value text found. if_some (nat_lt (length letters) count) None (Some (num (take count letters), drop count letters)) (value, rest) found
      (λ short none. absurd (none-some (value, rest) none))
      (λ long same. of_parts letters rest value long (some_pair_parts (num (take count letters)) value (drop count letters) rest same));
  complete = λ prefix rest value spelled. of_prefix prefix rest value spelled.0 spelled.1;
  value = λ prefix value spelled. subst (λ n. n < 2 ^ count) (sym spelled.1) (subst (λ n. num prefix < 2 ^ n) spelled.0 (num_fits prefix));
  canonical = λ value fits. (length_of_low_bits count value, sym (num_of_low_bits count value fits));
  least = λ prefix value spelled. omega (arith, length_of_low_bits count value, spelled.0);
}
  where
    of_parts : (letters rest : List Bool) (value : ℕ) → nat_lt (length letters) count ≡ false → (num (take count letters) ≡ value) × (drop count letters ≡ rest)
        → (prefix : List Bool) × (fixed count).Spells value prefix × (letters ≡ prefix ++ rest)
    of_parts letters rest value long parts =
        let enough : count ≤ length letters = grind (arith, nat_tests) in
        (take count letters, (length-take-le count letters enough, sym parts.0), sym (take-append-drop count letters) ∙ ap (λ after. take count letters ++ after) parts.1)

    of_prefix : (prefix rest : List Bool) (value : ℕ) → length prefix ≡ count → value ≡ num prefix → (fixed count).parse (prefix ++ rest) ≡ Some (value, rest)
    of_prefix prefix rest value long same =
        let enough : nat_lt (length (prefix ++ rest)) count ≡ false = rw (length-append prefix rest) (grind (arith, nat_tests)) in
        ap (λ test. if test then None else Some (num (take count (prefix ++ rest)), drop count (prefix ++ rest))) enough
        ∙ ap₂ (λ first after. Some (first, after)) (ap num (take_at prefix rest count long) ∙ sym same) (drop_at prefix rest count long)

-- a byte is a code over bytes
pub one_byte_is_code : IsCode AreBytes one_byte
one_byte_is_code = record {
  sound = sound_byte;
  complete = λ prefix rest value spelled. ap (λ letters. byte_parse (letters ++ rest)) spelled.1;
  value = λ prefix value spelled. spelled.0;
  canonical = λ value fits. (fits, refl);
  least = λ prefix value spelled. omega (arith, ap length spelled.1);
}
  where
    sound_byte : (letters rest : List ℕ) (value : ℕ) → AreBytes letters → byte_parse letters ≡ Some (value, rest)
        → (prefix : List ℕ) × one_byte.Spells value prefix × (letters ≡ prefix ++ rest)
    sound_byte [] rest value text found = absurd (none-some (value, rest) found)
    sound_byte (byte ∷ letters) rest value text found =
        let parts = some_pair_parts byte value letters rest found in
        (value ∷ [], (subst (λ n. n < 2 ^ 8) parts.0 text.0, refl), ap₂ ◌∷◌ parts.0 parts.1)

-- one value that nothing spells is a code
pub always_is_code : {A V : Type 0} (IsText : List A → Type 0) (only : V) → IsCode IsText (always {A = A} {V = V} only)
always_is_code {A} {V} IsText only = record {
  sound = λ letters rest value text found. of_parts letters rest value (some_pair_parts only value letters rest found);
  complete = λ prefix rest value spelled. ap₂ (λ (first : V) (letters : List A). Some (first, letters ++ rest)) (sym spelled.0) spelled.1;
  value = λ prefix value spelled. spelled.0;
  canonical = λ value fits. (fits, refl);
  least = λ prefix value spelled. omega arith;
}
  where
    of_parts : (letters rest : List A) (value : V) → (only ≡ value) × (letters ≡ rest)
        → (prefix : List A) × (always {A = A} {V = V} only).Spells value prefix × (letters ≡ prefix ++ rest)
    of_parts letters rest value parts = ([], (sym parts.0, refl), parts.1)

-- no value is a code
pub never_is_code : {A V : Type 0} (IsText : List A → Type 0) → IsCode IsText (never {A = A} {V = V})
never_is_code {A} {V} IsText = record {
  sound = λ letters rest value text found. absurd (none-some (value, rest) found);
  complete = λ prefix rest value spelled. absurd spelled;
  value = λ prefix value spelled. spelled;
  canonical = λ value fits. fits;
  least = λ prefix value spelled. absurd spelled;
}

-- a code that is chosen by a test is a code, where each of the two is one if the test chooses it
pub choose_is_code : {A V : Type 0} (IsText : List A → Type 0) (test : Bool) (chosen otherwise : Grammar A V)
    → (test ≡ true → IsCode IsText chosen) → (test ≡ false → IsCode IsText otherwise) → IsCode IsText (choose test chosen otherwise)
choose_is_code IsText true chosen otherwise first second = first refl
choose_is_code IsText false chosen otherwise first second = second refl

-- the values of a code that pass a test are a code
pub restrict_is_code : {A V : Type 0} (IsText : List A → Type 0) (test : V → Bool) (code : Grammar A V) → IsCode IsText code → IsCode IsText (restrict test code)
restrict_is_code {A} {V} IsText test code is = record {
  sound = λ letters rest value text found.
      option_and_then_some (λ (pair : V × List A). if test pair.0 then Some pair else None) (code.parse letters) (value, rest) found
      (λ pair was kept. if_some (test pair.0) (Some pair) None (value, rest) kept
      (λ passed same. subst (IsFound (restrict test code).Spells letters) (same_Some pair (value, rest) same) (of_sound letters pair passed (is.sound letters pair.1 pair.0 text was)))
      (λ failed none. absurd (none-some (value, rest) none)));
  complete = λ prefix rest value spelled.
      ap (option_and_then (λ (pair : V × List A). if test pair.0 then Some pair else None)) (is.complete prefix rest value spelled.1)
      ∙ ap (λ passed. if passed then Some (value, rest) else None) spelled.0;
  value = λ prefix value spelled. (spelled.0, is.value prefix value spelled.1);
  canonical = λ value fits. (fits.0, is.canonical value fits.1);
  least = λ prefix value spelled. is.least prefix value spelled.1;
}
  where
    of_sound : (letters : List A) (pair : V × List A) → test pair.0 ≡ true → IsFound code.Spells letters pair → IsFound (restrict test code).Spells letters pair
    of_sound letters pair passed found = (found.0, (passed, found.1), found.2)

-- a code and then another are a code
pub seq_is_code : {A V W : Type 0} (IsText : List A → Type 0) (first : Grammar A V) (second : V → Grammar A W)
    → IsClosed IsText → IsCode IsText first → ((value : V) → first.IsValue value → IsCode IsText (second value)) → IsCode IsText (seq first second)
seq_is_code {A} {V} {W} IsText first second closed is_first is_second = record {
  sound = λ letters rest value text found.
      option_and_then_some after (first.parse letters) (value, rest) found
      (λ one was others. option_map_some (λ (two : W × List A). ((one.0, two.0), two.1)) ((second one.0).parse one.1) (value, rest) others
      (λ two was_two same. subst (IsFound (seq first second).Spells letters) same (of_both letters text one two (is_first.sound letters one.1 one.0 text was) was_two)));
  complete = λ prefix rest value spelled. of_prefixes prefix rest value.0 value.1 spelled.0 spelled.1 spelled.2 spelled.3 spelled.4;
  value = λ prefix value spelled.
      let fits = is_first.value spelled.0 value.0 spelled.2 in
      (fits, (is_second value.0 fits).value spelled.1 value.1 spelled.3);
  canonical = λ value fits.
      (first.short value.0, (second value.0).short value.1, is_first.canonical value.0 fits.0, (is_second value.0 fits.0).canonical value.1 fits.1, refl);
  least = λ prefix value spelled. of_lengths prefix value spelled.0 spelled.1 spelled.2 spelled.3 spelled.4;
}
  where
    after : V × List A → Option ((V × W) × List A)
    after one = option_map (λ (two : W × List A). ((one.0, two.0), two.1)) ((second one.0).parse one.1)

    of_both : (letters : List A) → IsText letters → (one : V × List A) (two : W × List A) → IsFound first.Spells letters one → (second one.0).parse one.1 ≡ Some two
        → IsFound (seq first second).Spells letters ((one.0, two.0), two.1)
    of_both letters text one two found was =
        let after : IsText one.1 = closed found.0 one.1 (subst IsText found.2 text) in
        let next = (is_second one.0 (is_first.value found.0 one.0 found.1)).sound one.1 two.1 two.0 after was in
        (found.0 ++ next.0, (found.0, next.0, found.1, next.1, refl), found.2 ∙ ap (λ more. found.0 ++ more) next.2 ∙ sym (append_assoc found.0 next.0 two.1))

    of_prefixes : (letters rest : List A) (v : V) (w : W) (prefix back : List A) → first.Spells v prefix → (second v).Spells w back → letters ≡ prefix ++ back
        → (seq first second).parse (letters ++ rest) ≡ Some ((v, w), rest)
    of_prefixes letters rest v w prefix back s t same =
        ap (λ all. option_and_then after (first.parse all)) (ap (λ all. all ++ rest) same ∙ append_assoc prefix back rest)
        ∙ ap (option_and_then after) (is_first.complete prefix (back ++ rest) v s)
        ∙ ap (option_map (λ (two : W × List A). ((v, two.0), two.1))) ((is_second v (is_first.value prefix v s)).complete back rest w t)

    of_lengths : (letters : List A) (value : V × W) (prefix back : List A) → first.Spells value.0 prefix → (second value.0).Spells value.1 back → letters ≡ prefix ++ back
        → length (first.short value.0 ++ (second value.0).short value.1) ≤ length letters
    of_lengths letters value prefix back s t same =
        let one = is_first.least prefix value.0 s in
        let two = (is_second value.0 (is_first.value prefix value.0 s)).least back value.1 t in
        omega (arith, one, two, ap length same, length-append prefix back, length-append (first.short value.0) ((second value.0).short value.1))

-- what the values of a code are seen as is a code: what is seen is written by a value of the code that is seen so, and no shorter by another
pub image_is_code : {A V W : Type 0} (IsText : List A → Type 0) (IsSeen : W → Type 0) (into : V → W) (back : W → V) (code : Grammar A V) → IsCode IsText code
    → ((value : V) → code.IsValue value → IsSeen (into value))
    → ((seen : W) → IsSeen seen → code.IsValue (back seen) × (into (back seen) ≡ seen))
    → ((value : V) → code.IsValue value → length (code.short (back (into value))) ≤ length (code.short value))
    → IsCode IsText (image IsSeen into back code)
image_is_code {A} {V} {W} IsText IsSeen into back code is seen written least = record {
  sound = λ letters rest value text found.
      option_map_some (λ (found : V × List A). (into found.0, found.1)) (code.parse letters) (value, rest) found
      (λ pair was same. subst (IsFound (image IsSeen into back code).Spells letters) same (of_sound letters pair (is.sound letters pair.1 pair.0 text was)));
  complete = λ prefix rest value spelled.
      ap (option_map (λ (found : V × List A). (into found.0, found.1))) (is.complete prefix rest spelled.0 spelled.2)
      ∙ ap (λ (first : W). Some (first, rest)) (sym spelled.1);
  value = λ prefix value spelled. subst IsSeen (sym spelled.1) (seen spelled.0 (is.value prefix spelled.0 spelled.2));
  canonical = λ value fits. let back_fits = written value fits in (back value, sym back_fits.1, is.canonical (back value) back_fits.0);
  least = λ prefix value spelled.
      let one = is.least prefix spelled.0 spelled.2 in
      let two = least spelled.0 (is.value prefix spelled.0 spelled.2) in
      subst (λ (seen : W). length (code.short (back seen)) ≤ length prefix) (sym spelled.1) (omega (arith, one, two));
}
  where
    of_sound : (letters : List A) (pair : V × List A) → IsFound code.Spells letters pair → IsFound (image IsSeen into back code).Spells letters (into pair.0, pair.1)
    of_sound letters pair found = (found.0, (pair.0, refl, found.1), found.2)

-- the same where values that are seen alike are one, as of a struct that is seen by its parts
pub struct_is_code : {A V W : Type 0} (IsText : List A → Type 0) (IsSeen : W → Type 0) (into : V → W) (back : W → V) (code : Grammar A V) → IsCode IsText code
    → ((value : V) → code.IsValue value → IsSeen (into value))
    → ((seen : W) → IsSeen seen → code.IsValue (back seen) × (into (back seen) ≡ seen))
    → ((value : V) → code.IsValue value → back (into value) ≡ value)
    → IsCode IsText (image IsSeen into back code)
struct_is_code {A} {V} {W} IsText IsSeen into back code is seen written same =
    image_is_code IsText IsSeen into back code is seen written
    (λ value fits. subst (λ (one : V). length (code.short one) ≤ length (code.short value)) (sym (same value fits)) (omega arith))

-- a tag and a code by the tag are a code: what is written of a value is under a tag of its own, and no shorter under another
pub tagged_is_code : {A T V : Type 0} (IsText : List A → Type 0) (tags : Grammar A T) (by : T → Grammar A V) (IsTagged : V → Type 0) (pick : V → T)
    → IsClosed IsText → IsCode IsText tags → ((tag : T) → tags.IsValue tag → IsCode IsText (by tag))
    → ((tag : T) (value : V) → tags.IsValue tag → (by tag).IsValue value → IsTagged value)
    → ((value : V) → IsTagged value → tags.IsValue (pick value) × (by (pick value)).IsValue value)
    → ((tag : T) (value : V) → tags.IsValue tag → (by tag).IsValue value
    → length (tags.short (pick value)) + length ((by (pick value)).short value) ≤ length (tags.short tag) + length ((by tag).short value))
    → IsCode IsText (tagged tags by IsTagged pick)
tagged_is_code {A} {T} {V} IsText tags by IsTagged pick closed is_tags is_by tagged_value picked least = record {
  sound = λ letters rest value text found.
      option_and_then_some (λ (one : T × List A). (by one.0).parse one.1) (tags.parse letters) (value, rest) found
      (λ one was others. of_both letters rest value text one (is_tags.sound letters one.1 one.0 text was) others);
  complete = λ prefix rest value spelled. of_prefixes prefix rest value spelled.0 spelled.1 spelled.2 spelled.3 spelled.4 spelled.5;
  value = λ prefix value spelled.
      let fits = is_tags.value spelled.1 spelled.0 spelled.3 in
      tagged_value spelled.0 value fits ((is_by spelled.0 fits).value spelled.2 value spelled.4);
  canonical = λ value fits.
      let parts = picked value fits in
      (pick value, tags.short (pick value), (by (pick value)).short value, is_tags.canonical (pick value) parts.0, (is_by (pick value) parts.0).canonical value parts.1, refl);
  least = λ prefix value spelled. of_lengths prefix value spelled.0 spelled.1 spelled.2 spelled.3 spelled.4 spelled.5;
}
  where
    of_both : (letters rest : List A) (value : V) → IsText letters → (one : T × List A) → IsFound tags.Spells letters one → (by one.0).parse one.1 ≡ Some (value, rest)
        → IsFound (tagged tags by IsTagged pick).Spells letters (value, rest)
    of_both letters rest value text one found was =
        let after : IsText one.1 = closed found.0 one.1 (subst IsText found.2 text) in
        let next = (is_by one.0 (is_tags.value found.0 one.0 found.1)).sound one.1 rest value after was in
        (found.0 ++ next.0, (one.0, found.0, next.0, found.1, next.1, refl), found.2 ∙ ap (λ more. found.0 ++ more) next.2 ∙ sym (append_assoc found.0 next.0 rest))

    of_prefixes : (letters rest : List A) (value : V) (tag : T) (prefix back : List A) → tags.Spells tag prefix → (by tag).Spells value back → letters ≡ prefix ++ back
        → (tagged tags by IsTagged pick).parse (letters ++ rest) ≡ Some (value, rest)
    of_prefixes letters rest value tag prefix back s t same =
        ap (λ all. option_and_then (λ (one : T × List A). (by one.0).parse one.1) (tags.parse all)) (ap (λ all. all ++ rest) same ∙ append_assoc prefix back rest)
        ∙ ap (option_and_then (λ (one : T × List A). (by one.0).parse one.1)) (is_tags.complete prefix (back ++ rest) tag s)
        ∙ (is_by tag (is_tags.value prefix tag s)).complete back rest value t

    of_lengths : (letters : List A) (value : V) (tag : T) (prefix back : List A) → tags.Spells tag prefix → (by tag).Spells value back → letters ≡ prefix ++ back
        → length (tags.short (pick value) ++ (by (pick value)).short value) ≤ length letters
    of_lengths letters value tag prefix back s t same =
        let fits = is_tags.value prefix tag s in
        let one = is_tags.least prefix tag s in
        let two = (is_by tag fits).least back value t in
        let less = least tag value fits ((is_by tag fits).value back value t) in
        omega (arith, one, two, less, ap length same, length-append prefix back, length-append (tags.short (pick value)) ((by (pick value)).short value))
