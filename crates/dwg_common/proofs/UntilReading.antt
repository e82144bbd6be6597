-- Values up to a mark, read one by one: a tag, and after each that isn't the mark a value.
use Rattle.std.proofs.Common.{◌≡◌, refl, sym, ◌∙◌, ap, ℕ, zero, suc, ◌<◌, ◌≤◌, Bool, false, List, [], ◌∷◌, ◌++◌, length, Option, Some, None, arith}
use Rattle.std.specs.Prelude.{◌==◌, ◌≢◌, option_and_then, if◌then◌else◌}
use Rattle.std.proofs.lemmas.Bool.Decides.{nat_tests}
use Rattle.std.specs.Option.{option_map}
use Rattle.std.proofs.lemmas.List.{append_assoc, length-append}
use Rattle.dwg_grammar.specs.Combinators.{parse_until}
use Rattle.dwg_grammar.specs.Grammar.{Grammar, IsCode, AnyLetters}

-- values that are found after others
abbrev pub found_after : {V : Type 0} → List V → List V × List Bool → List V × List Bool
found_after {V} found others = (found ++ others.0, others.1)

-- after none, nothing changes
pub after_none : {V : Type 0} (parsed : Option (List V × List Bool)) → parsed ≡ option_map (found_after []) parsed
after_none None = refl
after_none (Some others) = refl

-- after a value more
pub after_more : {V : Type 0} (found more : List V) (value : V) (parsed : Option (List V × List Bool)) → more ≡ found ++ value ∷ []
    → option_map (found_after found) (option_map (λ (others : List V × List Bool). (value ∷ others.0, others.1)) parsed) ≡ option_map (found_after more) parsed
after_more found more value None same = refl
after_more {V} found more value (Some others) same =
    ap (λ (all : List V). Some (all, others.1)) (sym (append_assoc found (value ∷ []) others.0) ∙ ap (λ (prefix : List V). prefix ++ others.0) (sym same))

-- one more before values that are found
abbrev pub before_it : {V : Type 0} → V → List V × List Bool → List V × List Bool
before_it {V} value others = (value ∷ others.0, others.1)

-- what is parsed after a value, and after a tag
abbrev after_value : {T V : Type 0} → Grammar Bool T → (T → Bool) → (T → Grammar Bool V) → ℕ → V × List Bool → Option (List V × List Bool)
after_value {T} {V} tags is_mark code fuel two = option_map (before_it two.0) (parse_until tags is_mark code fuel two.1)

abbrev after_tag : {T V : Type 0} → Grammar Bool T → (T → Bool) → (T → Grammar Bool V) → ℕ → T × List Bool → Option (List V × List Bool)
after_tag {T} {V} tags is_mark code fuel one = if is_mark one.0 then Some ([], one.1) else option_and_then (after_value tags is_mark code fuel) ((code one.0).parse one.1)

-- each tag takes bits, and both are codes
pub record TakeBits {T V : Type 0} (tags : Grammar Bool T) (code : T → Grammar Bool V) : Type 0 where
  pub tag_is_code : IsCode AnyLetters tags
  pub some_bits : (tag : T) (prefix : List Bool) → tags.Spells tag prefix → 1 ≤ length prefix
  pub value_is_code : (tag : T) → IsCode AnyLetters (code tag)

-- so fewer bits are left after a tag
pub shorter : {T V : Type 0} (tags : Grammar Bool T) (code : T → Grammar Bool V) (letters left : List Bool) (tag : T) → TakeBits tags code → tags.parse letters ≡ Some (tag, left)
    → length left < length letters
shorter tags code letters left tag take was =
    let found = take.tag_is_code.sound letters left tag tt was in
    omega (arith, take.some_bits tag found.0 found.1, ap length found.2, length-append found.0 left)

-- and no more after its value
no_longer : {T V : Type 0} (tags : Grammar Bool T) (code : T → Grammar Bool V) (tag : T) (letters left : List Bool) (value : V) → TakeBits tags code
    → (code tag).parse letters ≡ Some (value, left) → length left ≤ length letters
no_longer tags code tag letters left value take was =
    let found = (take.value_is_code tag).sound letters left value tt was in
    omega (arith, ap length found.2, length-append found.0 left)

-- a tag and its value take bits
pub value_takes : {T V : Type 0} (tags : Grammar Bool T) (code : T → Grammar Bool V) (tag : T) (value : V) (now mid new : List Bool) → TakeBits tags code
    → tags.parse now ≡ Some (tag, mid) → (code tag).parse mid ≡ Some (value, new) → length new < length now
value_takes tags code tag value now mid new take was_tag was_value =
    omega (arith, shorter tags code now mid tag take was_tag, no_longer tags code tag mid new value take was_value)

-- what was found of what is parsed
pub found_parsed : {V : Type 0} (code : Grammar Bool V) (found : Option V) (value : V) (old new : List Bool) → found ≡ Some value
    → code.parse old ≡ option_map (λ (one : V). (one, new)) found → code.parse old ≡ Some (value, new)
found_parsed {V} code found value old new is was = was ∙ ap (option_map (λ (one : V). (one, new))) is

-- after a tag the same is parsed in other turns, where it is of fewer bits
same_after : {T V : Type 0} (tags : Grammar Bool T) (is_mark : T → Bool) (code : T → Grammar Bool V) (f g : ℕ) (letters : List Bool) (parsed : Option (T × List Bool))
    → TakeBits tags code → tags.parse letters ≡ parsed
    → ((rest : List Bool) → length rest < length letters → parse_until tags is_mark code f rest ≡ parse_until tags is_mark code g rest)
    → option_and_then (after_tag tags is_mark code f) parsed ≡ option_and_then (after_tag tags is_mark code g) parsed
same_after tags is_mark code f g letters None take was same = refl
same_after {T} {V} tags is_mark code f g letters (Some one) take was same =
    ap (λ (others : Option (List V × List Bool)). if is_mark one.0 then Some ([], one.1) else others) (by_value ((code one.0).parse one.1) refl)
  where
    by_value : (found : Option (V × List Bool)) → (code one.0).parse one.1 ≡ found
        → option_and_then (after_value tags is_mark code f) found ≡ option_and_then (after_value tags is_mark code g) found
    by_value None is = refl
    by_value (Some two) is =
        ap (option_map (before_it two.0))
        (same two.1 (omega (arith, shorter tags code letters one.1 one.0 take was, no_longer tags code one.0 one.1 two.1 two.0 take is)))

-- more turns than bits are enough
enough : {T V : Type 0} (tags : Grammar Bool T) (is_mark : T → Bool) (code : T → Grammar Bool V) (f g : ℕ) (letters : List Bool) → TakeBits tags code
    → length letters < f → length letters < g → parse_until tags is_mark code f letters ≡ parse_until tags is_mark code g letters
enough tags is_mark code zero g letters take first second = absurd (omega (arith, first))
enough tags is_mark code (suc f) zero letters take first second = absurd (omega (arith, second))
enough tags is_mark code (suc f) (suc g) letters take first second =
    same_after tags is_mark code f g letters (tags.parse letters) take refl
    (λ rest fewer. enough tags is_mark code f g rest take (omega (arith, first, fewer)) (omega (arith, second, fewer)))

-- what is parsed of all bits, in more turns than there are bits
abbrev pub parse_all : {T V : Type 0} → Grammar Bool T → (T → Bool) → (T → Grammar Bool V) → List Bool → Option (List V × List Bool)
parse_all {T} {V} tags is_mark code letters = parse_until tags is_mark code (suc (length letters)) letters

-- some values were read: what is parsed of all is what is parsed of those that are left, after those that were found
abbrev pub AreBegun : {T V : Type 0} → Grammar Bool T → (T → Bool) → (T → Grammar Bool V) → List V → List Bool → List Bool → Type 0
AreBegun {T} {V} tags is_mark code found old now = parse_all tags is_mark code old ≡ option_map (found_after found) (parse_all tags is_mark code now)

-- a value more is read
pub one_begun : {T V : Type 0} (tags : Grammar Bool T) (is_mark : T → Bool) (code : T → Grammar Bool V) (found more : List V) (tag : T) (value : V) (old now mid new : List Bool)
    → TakeBits tags code → is_mark tag ≡ false → more ≡ found ++ value ∷ [] → tags.parse now ≡ Some (tag, mid) → (code tag).parse mid ≡ Some (value, new)
    → AreBegun tags is_mark code found old now → AreBegun tags is_mark code more old new
one_begun {T} {V} tags is_mark code found more tag value old now mid new take other pushed was_tag was_value so_far =
    so_far
    ∙ ap (λ (one : Option (T × List Bool)). option_map (found_after found) (option_and_then (after_tag tags is_mark code (length now)) one)) was_tag
    ∙ ap (λ (test : Bool). option_map (found_after found) (if test then Some ([], mid) else option_and_then (after_value tags is_mark code (length now)) ((code tag).parse mid))) other
    ∙ ap (λ (two : Option (V × List Bool)). option_map (found_after found) (option_and_then (after_value tags is_mark code (length now)) two)) was_value
    ∙ ap (λ (others : Option (List V × List Bool)). option_map (found_after found) (option_map (before_it value) others))
    (enough tags is_mark code (length now) (suc (length new)) new take
    (omega (arith, shorter tags code now mid tag take was_tag, no_longer tags code tag mid new value take was_value)) (omega arith))
    ∙ after_more found more value (parse_all tags is_mark code new) pushed

-- a number that isn't the mark 0 fails its test
pub unmarked : (tag : ℕ) → tag ≢ 0 → (tag == 0) ≡ false
unmarked tag other = grind (arith, nat_tests, other)
