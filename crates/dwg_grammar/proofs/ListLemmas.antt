-- Codes of options and of lists are codes.
use Rattle.std.proofs.Common.{◌≡◌, refl, sym, ◌∙◌, ap, subst, ℕ, zero, suc, ◌<◌, ◌≤◌, Bool, true, false, List, [], ◌∷◌, ◌++◌, length, Option, Some, None, arith}
use Rattle.std.specs.Prelude.{⊤, ◌≢◌, option_map, option_and_then, if◌then◌else◌}
use Rattle.std.proofs.lemmas.List.{append_assoc, length-append}
use Rattle.std.proofs.lemmas.Option.{none-some, same_Some, option_and_then_some}
use Rattle.dwg_grammar.specs.Grammar.{Grammar, IsCode}
use Rattle.dwg_grammar.proofs.CodeLemmas.{IsClosed}
use Rattle.dwg_grammar.specs.Combinators.{seq, when, SpellsChain, IsChain, parse_chain, short_chain, chain, items, counted, SpellsUntil, IsUntil, parse_until, short_until, until}
use Rattle.dwg_grammar.proofs.CombinatorLemmas.{IsFound, option_map_some, if_some, always_is_code, seq_is_code, struct_is_code}

-- a value that is there by a test is a code, where its code is one if the test holds
pub when_is_code : {A V : Type 0} (IsText : List A → Type 0) (test : Bool) (code : Grammar A V) → (test ≡ true → IsCode IsText code) → IsCode IsText (when test code)
when_is_code {A} {V} IsText true code is_code = record {
  sound = λ letters rest value text found.
      option_map_some (λ (found : V × List A). (Some found.0, found.1)) (code.parse letters) (value, rest) found
      (λ pair was same. subst (IsFound (when true code).Spells letters) same (of_sound letters pair (is.sound letters pair.1 pair.0 text was)));
  complete = λ prefix rest value spelled.
      ap (option_map (λ (found : V × List A). (Some found.0, found.1))) (is.complete prefix rest spelled.0 spelled.2)
      ∙ ap (λ (first : Option V). Some (first, rest)) (sym spelled.1);
  value = λ prefix value spelled. (spelled.0, spelled.1, is.value prefix spelled.0 spelled.2);
  canonical = λ value fits.
      (fits.0, fits.1, subst (λ (one : Option V). code.Spells fits.0 ((when true code).short one)) (sym fits.1) (is.canonical fits.0 fits.2));
  least = λ prefix value spelled.
      subst (λ (one : Option V). length ((when true code).short one) ≤ length prefix) (sym spelled.1) (is.least prefix spelled.0 spelled.2);
}
  where
    is : IsCode IsText code
    is = is_code refl

    of_sound : (letters : List A) (pair : V × List A) → IsFound code.Spells letters pair → IsFound (when true code).Spells letters (Some pair.0, pair.1)
    of_sound letters pair found = (found.0, (pair.0, refl, found.1), found.2)
when_is_code {A} {V} IsText false code is_code = always_is_code IsText None

-- what a chain spells of its count and its values
abbrev pub SpellsCounted : {A S V : Type 0} → (S → Grammar A V) → (V → S) → S → ℕ → List V → List A → Type 0
SpellsCounted {A} {S} {V} code next state count values letters = (length values ≡ count) × SpellsChain code next state values letters

-- what makes a chain a code: the code of each state that can come is one, and a value leads from such a state to such a state
pub record AreChained {A S V : Type 0} (IsText : List A → Type 0) (code : S → Grammar A V) (next : V → S) (IsState : S → Type 0) : Type 0 where
  pub state_is_code : (state : S) → IsState state → IsCode IsText (code state)
  pub next_is_state : (state : S) (value : V) → IsState state → (code state).IsValue value → IsState (next value)

-- a value and the chain after it are found one after the other
found_chain : {A S V : Type 0} (code : S → Grammar A V) (next : V → S) (count : ℕ) (state : S) (letters : List A) (one : V × List A) (others : List V × List A)
    → IsFound (code state).Spells letters one → IsFound (SpellsCounted code next (next one.0) count) one.1 others
    → IsFound (SpellsCounted code next state (suc count)) letters (one.0 ∷ others.0, others.1)
found_chain code next count state letters one others (prefix, first, same) (back, (long, rest), after) =
    (prefix ++ back, (ap suc long, (prefix, back, first, rest, refl)), same ∙ ap (λ last. prefix ++ last) after ∙ sym (append_assoc prefix back others.1))

-- a chain that is parsed is spelled by a prefix
sound_chain : {A S V : Type 0} (IsText : List A → Type 0) (code : S → Grammar A V) (next : V → S) (IsState : S → Type 0) → IsClosed IsText → AreChained IsText code next IsState
    → (count : ℕ) (state : S) (letters : List A) (found : List V × List A) → IsState state → IsText letters → parse_chain code next state count letters ≡ Some found
    → IsFound (SpellsCounted code next state count) letters found
sound_chain {A} {S} {V} IsText code next IsState closed is zero state letters found in_chain text same =
    subst (IsFound (SpellsCounted code next state 0) letters) (same_Some ([], letters) found same) ([], (refl, refl), refl)
sound_chain {A} {S} {V} IsText code next IsState closed is (suc count) state letters found in_chain text same =
    option_and_then_some
    (λ (one : V × List A). option_map (λ (others : List V × List A). (one.0 ∷ others.0, others.1)) (parse_chain code next (next one.0) count one.1))
    ((code state).parse letters) found same
    (λ one was after. option_map_some (λ (others : List V × List A). (one.0 ∷ others.0, others.1)) (parse_chain code next (next one.0) count one.1) found after
    (λ others was_others made. subst (IsFound (SpellsCounted code next state (suc count)) letters) made
    (let first : IsFound (code state).Spells letters one = (is.state_is_code state in_chain).sound letters one.1 one.0 text was in
    let more : IsText one.1 = closed first.0 one.1 (subst IsText first.2 text) in
    found_chain code next count state letters one others first (sound_chain IsText code next IsState closed is count (next one.0) one.1 others
    (is.next_is_state state one.0 in_chain ((is.state_is_code state in_chain).value first.0 one.0 first.1)) more was_others))))

-- a chain that is spelled by a prefix is parsed
complete_chain : {A S V : Type 0} (IsText : List A → Type 0) (code : S → Grammar A V) (next : V → S) (IsState : S → Type 0) → AreChained IsText code next IsState
    → (values : List V) (state : S) (letters rest : List A) → IsState state → SpellsChain code next state values letters
    → parse_chain code next state (length values) (letters ++ rest) ≡ Some (values, rest)
complete_chain {A} {S} {V} IsText code next IsState is [] state letters rest in_chain spelled = ap (λ (prefix : List A). Some ([], prefix ++ rest)) spelled
complete_chain {A} {S} {V} IsText code next IsState is (value ∷ values) state letters rest in_chain (prefix, back, first, others, same) =
    let after : V × List A → Option (List V × List A) =
    λ one. option_map (λ (others : List V × List A). (one.0 ∷ others.0, others.1)) (parse_chain code next (next one.0) (length values) one.1) in
    ap (λ all. option_and_then after ((code state).parse all)) (ap (λ all. all ++ rest) same ∙ append_assoc prefix back rest)
    ∙ ap (option_and_then after) ((is.state_is_code state in_chain).complete prefix (back ++ rest) value first)
    ∙ ap (option_map (λ (others : List V × List A). (value ∷ others.0, others.1))) (complete_chain IsText code next IsState is values (next value) back rest
    (is.next_is_state state value in_chain ((is.state_is_code state in_chain).value prefix value first)) others)

-- what a chain spells are values
pub value_chain : {A S V : Type 0} (IsText : List A → Type 0) (code : S → Grammar A V) (next : V → S) (IsState : S → Type 0) → AreChained IsText code next IsState
    → (values : List V) (state : S) (letters : List A) → IsState state → SpellsChain code next state values letters → IsChain code next state values
value_chain IsText code next IsState is [] state letters in_chain spelled = tt
value_chain IsText code next IsState is (value ∷ values) state letters in_chain (prefix, back, first, others, same) =
    let one = (is.state_is_code state in_chain).value prefix value first in
    (one, value_chain IsText code next IsState is values (next value) back (is.next_is_state state value in_chain one) others)

-- a chain of values is spelled by what is written of them
pub canonical_chain : {A S V : Type 0} (IsText : List A → Type 0) (code : S → Grammar A V) (next : V → S) (IsState : S → Type 0) → AreChained IsText code next IsState
    → (values : List V) (state : S) → IsState state → IsChain code next state values → SpellsChain code next state values (short_chain code next state values)
canonical_chain IsText code next IsState is [] state in_chain fits = refl
canonical_chain IsText code next IsState is (value ∷ values) state in_chain fits = (
  (code state).short value,
  short_chain code next (next value) values,
  (is.state_is_code state in_chain).canonical value fits.0,
  canonical_chain IsText code next IsState is values (next value) (is.next_is_state state value in_chain fits.0) fits.1,
  refl,
)

-- no spelling of a chain is shorter than the one that is written
pub least_chain : {A S V : Type 0} (IsText : List A → Type 0) (code : S → Grammar A V) (next : V → S) (IsState : S → Type 0) → AreChained IsText code next IsState
    → (values : List V) (state : S) (letters : List A) → IsState state → SpellsChain code next state values letters → length (short_chain code next state values) ≤ length letters
least_chain IsText code next IsState is [] state letters in_chain spelled = omega arith
least_chain IsText code next IsState is (value ∷ values) state letters in_chain (prefix, back, first, others, same) =
    let is_one = is.state_is_code state in_chain in
    let one = is_one.least prefix value first in
    let two = least_chain IsText code next IsState is values (next value) back (is.next_is_state state value in_chain (is_one.value prefix value first)) others in
    omega (arith, one, two, ap length same, length-append prefix back, length-append ((code state).short value) (short_chain code next (next value) values))

-- a chain of codes is a code
pub chain_is_code : {A S V : Type 0} (IsText : List A → Type 0) (code : S → Grammar A V) (next : V → S) (IsState : S → Type 0) (state : S) (count : ℕ)
    → IsClosed IsText → AreChained IsText code next IsState → IsState state → IsCode IsText (chain code next state count)
unfolding chain
chain_is_code {A} {S} {V} IsText code next IsState state count closed is in_chain = record {
  sound = λ letters rest value text found. sound_chain IsText code next IsState closed is count state letters (value, rest) in_chain text found;
  complete = λ prefix rest value spelled.
      ap (λ n. parse_chain code next state n (prefix ++ rest)) (sym spelled.0) ∙ complete_chain IsText code next IsState is value state prefix rest in_chain spelled.1;
  value = λ prefix value spelled. (spelled.0, value_chain IsText code next IsState is value state prefix in_chain spelled.1);
  canonical = λ value fits. (fits.0, canonical_chain IsText code next IsState is value state in_chain fits.1);
  least = λ prefix value spelled. least_chain IsText code next IsState is value state prefix in_chain spelled.1;
}

-- one code is chained to itself
pub self_chained : {A V : Type 0} (IsText : List A → Type 0) (code : Grammar A V) → IsCode IsText code → AreChained IsText (λ (state : ℕ). code) (λ value. 0) (λ state. ⊤)
self_chained IsText code is = record { state_is_code = λ state any. is; next_is_state = λ state value any fits. tt }

-- a list of so many values is a code
pub items_is_code : {A V : Type 0} (IsText : List A → Type 0) (code : Grammar A V) (count : ℕ) → IsClosed IsText → IsCode IsText code → IsCode IsText (items code count)
items_is_code IsText code count closed is =
    chain_is_code IsText (λ (state : ℕ). code) (λ value. 0) (λ state. ⊤) 0 count closed (self_chained IsText code is) tt

-- a count and so many values are a code
pub counted_is_code : {A V : Type 0} (IsText : List A → Type 0) (counts : Grammar A ℕ) (code : Grammar A V)
    → IsClosed IsText → IsCode IsText counts → IsCode IsText code → IsCode IsText (counted counts code)
unfolding chain
counted_is_code {A} {V} IsText counts code closed is_counts is =
    struct_is_code IsText (λ (values : List V). counts.IsValue (length values) × IsChain (λ (state : ℕ). code) (λ value. 0) 0 values)
    (λ (both : ℕ × List V). both.1) (λ (values : List V). (length values, values)) (seq counts (items code))
    (seq_is_code IsText counts (items code) closed is_counts (λ count fits. items_is_code IsText code count closed is))
    (λ both fits. (subst counts.IsValue (sym fits.1.0) fits.0, fits.1.1))
    (λ values fits. ((fits.0, (refl, fits.1)), refl))
    (λ both fits. ap (λ (count : ℕ). (count, both.1)) fits.1.0)

-- what makes lists up to a mark a code
pub record AreUntil {A T V : Type 0} (IsText : List A → Type 0) (tags : Grammar A T) (mark : T) (is_mark : T → Bool) (code : T → Grammar A V) (tag_of : V → T) (IsItem : V → Type 0) : Type 0 where
  -- tags are a code, and so is what is after each tag but the mark
  pub tag_is_code : IsCode IsText tags
  pub item_is_code : (tag : T) → tags.IsValue tag → tag ≢ mark → IsCode IsText (code tag)
  -- the mark is a tag, and the test gives it from the others
  pub mark_is_tag : tags.IsValue mark
  pub mark_passes : is_mark mark ≡ true
  pub only_mark_passes : (tag : T) → tags.IsValue tag → is_mark tag ≡ true → tag ≡ mark
  -- a tag has letters
  pub some_letters : (tag : T) (prefix : List A) → tags.Spells tag prefix → 1 ≤ length prefix
  -- the values after a tag are items of this tag, and an item is a value after its tag
  pub value_is_item : (tag : T) (value : V) → tags.IsValue tag → tag ≢ mark → (code tag).IsValue value → IsItem value × (tag_of value ≡ tag)
  pub item_is_value : (value : V) → IsItem value → tags.IsValue (tag_of value) × (tag_of value ≢ mark) × (code (tag_of value)).IsValue value

-- what is parsed after an item: the list that follows
abbrev pub list_after : {A T V : Type 0} → Grammar A T → (T → Bool) → (T → Grammar A V) → ℕ → V × List A → Option (List V × List A)
list_after {A} {T} {V} tags is_mark code fuel two = option_map (λ (others : List V × List A). (two.0 ∷ others.0, others.1)) (parse_until tags is_mark code fuel two.1)

-- what is parsed after a tag that isn't the mark
abbrev pub items_after : {A T V : Type 0} → Grammar A T → (T → Bool) → (T → Grammar A V) → ℕ → T × List A → Option (List V × List A)
items_after {A} {T} {V} tags is_mark code fuel one = option_and_then (list_after tags is_mark code fuel) ((code one.0).parse one.1)

-- what is parsed after a tag
abbrev pub tag_after : {A T V : Type 0} → Grammar A T → (T → Bool) → (T → Grammar A V) → ℕ → T × List A → Option (List V × List A)
tag_after {A} {T} {V} tags is_mark code fuel one = if is_mark one.0 then Some ([], one.1) else items_after tags is_mark code fuel one

-- a tag that isn't the mark fails the test for it
unmarked : {A T V : Type 0} (IsText : List A → Type 0) (tags : Grammar A T) (mark : T) (is_mark : T → Bool) (code : T → Grammar A V) (tag_of : V → T) (IsItem : V → Type 0)
    → AreUntil IsText tags mark is_mark code tag_of IsItem → (tag : T) → tags.IsValue tag → tag ≢ mark → (test : Bool) → is_mark tag ≡ test → test ≡ false
unmarked IsText tags mark is_mark code tag_of IsItem are tag fits other true passed = absurd (other (are.only_mark_passes tag fits passed))
unmarked IsText tags mark is_mark code tag_of IsItem are tag fits other false passed = refl

-- a tag, its item and the list after it are found one after the other
found_until : {A T V : Type 0} (tags : Grammar A T) (mark : T) (code : T → Grammar A V) (letters : List A) (one : T × List A) (two : V × List A) (others : List V × List A)
    → one.0 ≢ mark → IsFound tags.Spells letters one → IsFound (code one.0).Spells one.1 two → IsFound (SpellsUntil tags mark code) two.1 others
    → IsFound (SpellsUntil tags mark code) letters (two.0 ∷ others.0, others.1)
found_until tags mark code letters one two others other (prefix, first, same) (middle, second, after) (back, rest, last) = (
  prefix ++ middle ++ back,
  (one.0, prefix, middle, back, other, first, second, rest, refl),
  same ∙ ap (λ more. prefix ++ more) (after ∙ ap (λ more. middle ++ more) last)
      ∙ sym (append_assoc prefix middle (back ++ others.1)) ∙ sym (append_assoc (prefix ++ middle) back others.1),
)

-- a list up to a mark that is parsed is spelled by a prefix
sound_until : {A T V : Type 0} (IsText : List A → Type 0) (tags : Grammar A T) (mark : T) (is_mark : T → Bool) (code : T → Grammar A V) (tag_of : V → T) (IsItem : V → Type 0)
    → IsClosed IsText → AreUntil IsText tags mark is_mark code tag_of IsItem
    → (fuel : ℕ) (letters : List A) (found : List V × List A) → IsText letters → parse_until tags is_mark code fuel letters ≡ Some found
    → IsFound (SpellsUntil tags mark code) letters found
sound_until IsText tags mark is_mark code tag_of IsItem closed are zero letters found text same = absurd (none-some found same)
sound_until {A} {T} {V} IsText tags mark is_mark code tag_of IsItem closed are (suc fuel) letters found text same =
    option_and_then_some
    (tag_after tags is_mark code fuel) (tags.parse letters) found same
    (λ one was after.
    let first : IsFound tags.Spells letters one = are.tag_is_code.sound letters one.1 one.0 text was in
    let fits : tags.IsValue one.0 = are.tag_is_code.value first.0 one.0 first.1 in
    let second : IsText one.1 = closed first.0 one.1 (subst IsText first.2 text) in
    if_some (is_mark one.0) (Some ([], one.1)) (items_after tags is_mark code fuel one) found after
    (λ marked last. subst (IsFound (SpellsUntil tags mark code) letters) (same_Some ([], one.1) found last)
    (first.0, subst (λ tag. tags.Spells tag first.0) (are.only_mark_passes one.0 fits marked) first.1, first.2))
    (λ failed more.
    let other : one.0 ≢ mark = λ at. absurd (cc (are.mark_passes, ap is_mark at)) in
    option_and_then_some (list_after tags is_mark code fuel) ((code one.0).parse one.1) found more
    (λ two was_two rest. option_map_some (λ (others : List V × List A). (two.0 ∷ others.0, others.1)) (parse_until tags is_mark code fuel two.1) found rest
    (λ others was_others made. subst (IsFound (SpellsUntil tags mark code) letters) made
    (let middle : IsFound (code one.0).Spells one.1 two = (are.item_is_code one.0 fits other).sound one.1 two.1 two.0 second was_two in
    let third : IsText two.1 = closed middle.0 two.1 (subst IsText middle.2 second) in
    found_until tags mark code letters one two others other first middle
    (sound_until IsText tags mark is_mark code tag_of IsItem closed are fuel two.1 others third was_others))))))

-- a list up to a mark that is spelled by a prefix is parsed
complete_until : {A T V : Type 0} (IsText : List A → Type 0) (tags : Grammar A T) (mark : T) (is_mark : T → Bool) (code : T → Grammar A V) (tag_of : V → T) (IsItem : V → Type 0)
    → AreUntil IsText tags mark is_mark code tag_of IsItem
    → (fuel : ℕ) (values : List V) (letters rest : List A) → length values < fuel → SpellsUntil tags mark code values letters
    → parse_until tags is_mark code fuel (letters ++ rest) ≡ Some (values, rest)
complete_until IsText tags mark is_mark code tag_of IsItem are zero values letters rest enough spelled = absurd (omega arith)
complete_until {A} {T} {V} IsText tags mark is_mark code tag_of IsItem are (suc fuel) [] letters rest enough spelled =
    ap (option_and_then (tag_after tags is_mark code fuel)) (are.tag_is_code.complete letters rest mark spelled)
    ∙ ap (λ marked. if marked then Some ([], rest) else items_after tags is_mark code fuel (mark, rest)) are.mark_passes
complete_until {A} {T} {V} IsText tags mark is_mark code tag_of IsItem are (suc fuel) (value ∷ values) letters rest enough (tag, prefix, middle, back, other, first, second, others, same) =
    let fits : tags.IsValue tag = are.tag_is_code.value prefix tag first in
    let after : List A = middle ++ (back ++ rest) in
    let failed : is_mark tag ≡ false = unmarked IsText tags mark is_mark code tag_of IsItem are tag fits other (is_mark tag) refl in
    ap (λ all. option_and_then (tag_after tags is_mark code fuel) (tags.parse all))
    (ap (λ all. all ++ rest) same ∙ append_assoc (prefix ++ middle) back rest ∙ append_assoc prefix middle (back ++ rest))
    ∙ ap (option_and_then (tag_after tags is_mark code fuel)) (are.tag_is_code.complete prefix after tag first)
    ∙ ap (λ marked. if marked then Some ([], after) else items_after tags is_mark code fuel (tag, after)) failed
    ∙ ap (option_and_then (list_after tags is_mark code fuel)) ((are.item_is_code tag fits other).complete middle (back ++ rest) value second)
    ∙ ap (option_map (λ (others : List V × List A). (value ∷ others.0, others.1)))
    (complete_until IsText tags mark is_mark code tag_of IsItem are fuel values back rest (omega arith) others)

-- a list up to a mark has no more values than letters
letters_until : {A T V : Type 0} (IsText : List A → Type 0) (tags : Grammar A T) (mark : T) (is_mark : T → Bool) (code : T → Grammar A V) (tag_of : V → T) (IsItem : V → Type 0)
    → AreUntil IsText tags mark is_mark code tag_of IsItem → (values : List V) (letters : List A) → SpellsUntil tags mark code values letters → length values ≤ length letters
letters_until IsText tags mark is_mark code tag_of IsItem are [] letters spelled = omega arith
letters_until IsText tags mark is_mark code tag_of IsItem are (value ∷ values) letters (tag, prefix, middle, back, other, first, second, others, same) =
    let fewer = letters_until IsText tags mark is_mark code tag_of IsItem are values back others in
    let some = are.some_letters tag prefix first in
    omega (arith, fewer, some, ap length same, length-append (prefix ++ middle) back, length-append prefix middle)

-- what is spelled up to a mark are items
value_until : {A T V : Type 0} (IsText : List A → Type 0) (tags : Grammar A T) (mark : T) (is_mark : T → Bool) (code : T → Grammar A V) (tag_of : V → T) (IsItem : V → Type 0)
    → AreUntil IsText tags mark is_mark code tag_of IsItem → (values : List V) (letters : List A) → SpellsUntil tags mark code values letters → IsUntil IsItem values
value_until IsText tags mark is_mark code tag_of IsItem are [] letters spelled = tt
value_until IsText tags mark is_mark code tag_of IsItem are (value ∷ values) letters (tag, prefix, middle, back, other, first, second, others, same) =
    let fits = are.tag_is_code.value prefix tag first in (
      (are.value_is_item tag value fits other ((are.item_is_code tag fits other).value middle value second)).0,
      value_until IsText tags mark is_mark code tag_of IsItem are values back others,
    )

-- a list of items is spelled by what is written of it
canonical_until : {A T V : Type 0} (IsText : List A → Type 0) (tags : Grammar A T) (mark : T) (is_mark : T → Bool) (code : T → Grammar A V) (tag_of : V → T) (IsItem : V → Type 0)
    → AreUntil IsText tags mark is_mark code tag_of IsItem → (values : List V) → IsUntil IsItem values → SpellsUntil tags mark code values (short_until tags mark code tag_of values)
canonical_until IsText tags mark is_mark code tag_of IsItem are [] fit = are.tag_is_code.canonical mark are.mark_is_tag
canonical_until IsText tags mark is_mark code tag_of IsItem are (value ∷ values) fit =
    let item = are.item_is_value value fit.0 in
    let tag = tag_of value in (
      tag,
      tags.short tag,
      (code tag).short value,
      short_until tags mark code tag_of values,
      item.1,
      are.tag_is_code.canonical tag item.0,
      (are.item_is_code tag item.0 item.1).canonical value item.2,
      canonical_until IsText tags mark is_mark code tag_of IsItem are values fit.1,
      refl,
    )

-- no spelling of a list up to a mark is shorter than the one that is written
least_until : {A T V : Type 0} (IsText : List A → Type 0) (tags : Grammar A T) (mark : T) (is_mark : T → Bool) (code : T → Grammar A V) (tag_of : V → T) (IsItem : V → Type 0)
    → AreUntil IsText tags mark is_mark code tag_of IsItem → (values : List V) (letters : List A) → SpellsUntil tags mark code values letters
    → length (short_until tags mark code tag_of values) ≤ length letters
least_until IsText tags mark is_mark code tag_of IsItem are [] letters spelled = are.tag_is_code.least letters mark spelled
least_until IsText tags mark is_mark code tag_of IsItem are (value ∷ values) letters (tag, prefix, middle, back, other, first, second, others, same) =
    let fits = are.tag_is_code.value prefix tag first in
    let is = are.item_is_code tag fits other in
    let own : tag_of value ≡ tag = (are.value_is_item tag value fits other (is.value middle value second)).1 in
    let one : length (tags.short (tag_of value)) ≤ length prefix =
    subst (λ t. length (tags.short t) ≤ length prefix) (sym own) (are.tag_is_code.least prefix tag first) in
    let two : length ((code (tag_of value)).short value) ≤ length middle =
    subst (λ t. length ((code t).short value) ≤ length middle) (sym own) (is.least middle value second) in
    let more = least_until IsText tags mark is_mark code tag_of IsItem are values back others in
    omega (
      arith,
      one,
      two,
      more,
      ap length same,
      length-append (prefix ++ middle) back,
      length-append prefix middle,
      length-append (tags.short (tag_of value) ++ (code (tag_of value)).short value) (short_until tags mark code tag_of values),
      length-append (tags.short (tag_of value)) ((code (tag_of value)).short value),
    )

-- lists up to a mark are a code
pub until_is_code : {A T V : Type 0} (IsText : List A → Type 0) (tags : Grammar A T) (mark : T) (is_mark : T → Bool) (code : T → Grammar A V) (tag_of : V → T) (IsItem : V → Type 0)
    → IsClosed IsText → AreUntil IsText tags mark is_mark code tag_of IsItem → IsCode IsText (until tags mark is_mark code tag_of IsItem)
unfolding until
until_is_code {A} {T} {V} IsText tags mark is_mark code tag_of IsItem closed are = record {
  sound = λ letters rest value text found.
      sound_until IsText tags mark is_mark code tag_of IsItem closed are (suc (length letters)) letters (value, rest) text found;
  complete = λ prefix rest value spelled.
      let fewer = letters_until IsText tags mark is_mark code tag_of IsItem are value prefix spelled in
      complete_until IsText tags mark is_mark code tag_of IsItem are (suc (length (prefix ++ rest))) value prefix rest (omega (arith, fewer, length-append prefix rest)) spelled;
  value = λ prefix value spelled. value_until IsText tags mark is_mark code tag_of IsItem are value prefix spelled;
  canonical = λ value fits. canonical_until IsText tags mark is_mark code tag_of IsItem are value fits;
  least = λ prefix value spelled. least_until IsText tags mark is_mark code tag_of IsItem are value prefix spelled;
}
