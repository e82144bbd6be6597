-- What holds of values one after the other, and of those that go to the end of the letters.
use Rattle.std.proofs.Common.{◌≡◌, refl, sym, ◌∙◌, ap, ap₂, subst, ℕ, ◌^◌, ◌<◌, ◌≤◌, Bool, List, [], ◌∷◌, ◌++◌, length, arith}
use Rattle.std.specs.Prelude.{⊤}
use Rattle.std.proofs.lemmas.List.{append_assoc, append-nil, append_cancel_left, length-append}
use Rattle.dwg_grammar.specs.Grammar.{Grammar, IsCode, BeginsWith}
use Rattle.dwg_grammar.specs.Combinators.{fixed, tagged}
use Rattle.dwg_grammar.specs.Codes.{bs, bs_by}
use Rattle.dwg_grammar.proofs.CodeLemmas.{unique_of_code}
use Rattle.dwg_grammar.proofs.ListLemmas.{self_chained, value_chain, canonical_chain, least_chain}
use Rattle.dwg_grammar.specs.ToEnd.{SpellsAll, AreValues, short_all, SpellsToEnd, HaveLeast, IsCutUniquely}

-- what is spelled are values
pub value_all : {A V : Type 0} (IsText : List A → Type 0) (code : Grammar A V) (values : List V) (letters : List A) → IsCode IsText code → SpellsAll code values letters → AreValues code values
value_all IsText code values letters is spelled =
    value_chain IsText (λ (state : ℕ). code) (λ value. 0) (λ state. ⊤) (self_chained IsText code is) values 0 letters tt spelled

-- values are spelled by what is written of them
pub canonical_all : {A V : Type 0} (IsText : List A → Type 0) (code : Grammar A V) (values : List V) → IsCode IsText code → AreValues code values → SpellsAll code values (short_all code values)
canonical_all IsText code values is are =
    canonical_chain IsText (λ (state : ℕ). code) (λ value. 0) (λ state. ⊤) (self_chained IsText code is) values 0 tt are

-- no spelling of values is shorter than what is written of them
pub least_all : {A V : Type 0} (IsText : List A → Type 0) (code : Grammar A V) (values : List V) (letters : List A) → IsCode IsText code → SpellsAll code values letters
    → length (short_all code values) ≤ length letters
least_all IsText code values letters is spelled =
    least_chain IsText (λ (state : ℕ). code) (λ value. 0) (λ state. ⊤) (self_chained IsText code is) values 0 letters tt spelled

-- values after values are spelled one list after the other
pub spells_all_append : {A V : Type 0} (code : Grammar A V) (values others : List V) (prefix back : List A) → SpellsAll code values prefix → SpellsAll code others back
    → SpellsAll code (values ++ others) (prefix ++ back)
spells_all_append code [] others prefix back spelled spelled_others = subst (λ first. SpellsAll code others (first ++ back)) (sym spelled) spelled_others
spells_all_append code (value ∷ values) others prefix back (first, rest, one, more, same) spelled_others = (
  first,
  rest ++ back,
  one,
  spells_all_append code values others rest back more spelled_others,
  ap (λ all. all ++ back) same ∙ append_assoc first rest back,
)

-- a value is a list of one
pub spells_one : {A V : Type 0} (code : Grammar A V) (value : V) (letters : List A) → code.Spells value letters → SpellsAll code (value ∷ []) letters
spells_one code value letters spelled = (letters, [], spelled, refl, sym (append-nil letters))

-- a value after values is spelled after them
pub spells_one_more : {A V : Type 0} (code : Grammar A V) (values : List V) (value : V) (prefix letters : List A) → SpellsAll code values prefix → code.Spells value letters
    → SpellsAll code (values ++ value ∷ []) (prefix ++ letters)
spells_one_more code values value prefix letters spelled one = spells_all_append code values (value ∷ []) prefix letters spelled (spells_one code value letters one)

-- no value after a tag has fewer bits than the tag
pub tag_is_least : {V : Type 0} (count : ℕ) (by : ℕ → Grammar Bool V) (IsTagged : V → Type 0) (pick : V → ℕ) → HaveLeast count (tagged (fixed count) by IsTagged pick)
tag_is_least count by IsTagged pick value prefix (tag, first, back, tag_spelled, spelled, same) = omega (arith, tag_spelled.0, ap length same, length-append first back)

-- no BS has fewer than two bits
pub bs_least : HaveLeast 2 bs
bs_least value prefix spelled = tag_is_least 2 bs_by (λ value. value < 2 ^ 16) (λ value. 0) value prefix spelled

-- values after which too few letters for another are left go to the end
pub all_to_end : {A V : Type 0} (least : ℕ) (code : Grammar A V) (values : List V) (letters prefix left : List A) → SpellsAll code values prefix → letters ≡ prefix ++ left → length left < least
    → SpellsToEnd least code values letters left
all_to_end least code values letters prefix left spelled same few = record {
  prefix = prefix;
  spelled = spelled;
  whole = same;
  short = few;
}

-- two spellings before the same letters spell one value, and the same letters are after
same_first : {A V : Type 0} (IsText : List A → Type 0) (code : Grammar A V) (value other : V) (prefix back rest other_prefix other_back other_rest letters other_letters : List A) → IsCode IsText code
    → code.Spells value prefix → letters ≡ prefix ++ back → code.Spells other other_prefix → other_letters ≡ other_prefix ++ other_back → letters ++ rest ≡ other_letters ++ other_rest
    → (value ≡ other) × (back ++ rest ≡ other_back ++ other_rest)
same_first IsText code value other prefix back rest other_prefix other_back other_rest letters other_letters is spelled whole spelled_other whole_other same =
    let joined : prefix ++ (back ++ rest) ≡ other_prefix ++ (other_back ++ other_rest) =
    sym (append_assoc prefix back rest) ∙ ap (λ all. all ++ rest) (sym whole) ∙ same ∙ ap (λ all. all ++ other_rest) whole_other ∙ append_assoc other_prefix other_back other_rest in
    let one = unique_of_code IsText code is value other prefix other_prefix (back ++ rest) (other_back ++ other_rest) spelled spelled_other joined in
    (one.0, append_cancel_left prefix (back ++ rest) (other_back ++ other_rest) (joined ∙ ap (λ first. first ++ (other_back ++ other_rest)) (sym one.1)))

-- two cuttings of the same letters give the same values and leave the same letters
cut_alike : {A V : Type 0} (IsText : List A → Type 0) (least : ℕ) (code : Grammar A V) → IsCode IsText code → HaveLeast least code
    → (values others : List V) (prefix other_prefix left other_left : List A) → SpellsAll code values prefix → SpellsAll code others other_prefix
    → length left < least → length other_left < least → prefix ++ left ≡ other_prefix ++ other_left → (values ≡ others) × (left ≡ other_left)
cut_alike IsText least code is have [] [] prefix other_prefix left other_left spelled spelled_others few other_few same =
    (refl, ap (λ first. first ++ left) (sym spelled) ∙ same ∙ ap (λ first. first ++ other_left) spelled_others)
cut_alike IsText least code is have [] (other ∷ others) prefix other_prefix left other_left spelled (first, rest, one, more, whole) few other_few same =
    let long = have other first one in
    absurd (omega (arith, ap length spelled, ap length whole, ap length same, length-append prefix left, length-append other_prefix other_left, length-append first rest))
cut_alike IsText least code is have (value ∷ values) [] prefix other_prefix left other_left (first, rest, one, more, whole) spelled_others few other_few same =
    let long = have value first one in
    absurd (omega (arith, ap length spelled_others, ap length whole, ap length same, length-append prefix left, length-append other_prefix other_left, length-append first rest))
cut_alike IsText least code is have (value ∷ values) (other ∷ others) prefix other_prefix left other_left (first, rest, one, more, whole) (other_first, other_rest, other_one, other_more, other_whole) few other_few same =
    let alike = same_first IsText code value other first rest left other_first other_rest other_left prefix other_prefix is one whole other_one other_whole same in
    let after = cut_alike IsText least code is have values others rest other_rest left other_left more other_more few other_few alike.1 in
    (ap₂ ◌∷◌ alike.0 after.0, after.1)

-- letters are cut into values in one way at the most, where no value has fewer letters than end the cutting
pub cut_uniquely : {A V : Type 0} (IsText : List A → Type 0) (least : ℕ) (code : Grammar A V) → IsCode IsText code → HaveLeast least code → IsCutUniquely least code
cut_uniquely IsText least code is have values others letters left other_left cut other_cut =
    cut_alike IsText least code is have values others cut.prefix other_cut.prefix left other_left cut.spelled other_cut.spelled cut.short other_cut.short (sym cut.whole ∙ other_cut.whole)

-- letters that spell some values and then none don't spell more values
pub no_more_all : {A V : Type 0} (IsText : List A → Type 0) (code : Grammar A V) → IsCode IsText code
    → (before values : List V) (prefix after whole rest : List A) → SpellsAll code before prefix → SpellsAll code values whole → prefix ++ after ≡ whole ++ rest
    → length before < length values → (BeginsWith code after → ⊥) → ⊥
no_more_all IsText code is before [] prefix after whole rest spelled spelled_all same fewer none = omega arith
no_more_all IsText code is [] (value ∷ values) prefix after whole rest spelled (first, back, one, more, cut) same fewer none =
    none (
      value,
      first,
      back ++ rest,
      one,
      ap (λ all. all ++ after) (sym spelled) ∙ same ∙ ap (λ all. all ++ rest) cut ∙ append_assoc first back rest,
    )
no_more_all IsText code is (earlier ∷ before) (value ∷ values) prefix after whole rest (first, back, one, more, cut) (other_first, other_back, other_one, other_more, other_cut) same fewer none =
    let alike = same_first IsText code earlier value first back after other_first other_back rest prefix whole is one cut other_one other_cut same in
    no_more_all IsText code is before values back after other_back rest more other_more alike.1 (omega arith) none

-- letters that spell some values, and then none though enough letters for one are left, have no cutting
stuck_after : {A V : Type 0} (IsText : List A → Type 0) (least : ℕ) (code : Grammar A V) → IsCode IsText code
    → (before values : List V) (prefix after whole left : List A) → SpellsAll code before prefix → SpellsAll code values whole → prefix ++ after ≡ whole ++ left
    → least ≤ length after → length left < least → (BeginsWith code after → ⊥) → ⊥
stuck_after IsText least code is before [] prefix after whole left spelled spelled_all same enough few none =
    omega (arith, ap length spelled_all, ap length same, length-append prefix after, length-append whole left)
stuck_after IsText least code is [] (value ∷ values) prefix after whole left spelled spelled_all same enough few none =
    no_more_all IsText code is [] (value ∷ values) prefix after whole left spelled spelled_all same (omega arith) none
stuck_after IsText least code is (earlier ∷ before) (value ∷ values) prefix after whole left (first, back, one, more, cut) (other_first, other_back, other_one, other_more, other_cut) same enough few none =
    let alike = same_first IsText code earlier value first back after other_first other_back left prefix whole is one cut other_one other_cut same in
    stuck_after IsText least code is before values back after other_back left more other_more alike.1 enough few none

-- so they are cut in no way
pub no_cut_to_end : {A V : Type 0} (IsText : List A → Type 0) (least : ℕ) (code : Grammar A V) → IsCode IsText code
    → (before : List V) (letters prefix after : List A) → SpellsAll code before prefix → letters ≡ prefix ++ after → least ≤ length after → (BeginsWith code after → ⊥)
    → (values : List V) (left : List A) → SpellsToEnd least code values letters left → ⊥
no_cut_to_end IsText least code is before letters prefix after spelled same enough none values left cut =
    stuck_after IsText least code is before values prefix after cut.prefix left spelled cut.spelled (sym same ∙ cut.whole) enough cut.short none
