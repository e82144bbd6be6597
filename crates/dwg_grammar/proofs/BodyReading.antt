-- What was read of a code is what is parsed by it, and what is parsed by a body is read.
use Rattle.std.proofs.Common.{◌≡◌, refl, ◌∙◌, ap, ℕ, ◌^◌, ◌<◌, Bool, List, length, Option, Some, None}
use Rattle.std.specs.Option.{option_map}
use Rattle.dwg_grammar.specs.Codes.{rc}
use Rattle.dwg_grammar.specs.Combinators.{when, items}
use Rattle.dwg_grammar.proofs.CodeLemmas.{reads_none}
use Rattle.dwg_grammar.proofs.CombinatorLemmas.{any_letters_closed}
use Rattle.dwg_grammar.specs.Grammar.{Grammar, IsCode, AnyLetters, BeginsWith, Reads}
use Rattle.dwg_grammar.proofs.ListLemmas.{when_is_code, items_is_code}
use Rattle.dwg_grammar.proofs.NumberLemmas.{rc_is_code}
use Rattle.dwg_grammar.specs.Reference.{Reference}
use Rattle.dwg_grammar.specs.ReferenceCodes.{reference}
use Rattle.dwg_grammar.proofs.ReferenceLemmas.{reference_is_code}
use Rattle.dwg_grammar.specs.Bodies.{BodyGrammar, BeginsWithBody, IsBody}

-- letters that begin with no value are parsed as none
unparsed : {A V : Type 0} (code : Grammar A V) (letters : List A) (found : Option (V × List A)) → IsCode AnyLetters code → (BeginsWith code letters → ⊥) → code.parse letters ≡ found → found ≡ None
unparsed code letters None is none same = refl
unparsed code letters (Some one) is none same = let parts = is.sound letters one.1 one.0 tt same in absurd (none (one.0, parts.0, one.1, parts.1, parts.2))

-- what was read is what is parsed, and what is left are the letters after
pub parsed : {A V : Type 0} (code : Grammar A V) (found : Option V) (old new : List A) → IsCode AnyLetters code → Reads code found old new
    → code.parse old ≡ option_map (λ (value : V). (value, new)) found
parsed code (Some value) old new is (prefix, spelled, whole) = ap code.parse whole ∙ is.complete prefix new value spelled
parsed code None old new is (none, same) = unparsed code old (code.parse old) is none refl

-- what was read where a test holds is what is parsed there
pub parsed_when : {A V : Type 0} (code : Grammar A V) (present : Bool) (found : Option (Option V)) (old new : List A) → IsCode AnyLetters code → Reads (when present code) found old new
    → (when present code).parse old ≡ option_map (λ (value : Option V). (value, new)) found
parsed_when code present found old new is read = parsed (when present code) found old new (when_is_code AnyLetters present code (λ holds. is)) read

-- what is parsed is read
pub parsed_read : {A V : Type 0} (code : Grammar A V) (found : Option V) (value : V) (old new : List A) → IsCode AnyLetters code → found ≡ Some value
    → code.parse old ≡ option_map (λ (one : V). (one, new)) found → Reads code (Some value) old new
parsed_read {A} {V} code found value old new is same was =
    is.sound old new value tt (was ∙ ap (option_map (λ (one : V). (one, new))) same)

-- and where nothing is parsed nothing is read
pub parsed_unread : {A V : Type 0} (code : Grammar A V) (found : Option V) (old new : List A) → IsCode AnyLetters code → found ≡ None
    → code.parse old ≡ option_map (λ (one : V). (one, new)) found → Reads code None old old
parsed_unread {A} {V} code found old new is same was = reads_none AnyLetters code old is (was ∙ ap (option_map (λ (one : V). (one, new))) same)

-- so of a reference
pub ref_parsed : (base : ℕ) (found : Option Reference) (old new : List Bool) → base < 2 ^ 63 → Reads (reference base) found old new
    → (reference base).parse old ≡ option_map (λ (value : Reference). (value, new)) found
ref_parsed base found old new small read = parsed (reference base) found old new (reference_is_code base small) read

-- of so many references
pub refs_parsed : (base count : ℕ) (found : Option (List Reference)) (old new : List Bool) → base < 2 ^ 63 → Reads (items (reference base) count) found old new
    → (items (reference base) count).parse old ≡ option_map (λ (value : List Reference). (value, new)) found
refs_parsed base count found old new small read =
    parsed (items (reference base) count) found old new (items_is_code AnyLetters (reference base) count any_letters_closed (reference_is_code base small)) read

-- and of so many bytes
pub bytes_parsed : (count : ℕ) (found : Option (List ℕ)) (old new : List Bool) → Reads (items rc count) found old new
    → (items rc count).parse old ≡ option_map (λ (value : List ℕ). (value, new)) found
bytes_parsed count found old new read = parsed (items rc count) found old new (items_is_code AnyLetters rc count any_letters_closed rc_is_code) read

-- what is parsed by a body is read
pub body_read : {V : Type 0} (base : ℕ) (body : BodyGrammar V) (found : Option V) (value : V) (main main_left references references_left : List Bool) → IsBody base body → found ≡ Some value
    → body.parse main references ≡ option_map (λ (one : V). (one, (main_left, references_left))) found → BeginsWithBody body value main main_left references references_left
body_read {V} base body found value main main_left references references_left is same was =
    is.sound main main_left references references_left value (was ∙ ap (option_map (λ (one : V). (one, (main_left, references_left)))) same)

-- it fits
pub body_value : {V : Type 0} (base : ℕ) (body : BodyGrammar V) (found : Option V) (value : V) (main main_left references references_left : List Bool) → IsBody base body → found ≡ Some value
    → body.parse main references ≡ option_map (λ (one : V). (one, (main_left, references_left))) found → body.Fits value
body_value base body found value main main_left references references_left is same was =
    let begins = body_read base body found value main main_left references references_left is same was in
    is.value value begins.main_prefix begins.reference_prefix (length references_left) begins.spelled

-- what is parsed by a code has a spelling
pub parsed_value : {V : Type 0} (code : Grammar Bool V) (value : V) (old new : List Bool) → IsCode AnyLetters code → code.parse old ≡ Some (value, new) → code.IsValue value
parsed_value code value old new is found = let parts = is.sound old new value tt found in is.value parts.0 value parts.1
