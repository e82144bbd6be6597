-- Heads are a code, so what is parsed of bits is the one head that they begin with.
use Rattle.std.proofs.Common.{◌≡◌, refl, sym, ◌∙◌, ap, ℕ, ◌^◌, ◌<◌, Bool, List, Option, Some, None, arith}
use Rattle.dwg_base.specs.declared.version.Version.{Version}
use Rattle.dwg_base.specs.declared.version.Version.TheVariants.{Ac1014, Ac1015}
use Rattle.dwg_base.specs.Versions.{is_newer}
use Rattle.std.specs.Prelude.{option_map}
use Rattle.dwg_grammar.specs.Grammar.{IsCode, AnyLetters}
use Rattle.dwg_grammar.proofs.CodeLemmas.{unique_of_code, reads_none}
use Rattle.dwg_grammar.specs.Codes.{bs, rl}
use Rattle.dwg_grammar.specs.Combinators.{seq}
use Rattle.dwg_grammar.proofs.CombinatorLemmas.{any_letters_closed, seq_is_code, struct_is_code}
use Rattle.dwg_grammar.proofs.NumberLemmas.{rl_is_code}
use Rattle.dwg_grammar.proofs.VersionLemmas.{given_is_code}
use Rattle.dwg_grammar.proofs.TableLemmas.{bs_is_code}
use Rattle.dwg_grammar.proofs.OwnLemmas.{own_is_code}
use Rattle.dwg_grammar.specs.ReferenceCodes.{own_handle}
use Rattle.dwg_object.specs.Objects.{HeadParts}
use Rattle.dwg_object.specs.Heads.{IsHead, HasHead, BeginsWithHead, head, head_size, HeadsAreOne, own_of}

-- heads are a code
pub head_is_code : (version : Version) → IsCode AnyLetters (head version)
unfolding head own_handle
head_is_code version =
    struct_is_code AnyLetters (IsHead version) (λ parts. record { number = parts.0; size = parts.1.0; own = parts.1.1 }) (λ parts. (parts.number, (parts.size, parts.own)))
    (seq bs (λ number. seq (head_size version) (λ size. own_handle)))
    (seq_is_code AnyLetters bs (λ number. seq (head_size version) (λ size. own_handle)) any_letters_closed bs_is_code
    (λ number fits. seq_is_code AnyLetters (head_size version) (λ size. own_handle) any_letters_closed (given_is_code AnyLetters (is_newer version) 0 rl rl_is_code) (λ size fits. own_is_code)))
    (λ parts fits. record { number = fits.0; size = fits.1.0; positive = fits.1.1.0; own = fits.1.1.1 })
    (λ parts fits. ((fits.number, (fits.size, (fits.positive, fits.own))), refl))
    (λ parts fits. refl)

-- its bit size is one of an RL
pub size_small : (version : Version) (parts : HeadParts) → IsHead version parts → parts.size < 2 ^ 32
size_small Ac1014 parts is = let none : parts.size ≡ 0 = is.size in omega (arith, none)
size_small Ac1015 parts is = is.size

-- bits begin with at most one head
pub heads_same : {version : Version} (letters : List Bool) (parts other : HeadParts) → HasHead version letters parts → HasHead version letters other → parts ≡ other
heads_same {version} letters parts other is was =
    (unique_of_code AnyLetters (head version) (head_is_code version) parts other is.prefix was.prefix is.rest was.rest is.spelled was.spelled (sym is.whole ∙ was.whole)).0

-- a head of a number and an own handle is a head
pub head_begins : {version : Version} (letters : List Bool) (number own : ℕ) (begins : BeginsWithHead version letters number own) → HasHead version letters (record { number = number; size = begins.size; own = own })
head_begins letters number own begins = record { prefix = begins.prefix; rest = begins.rest; spelled = begins.spelled; whole = begins.whole }

-- a head is one of its number and its own handle
pub begins_head : {version : Version} (letters : List Bool) (parts : HeadParts) → HasHead version letters parts → BeginsWithHead version letters parts.number parts.own
begins_head letters parts is = record { size = parts.size; prefix = is.prefix; rest = is.rest; spelled = is.spelled; whole = is.whole }

-- so they have one number and one own handle
pub begins_same : HeadsAreOne
begins_same version letters number own other other_own is was =
    let same = heads_same letters _ _ (head_begins letters number own is) (head_begins letters other other_own was) in
    (ap (λ (parts : HeadParts). parts.number) same, ap (λ (parts : HeadParts). parts.own) same)

-- the parts of a head lie in their ranges
pub head_fits : {version : Version} (letters : List Bool) (parts : HeadParts) → HasHead version letters parts → IsHead version parts
unfolding head
head_fits {version} letters parts is = (head_is_code version).value is.prefix parts is.spelled

-- what is parsed is a head that the bits begin with
pub head_parsed : {version : Version} (letters rest : List Bool) (parts : HeadParts) → (head version).parse letters ≡ Some (parts, rest) → HasHead version letters parts
head_parsed {version} letters rest parts same = let is = (head_is_code version).sound letters rest parts tt same in record { prefix = is.0; rest = rest; spelled = is.1; whole = is.2 }

-- where none is parsed, they begin with none
pub head_unparsed : {version : Version} (letters : List Bool) → (head version).parse letters ≡ None → (parts : HeadParts) → HasHead version letters parts → ⊥
head_unparsed {version} letters same parts is = (reads_none AnyLetters (head version) letters (head_is_code version) same).0 (parts, is.prefix, is.rest, is.spelled, is.whole)

-- what the begin of the bits reports of a head: its parts, or that there is none
abbrev pub ReportsHead : Version → List Bool → Option HeadParts → Type 0
ReportsHead version letters (Some parts) = HasHead version letters parts
ReportsHead version letters None = (parts : HeadParts) → HasHead version letters parts → ⊥

-- what is parsed of a head is what the bits report
pub head_reported : (version : Version) (letters : List Bool) → ReportsHead version letters (option_map (λ (found : HeadParts × List Bool). found.0) ((head version).parse letters))
head_reported version letters = of_found ((head version).parse letters) refl
  where
    of_found : (found : Option (HeadParts × List Bool)) → (head version).parse letters ≡ found → ReportsHead version letters (option_map (λ (found : HeadParts × List Bool). found.0) found)
    of_found (Some (parts, rest)) same = head_parsed letters rest parts same
    of_found None same = head_unparsed letters same

-- and it is all that they report
pub head_only : (version : Version) (letters : List Bool) (reported other : Option HeadParts) → ReportsHead version letters reported → ReportsHead version letters other → reported ≡ other
head_only version letters (Some parts) (Some other) is was = ap Some (heads_same letters parts other is was)
head_only version letters (Some parts) None is none = absurd (none parts is)
head_only version letters None (Some other) none was = absurd (none other was)
head_only version letters None None none also = refl

-- it is that of every head that the bits report
pub own_reported : (version : Version) (letters : List Bool) (reported : Option HeadParts) → ReportsHead version letters reported → option_map (λ (parts : HeadParts). parts.own) reported ≡ own_of version letters
own_reported version letters reported is =
    ap (option_map (λ (parts : HeadParts). parts.own))
    (head_only version letters reported (option_map (λ (found : HeadParts × List Bool). found.0) ((head version).parse letters)) is (head_reported version letters))
