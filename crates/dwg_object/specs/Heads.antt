-- The head of an object (Open Design Specification, "R13 to R2000 file layout, object data"): where it ends, its own handle, and that bits begin with one at the most.
use Rattle.std.specs.Prelude.{◌≡◌, ℕ, ◌^◌, ◌<◌, Bool, List, ◌++◌, length, Option, option_map}
use Rattle.dwg_base.specs.declared.version.Version.{Version}
use Rattle.dwg_base.specs.declared.version.Version.TheVariants.{Ac1014, Ac1015}
use Rattle.dwg_grammar.specs.Codes.{bs, rl}
use Rattle.dwg_grammar.specs.Combinators.{seq, image}
use Rattle.dwg_grammar.specs.Grammar.{Grammar}
use Rattle.dwg_grammar.specs.ReferenceCodes.{own_handle}
use Rattle.dwg_grammar.specs.Versions.{since_1015}
use Rattle.dwg_object.specs.Objects.{HeadParts}

-- the bit size as a head reports it: in AC1014 it stands in the common part, and that of a head is 0
abbrev pub head_size : Version → Grammar Bool ℕ
head_size version = since_1015 version 0 rl

abbrev pub size_given : Version → ℕ → ℕ
size_given Ac1014 size = 0
size_given Ac1015 size = size

-- the parts of a head lie in their ranges
pub record IsHead (version : Version) (parts : HeadParts) : Type 0 where
  pub number : parts.number < 2 ^ 16
  pub size : (head_size version).IsValue parts.size
  pub positive : 0 < parts.own
  pub own : parts.own < 2 ^ 63

-- BS type number; in AC1015 RL bit size; H own handle
unfoldable pub head : Version → Grammar Bool HeadParts
head version =
    image (IsHead version) (λ parts. record { number = parts.0; size = parts.1.0; own = parts.1.1 }) (λ parts. (parts.number, (parts.size, parts.own)))
    (seq bs (λ number. seq (head_size version) (λ size. own_handle)))

-- the bits begin with this head
pub record HasHead (version : Version) (letters : List Bool) (parts : HeadParts) : Type 0 where
  pub prefix : List Bool
  pub rest : List Bool
  pub spelled : (head version).Spells parts prefix
  pub whole : letters ≡ prefix ++ rest

-- the bits begin with a head of this number and this own handle
pub record BeginsWithHead (version : Version) (letters : List Bool) (number own : ℕ) : Type 0 where
  pub size : ℕ
  pub prefix : List Bool
  pub rest : List Bool
  pub spelled : (head version).Spells (record { number = number; size = size; own = own }) prefix
  pub whole : letters ≡ prefix ++ rest

-- the bits begin with this head, which takes so many of them
pub record IsHeadAt (version : Version) (letters : List Bool) (parts : HeadParts) (end : ℕ) : Type 0 where
  pub has : HasHead version letters parts
  pub far : length has.prefix ≡ end

-- the own handle in the head that the bits begin with
abbrev pub own_of : Version → List Bool → Option ℕ
own_of version letters = option_map (λ (parts : HeadParts). parts.own) (option_map (λ (found : HeadParts × List Bool). found.0) ((head version).parse letters))

-- bits begin with one number and one own handle at the most
abbrev pub HeadsAreOne : Type 0
HeadsAreOne =
    (version : Version) (letters : List Bool) (number own other other_own : ℕ)
    → BeginsWithHead version letters number own → BeginsWithHead version letters other other_own → (number ≡ other) × (own ≡ other_own)
