-- Pages of the map as recovery reads them: each by itself, whatever is wrong with its pairs or its check word. A rule of this project, over the map of the Open Design Specification, "Object map".
use Rattle.std.specs.Prelude.{◌≡◌, ◌↔◌, ℕ, zero, suc, ◌+◌, ◌≤◌, Bool, ◌&&◌, nat_le, ◌==◌, List, [], ◌∷◌, ◌++◌, length, Option, Some, None, if◌then◌else◌}
use Rattle.dwg_base.specs.Bytes.{AreBytes}
use Rattle.dwg_check.specs.CheckWord.{CHECK_SEED, check_word}
use Rattle.dwg_objmap.specs.declared.pair.Pair.{Pair}
use Rattle.dwg_objmap.specs.Pairs.{ORIGIN, pair_after}
use Rattle.dwg_objmap.specs.Pages.{PairsSpell, PageAt}
use Rattle.dwg_objmap.specs.MapLines.{word_at, sized_at, body_at, page_end, HasPage, HasPageWord}

-- the pairs are the longest list that a prefix of the bytes spells
pub record AreLongest (body : List ℕ) (pairs : List Pair) : Type 0 where
  pub prefix : List ℕ
  pub rest : List ℕ
  pub spelled : PairsSpell pairs prefix
  pub whole : body ≡ prefix ++ rest
  pub longest : (others : List Pair) (other_prefix other_rest : List ℕ) → PairsSpell others other_prefix → body ≡ other_prefix ++ other_rest → length others ≤ length pairs

-- the pairs seen, where no pair was parsed after them; else what the bytes after that pair give
abbrev pub with_next : List Pair → (Pair → List ℕ → List Pair) → Option (Pair × List ℕ) → List Pair
with_next seen others None = seen
with_next seen others (Some (pair, rest)) = others pair rest

-- the pairs seen and those that the bytes spell after the last of them, up to where none is parsed; no more pairs follow than the fuel
unfoldable pub pairs_from : ℕ → List Pair → Pair → List ℕ → List Pair
pairs_from zero seen last bytes = seen
pairs_from (suc fuel) seen last bytes = with_next seen (λ pair rest. pairs_from fuel (seen ++ pair ∷ []) pair rest) ((pair_after last).parse bytes)

-- the leading pairs of the bytes, up to where none is parsed
unfoldable pub leading_pairs : List ℕ → List Pair
leading_pairs body = pairs_from (length body) [] ORIGIN body

-- the size of the page at a place, where it is 2 or more and the page lies in the input with its check word
unfoldable pub size_of_page : List ℕ → ℕ → Option ℕ
size_of_page bytes place = if nat_le 2 (word_at bytes place) && nat_le (page_end bytes place) (length bytes) then Some (word_at bytes place) else None

-- whether the check word of the page at a place is right
abbrev pub page_holds_at : List ℕ → ℕ → Bool
page_holds_at bytes place = word_at bytes (place + word_at bytes place) == check_word CHECK_SEED (sized_at bytes place)

-- the leading pairs that are computed of bytes are the longest
abbrev pub LongestIsComputed : Type 0
LongestIsComputed = (body : List ℕ) → AreBytes body → AreLongest body (leading_pairs body)

-- bytes have one longest list of pairs
abbrev pub LongestIsUnique : Type 0
LongestIsUnique = (body : List ℕ) (pairs others : List Pair) → AreLongest body pairs → AreLongest body others → pairs ≡ others

-- bytes that pairs spell give just these
abbrev pub WholeIsLeading : Type 0
WholeIsLeading = (body : List ℕ) (pairs : List Pair) → PairsSpell pairs body → leading_pairs body ≡ pairs

-- a page that stands at a place gives its own pairs
abbrev pub PageGivesItsPairs : Type 0
PageGivesItsPairs =
    (bytes : List ℕ) (place next : ℕ) (pairs : List Pair) → PageAt bytes place pairs next
    → HasPage bytes place × HasPageWord bytes place × (next ≡ page_end bytes place) × (leading_pairs (body_at bytes place) ≡ pairs)

-- a page has a size exactly where it lies in the input, and then it is the word at its begin
abbrev pub SizeIsThere : Type 0
SizeIsThere = (bytes : List ℕ) (place size : ℕ) → (size_of_page bytes place ≡ Some size) ↔ (HasPage bytes place × (size ≡ word_at bytes place))
