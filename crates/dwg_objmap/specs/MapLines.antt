-- The lines of the table of refusals on the object map, tried page by page and within a page pair by pair. A rule of this project, over the map of the Open Design Specification, "Object map".
use Rattle.std.specs.Prelude.{◌≡◌, ◌≢◌, ◌⊎◌, Bool, ℕ, zero, suc, ◌+◌, ◌-◌, ◌*◌, ◌<◌, ◌≤◌, not, ◌&&◌, List, [], ◌∷◌, ◌++◌, length, take, drop, flat_map, slice_index, nat_lt, ◌==◌, Option, Some, None, Ok, Err, Contains, if◌then◌else◌}
use Rattle.std.specs.List.{list_any}
use Rattle.dwg_base.specs.Refusals.{Tried}
use Rattle.dwg_base.specs.Refusal.{Refusal}
use Rattle.dwg_check.specs.CheckWord.{CHECK_SEED, check_word}
use Rattle.dwg_grammar.specs.Grammar.{BeginsWith}
use Rattle.dwg_objmap.specs.declared.pair.Pair.{Pair}
use Rattle.dwg_objmap.specs.Pairs.{ORIGIN, PairSpells, pair_after}
use Rattle.dwg_objmap.specs.Pages.{PagesAt, PairsSpell, AreHandles, handles_of}

-- the refusal of a page, or of a pair in it, by a line
abbrev pub map_refusal : ℕ → ℕ → ℕ → Refusal
map_refusal line index place = record { line = line; index = index; place = place }

-- the two bytes at a place as a number, the most significant byte first
abbrev pub word_at : List ℕ → ℕ → ℕ
word_at bytes place = 256 * slice_index bytes place + slice_index bytes (place + 1)

-- the size and the pairs of the page at a place, over which its check word is
abbrev pub sized_at : List ℕ → ℕ → List ℕ
sized_at bytes place = take (word_at bytes place) (drop place bytes)

-- the pairs of the page at a place
abbrev pub body_at : List ℕ → ℕ → List ℕ
body_at bytes place = drop 2 (sized_at bytes place)

-- the place after the page at a place
abbrev pub page_end : List ℕ → ℕ → ℕ
page_end bytes place = place + word_at bytes place + 2

-- the last of the pairs so far, from which the next is written
abbrev pub last_of : Pair → List Pair → Pair
last_of before [] = before
last_of before (pair ∷ pairs) = last_of pair pairs

-- one of the pairs has the handle
abbrev pub has_handle : List Pair → ℕ → Bool
has_handle pairs handle = list_any (λ (pair : Pair). pair.handle == handle) pairs

-- what a pair that was parsed gives, or its refusal: none is spelled, its handle is null, or an earlier pair has it; others is what the bytes after it give
abbrev pub with_pair : ℕ → List Pair → ℕ → (Pair → List ℕ → Tried (List Pair)) → Option (Pair × List ℕ) → Tried (List Pair)
with_pair index seen place others None = Err (map_refusal 24 index place)
with_pair index seen place others (Some (pair, rest)) =
    if pair.handle == 0 then Err (map_refusal 25 index place)
    else (if has_handle seen pair.handle then Err (map_refusal 26 index place)
    else others pair rest)

-- the pairs seen before and those that the bytes of a page spell after the last of them in the page, or the first refusal; no more pairs follow than the fuel
unfoldable pub pairs_after : ℕ → ℕ → List Pair → Pair → ℕ → List ℕ → Tried (List Pair)
pairs_after zero index seen last place bytes = Ok seen
pairs_after (suc fuel) index seen last place [] = Ok seen
pairs_after (suc fuel) index seen last place (byte ∷ bytes) =
    with_pair index seen place
    (λ pair rest. pairs_after fuel index (seen ++ pair ∷ []) pair (place + (length (byte ∷ bytes) - length rest)) rest)
    ((pair_after last).parse (byte ∷ bytes))

-- the pairs seen before and those of the page at a place, or the first refusal: the page is short, its size is below 2, its check word is wrong, or a pair fails
unfoldable pub page_after : List Pair → ℕ → ℕ → List ℕ → Tried (List Pair)
page_after seen place index bytes =
    if nat_lt (length bytes) (place + 2) then Err (map_refusal 21 index place)
    else (if not (nat_lt (word_at bytes place) 2) && nat_lt (length bytes) (page_end bytes place) then Err (map_refusal 21 index place)
    else (if nat_lt (word_at bytes place) 2 then Err (map_refusal 22 index place)
    else (if not (word_at bytes (place + word_at bytes place) == check_word CHECK_SEED (sized_at bytes place)) then Err (map_refusal 23 index (place + word_at bytes place))
    else pairs_after (length (body_at bytes place)) index seen ORIGIN (place + 2) (body_at bytes place))))

-- what the next pages give after the pairs seen, if the page at the place isn't the last
abbrev pub with_page : List ℕ → ℕ → (List Pair → Tried (List Pair)) → Tried (List Pair) → Tried (List Pair)
with_page bytes place others (Err refusal) = Err refusal
with_page bytes place others (Ok seen) = if word_at bytes place == 2 then Ok seen else others seen

-- the pairs seen before and those of the pages from a place, or the first refusal; no more pages follow than the fuel
unfoldable pub pages_after : ℕ → List Pair → ℕ → ℕ → List ℕ → Tried (List Pair)
pages_after zero seen place index bytes = Ok seen
pages_after (suc fuel) seen place index bytes =
    with_page bytes place
    (λ (all : List Pair). pages_after fuel all (page_end bytes place) (index + 1) bytes)
    (page_after seen place index bytes)

-- the pairs of the page at a place alone, or the first refusal
unfoldable pub tried_page : ℕ → ℕ → List ℕ → Tried (List Pair)
tried_page place index bytes = page_after [] place index bytes

-- the pairs of the map from a place, or the first refusal
unfoldable pub tried_map : ℕ → List ℕ → Tried (List Pair)
tried_map place bytes = pages_after (suc (length bytes)) [] place 0 bytes

-- the pair after these bytes of its page fails: its handle is null, or an earlier pair has it
abbrev pub IsBadPair : List Pair → Pair → ℕ → ℕ → Refusal → Type 0
IsBadPair earlier pair index place refusal =
    ((refusal ≡ map_refusal 25 index place) × (pair.handle ≡ 0))
    ⊎ ((refusal ≡ map_refusal 26 index place) × (0 < pair.handle) × Contains (handles_of earlier) pair.handle)

-- the refusal is that of the first pair of a page that fails: after pairs of the page that are spelled, whose handles are positive and new, either no pair is spelled, or a bad one
pub record FailsAtPair (seen : List Pair) (place index : ℕ) (body : List ℕ) (refusal : Refusal) : Type 0 where
  pub before : List Pair
  pub prefix : List ℕ
  pub rest : List ℕ
  pub spelled : PairsSpell before prefix
  pub whole : body ≡ prefix ++ rest
  pub more : rest ≢ []
  pub handles : AreHandles (handles_of (seen ++ before))
  pub fails :
      ((refusal ≡ map_refusal 24 index (place + length prefix)) × (BeginsWith (pair_after (last_of ORIGIN before)) rest → ⊥))
      ⊎ ((pair : Pair) × (spelling : List ℕ) × (after : List ℕ) × PairSpells (last_of ORIGIN before) pair spelling × (rest ≡ spelling ++ after)
      × IsBadPair (seen ++ before) pair index (place + length prefix) refusal)

-- the page at a place lies in the input with its check word
abbrev pub HasPage : List ℕ → ℕ → Type 0
HasPage bytes place = (2 ≤ word_at bytes place) × (page_end bytes place ≤ length bytes)

-- the check word of the page at a place is right
abbrev pub HasPageWord : List ℕ → ℕ → Type 0
HasPageWord bytes place = word_at bytes (place + word_at bytes place) ≡ check_word CHECK_SEED (sized_at bytes place)

-- the refusal is that of the page at a place, after the pairs seen before it: the page is short, its size is below 2, its check word is wrong, or a pair fails
abbrev pub RefusesPage : List Pair → ℕ → ℕ → List ℕ → Refusal → Type 0
RefusesPage seen place index bytes refusal =
    ((refusal ≡ map_refusal 21 index place) × (length bytes < place + 2))
    ⊎ ((refusal ≡ map_refusal 21 index place) × (place + 2 ≤ length bytes) × (2 ≤ word_at bytes place) × (length bytes < page_end bytes place))
    ⊎ ((refusal ≡ map_refusal 22 index place) × (place + 2 ≤ length bytes) × (word_at bytes place < 2))
    ⊎ ((refusal ≡ map_refusal 23 index (place + word_at bytes place)) × HasPage bytes place × (HasPageWord bytes place → ⊥))
    ⊎ (HasPage bytes place × HasPageWord bytes place × FailsAtPair seen (place + 2) index (body_at bytes place) refusal)

-- the refusal is that of the map from a place: after pages that have pairs, whose handles are positive and distinct, the next page is refused
pub record RefusesMap (place : ℕ) (bytes : List ℕ) (refusal : Refusal) : Type 0 where
  pub pages : List (List Pair)
  pub last : ℕ
  pub stand : PagesAt bytes place pages last
  pub handles : AreHandles (handles_of (flat_map (λ (page : List Pair). page) pages))
  pub refuses : RefusesPage (flat_map (λ (page : List Pair). page) pages) last (length pages) bytes refusal
