-- How pages are filled, said of the whole map without a loop.
use Rattle.std.proofs.Common.{◌≡◌, refl, sym, ◌∙◌, ap, ap₂, subst, ℕ, zero, suc, ◌+◌, ◌<◌, ◌≤◌, Bool, true, false, List, [], ◌∷◌, ◌++◌, length, arith, append_assoc, length-append}
use Rattle.std.specs.Prelude.{◌≢◌, ⊤, slice_index, flat_map, if◌then◌else◌}
use Rattle.std.specs.List.{AllByRecursion}
use Rattle.std.proofs.lemmas.Bool.Decides.{nat_tests}
use Rattle.std.proofs.lemmas.List.{append-nil}
use Rattle.std.specs.Int.{w16, to_be_bytes}
use Rattle.dwg_base.specs.Bytes.{StandsAt}
use Rattle.dwg_base.proofs.ByteLists.{joined_are_bytes}
use Rattle.dwg_check.specs.CheckWord.{CHECK_SEED, check_word}
use Rattle.dwg_grammar.specs.Combinators.{short_chain}
use Rattle.dwg_grammar.proofs.ModularBytes.{AreFewBytes, mc_few, signed_mc_few}
use Rattle.dwg_objmap.specs.declared.pair.Pair.{Pair}
use Rattle.dwg_objmap.specs.Pairs.{IsPair, ORIGIN, pair_after}
use Rattle.dwg_objmap.proofs.PairLemmas.{pair_is_code}
use Rattle.dwg_objmap.specs.Pages.{PairsSpell, PageAt, PagesAt, AreHandles, handles_of, MapOf, page_bytes}
use Rattle.dwg_objmap.specs.MapLines.{last_of}
use Rattle.dwg_objmap.proofs.PairChains.{origin_is_pair, last_of_more, spell_more, pair_has_bytes}
use Rattle.dwg_objmap.proofs.MapLemmas.{joined}
use Rattle.dwg_objmap.specs.Writing.{MOST_PAGE, OpenPage, FRESH, reported_after, written_from, added, has_room, given, filled, closing_body, closing, map_after, map_bytes, Ascend, body_of, HasNoRoom, AreFilled, IsFilling}

-- what spells a pair are at most twenty bytes
pub pair_few : (before pair : Pair) (bytes : List ℕ) → (pair_after before).Spells pair bytes → AreFewBytes 20 bytes
unfolding pair_after
pair_few before pair bytes spelled =
    let one = mc_few spelled.step spelled.prefix spelled.step_spelled in
    let two = signed_mc_few spelled.move spelled.back spelled.move_spelled in
    subst (AreFewBytes 20) (sym spelled.whole) (record {
      few = omega (arith, one.few, two.few, length-append spelled.prefix spelled.back);
      are_bytes = joined_are_bytes spelled.prefix spelled.back one.are_bytes two.are_bytes;
    })

-- a pair after another of no greater handle is a value there
pair_is_value : (before pair : Pair) → IsPair pair → before.handle ≤ pair.handle → (pair_after before).IsValue pair
unfolding pair_after
pair_is_value before pair fits above = (fits, above)

-- so it is spelled by what is written of it
pub pair_written : (before pair : Pair) → IsPair before → IsPair pair → before.handle ≤ pair.handle → (pair_after before).Spells pair ((pair_after before).short pair)
pair_written before pair fits_before fits above = (pair_is_code before fits_before).canonical pair (pair_is_value before pair fits above)

-- pairs, and then one more, are written one after the other
pub short_more : (pairs : List Pair) (before pair : Pair)
    → short_chain pair_after (λ pair. pair) before (pairs ++ pair ∷ []) ≡ short_chain pair_after (λ pair. pair) before pairs ++ (pair_after (last_of before pairs)).short pair
short_more [] before pair = append-nil ((pair_after before).short pair)
short_more (other ∷ pairs) before pair =
    ap (λ rest. (pair_after before).short other ++ rest) (short_more pairs other pair)
    ∙ sym (append_assoc ((pair_after before).short other) (short_chain pair_after (λ pair. pair) other pairs) ((pair_after (last_of other pairs)).short pair))

-- the open page holds these pairs
pub record Holds (page : OpenPage) (held : List Pair) : Type 0 where
  pub body : page.body ≡ body_of held
  pub spelled : PairsSpell held page.body
  pub last : page.last ≡ last_of ORIGIN held
  pub fits : IsPair page.last
  pub size : 2 + length page.body ≤ MOST_PAGE

-- no bytes hold no pair
pub some_bytes : (pair : Pair) (pairs : List Pair) (body : List ℕ) → PairsSpell (pair ∷ pairs) body → 0 < length body
some_bytes pair pairs body (prefix, back, one, others, same) = omega (arith, pair_has_bytes ORIGIN pair prefix one, ap length same, length-append prefix back)

-- the next pair is written from the last one held
pub reported_last : (page : OpenPage) (held : List Pair) → Holds page held → written_from page ≡ last_of ORIGIN held
reported_last page [] holds = ap (λ body. reported_after body page.last) holds.spelled
reported_last page (pair ∷ pairs) holds = of_some page.body (some_bytes pair pairs page.body holds.spelled) ∙ holds.last
  where
    of_some : (body : List ℕ) → 0 < length body → reported_after body page.last ≡ page.last
    of_some [] some = absurd (omega arith)
    of_some (byte ∷ bytes) some = refl

-- from a pair that is no greater than the last one put
pub reported_fits : (page : OpenPage) → IsPair page.last → IsPair (written_from page) × ((written_from page).handle ≤ page.last.handle)
reported_fits page fits = by_body page.body
  where
    by_body : (body : List ℕ) → IsPair (reported_after body page.last) × ((reported_after body page.last).handle ≤ page.last.handle)
    by_body [] = (origin_is_pair, omega arith)
    by_body (byte ∷ bytes) = (fits, omega arith)

-- the page after a pair for which there is room
pub filled_on : (page : OpenPage) (pair : Pair) → has_room page pair ≡ true → filled page pair ≡ record { body = page.body ++ added page pair; last = pair; ended = false }
unfolding filled
filled_on page pair room =
    ap (λ (test : Bool). if test then record { body = page.body ++ added page pair; last = pair; ended = false } else record { body = (pair_after ORIGIN).short pair; last = pair; ended = false }) room

-- and after one for which there is none
pub filled_new : (page : OpenPage) (pair : Pair) → has_room page pair ≡ false → filled page pair ≡ record { body = (pair_after ORIGIN).short pair; last = pair; ended = false }
unfolding filled
filled_new page pair room =
    ap (λ (test : Bool). if test then record { body = page.body ++ added page pair; last = pair; ended = false } else record { body = (pair_after ORIGIN).short pair; last = pair; ended = false }) room

-- a pair for which there is room makes no bytes go out
pub given_none : (page : OpenPage) (pair : Pair) → has_room page pair ≡ true → given page pair ≡ []
unfolding given
given_none page pair room = ap (λ (test : Bool). if test then [] else page_bytes page.body) room

-- one for which there is none makes the page go out
pub given_page : (page : OpenPage) (pair : Pair) → has_room page pair ≡ false → given page pair ≡ page_bytes page.body
unfolding given
given_page page pair room = ap (λ (test : Bool). if test then [] else page_bytes page.body) room

-- the page with one more pair holds it after the others
pub holds_more : (page : OpenPage) (held : List Pair) (pair : Pair) → Holds page held → IsPair pair → page.last.handle < pair.handle → has_room page pair ≡ true
    → Holds (record { body = page.body ++ added page pair; last = pair; ended = false }) (held ++ pair ∷ [])
holds_more page held pair holds fits above room = record {
  body =
      ap₂ (λ prefix back. prefix ++ back) holds.body (ap (λ (from : Pair). (pair_after from).short pair) (reported_last page held holds))
      ∙ sym (short_more held ORIGIN pair);
  spelled = spell_more held ORIGIN pair page.body (added page pair) holds.spelled (subst (λ (from : Pair). (pair_after from).Spells pair (added page pair)) (reported_last page held holds) written);
  last = sym (last_of_more held ORIGIN pair);
  fits = fits;
  size = omega (arith, below, length-append page.body (added page pair));
}
  where
    written : (pair_after (written_from page)).Spells pair (added page pair)
    written = let reported = reported_fits page holds.fits in pair_written (written_from page) pair reported.0 fits (omega (arith, reported.1, above))

    below : 2 + length page.body + length (added page pair) ≤ MOST_PAGE
    below = grind (arith, nat_tests, room)

-- a new page holds its first pair
pub holds_first : (pair : Pair) → IsPair pair → Holds (record { body = (pair_after ORIGIN).short pair; last = pair; ended = false }) (pair ∷ [])
holds_first pair fits = record {
  body = sym (append-nil ((pair_after ORIGIN).short pair));
  spelled = ((pair_after ORIGIN).short pair, [], written, refl, sym (append-nil ((pair_after ORIGIN).short pair)));
  last = refl;
  fits = fits;
  size = omega (arith, (pair_few ORIGIN pair ((pair_after ORIGIN).short pair) written).few);
}
  where
    written : (pair_after ORIGIN).Spells pair ((pair_after ORIGIN).short pair)
    written = pair_written ORIGIN pair origin_is_pair fits (omega arith)

-- a page without pairs has room
some_held : (page : OpenPage) (held : List Pair) (pair : Pair) → Holds page held → IsPair pair → page.last.handle < pair.handle → has_room page pair ≡ false → held ≢ []
some_held page [] pair holds fits above full = λ none.
    let reported = reported_fits page holds.fits in
    let few = (pair_few (written_from page) pair (added page pair) (pair_written (written_from page) pair reported.0 fits (omega (arith, reported.1, above)))).few in
    let empty : length page.body ≡ 0 = ap length holds.spelled in
    let large : MOST_PAGE < 2 + length page.body + length (added page pair) = grind (arith, nat_tests, full) in
    absurd (omega arith)
some_held page (other ∷ held) pair holds fits above full = λ none. cc

-- a pair that doesn't go into the page would make it too large
no_room : (page : OpenPage) (held : List Pair) (pair : Pair) → Holds page held → has_room page pair ≡ false → MOST_PAGE < 2 + length (body_of (held ++ pair ∷ []))
no_room page held pair holds full =
    let large : MOST_PAGE < 2 + length page.body + length (added page pair) = grind (arith, nat_tests, full) in
    let same : body_of (held ++ pair ∷ []) ≡ page.body ++ added page pair =
    short_more held ORIGIN pair ∙ ap₂ (λ prefix back. prefix ++ back) (sym holds.body) (ap (λ (from : Pair). (pair_after from).short pair) (sym (reported_last page held holds))) in
    omega (arith, large, ap length same, length-append page.body (added page pair))

-- the first of the pages begins with the pairs held
abbrev Begin : List Pair → List (List Pair) → Type 0
Begin [] pages = ⊤
Begin (pair ∷ held) pages = (others : List Pair) × (rest : List (List Pair)) × (pages ≡ (pair ∷ others) ∷ rest)

-- what is written from an open page on, page by page
record FillsFrom (held pairs : List Pair) (bytes : List ℕ) : Type 0 where
  pages : List (List Pair)
  all : held ++ pairs ≡ joined pages
  filled : AreFilled pages
  spelled : AllByRecursion (λ (page : List Pair). PairsSpell page (body_of page)) pages
  whole : bytes ≡ flat_map (λ (page : List Pair). page_bytes (body_of page)) pages ++ page_bytes []
  begin : Begin held pages

-- what is written where no pairs are left
fills_last : (page : OpenPage) (held : List Pair) → Holds page held → FillsFrom held [] (closing page)
unfolding closing
fills_last page [] holds = record {
  pages = [];
  all = refl;
  filled = tt;
  spelled = tt;
  whole = ap (λ body. closing_body body ++ page_bytes []) holds.spelled;
  begin = tt;
}
fills_last page (pair ∷ held) holds = record {
  pages = (pair ∷ held) ∷ [];
  all = refl;
  filled = ((λ none. cc), subst (λ body. 2 + length body ≤ MOST_PAGE) holds.body holds.size, tt, tt);
  spelled = (subst (PairsSpell (pair ∷ held)) holds.body holds.spelled, tt);
  whole =
      ap (λ prefix. prefix ++ page_bytes []) (of_some page.body (some_bytes pair held page.body holds.spelled))
      ∙ ap (λ prefix. prefix ++ page_bytes []) (ap page_bytes holds.body ∙ sym (append-nil (page_bytes (body_of (pair ∷ held)))));
  begin = (held, [], refl);
}
  where
    of_some : (body : List ℕ) → 0 < length body → closing_body body ≡ page_bytes body
    of_some [] some = absurd (omega arith)
    of_some (byte ∷ bytes) some = refl

-- the next pair goes into the open page
fills_on : (held pairs : List Pair) (pair : Pair) (bytes : List ℕ) → FillsFrom (held ++ pair ∷ []) pairs bytes → FillsFrom held (pair ∷ pairs) bytes
fills_on held pairs pair bytes fills = record {
  pages = fills.pages;
  all = sym (append_assoc held (pair ∷ []) pairs) ∙ fills.all;
  filled = fills.filled;
  spelled = fills.spelled;
  whole = fills.whole;
  begin = of_more held fills.begin;
}
  where
    of_more : (held : List Pair) → Begin (held ++ pair ∷ []) fills.pages → Begin held fills.pages
    of_more [] begin = tt
    of_more (first ∷ held) begin = begin

-- the next pair begins a new page
fills_new : (page : OpenPage) (held pairs : List Pair) (pair : Pair) (bytes : List ℕ) → Holds page held → held ≢ [] → MOST_PAGE < 2 + length (body_of (held ++ pair ∷ []))
    → FillsFrom (pair ∷ []) pairs bytes → FillsFrom held (pair ∷ pairs) (page_bytes page.body ++ bytes)
fills_new page held pairs pair bytes holds some full fills = record {
  pages = held ∷ fills.pages;
  all = ap (λ rest. held ++ rest) fills.all;
  filled = (
    some,
    subst (λ body. 2 + length body ≤ MOST_PAGE) holds.body holds.size,
    subst (HasNoRoom held) (sym fills.begin.2) (pair, fills.begin.0, refl, full),
    fills.filled,
  );
  spelled = (subst (PairsSpell held) holds.body holds.spelled, fills.spelled);
  whole =
      ap₂ (λ prefix rest. prefix ++ rest) (ap page_bytes holds.body) fills.whole
      ∙ sym (append_assoc (page_bytes (body_of held)) (flat_map (λ (page : List Pair). page_bytes (body_of page)) fills.pages) (page_bytes []));
  begin = of_some held some;
}
  where
    of_some : (held : List Pair) → held ≢ [] → Begin held (held ∷ fills.pages)
    of_some [] some = tt
    of_some (first ∷ others) some = (others, fills.pages, refl)

-- the map from an open page on is written page by page
fills : (pairs : List Pair) (page : OpenPage) (held : List Pair) → Holds page held → Ascend page.last.handle pairs → FillsFrom held pairs (map_after page pairs)
unfolding map_after
fills [] page held holds ascend = fills_last page held holds
fills (pair ∷ pairs) page held holds (above, small, place, others) =
    by_room (has_room page pair) refl
    (fills pairs (record { body = page.body ++ added page pair; last = pair; ended = false }) (held ++ pair ∷ []))
    (fills pairs (record { body = (pair_after ORIGIN).short pair; last = pair; ended = false }) (pair ∷ []))
  where
    fits : IsPair pair
    fits = record { handle = small; place = place }

    More : Type 0
    More =
        Holds (record { body = page.body ++ added page pair; last = pair; ended = false }) (held ++ pair ∷ []) → Ascend pair.handle pairs
        → FillsFrom (held ++ pair ∷ []) pairs (map_after (record { body = page.body ++ added page pair; last = pair; ended = false }) pairs)

    New : Type 0
    New =
        Holds (record { body = (pair_after ORIGIN).short pair; last = pair; ended = false }) (pair ∷ []) → Ascend pair.handle pairs
        → FillsFrom (pair ∷ []) pairs (map_after (record { body = (pair_after ORIGIN).short pair; last = pair; ended = false }) pairs)

    by_room : (room : Bool) → has_room page pair ≡ room → More → New → FillsFrom held (pair ∷ pairs) (given page pair ++ map_after (filled page pair) pairs)
    by_room true room more new =
        subst (FillsFrom held (pair ∷ pairs)) (ap₂ (λ prefix (next : OpenPage). prefix ++ map_after next pairs) (sym (given_none page pair room)) (sym (filled_on page pair room)))
        (fills_on held pairs pair (map_after (record { body = page.body ++ added page pair; last = pair; ended = false }) pairs) (more (holds_more page held pair holds fits above room) others))
    by_room false room more new =
        subst (FillsFrom held (pair ∷ pairs)) (ap₂ (λ prefix (next : OpenPage). prefix ++ map_after next pairs) (sym (given_page page pair room)) (sym (filled_new page pair room)))
        (fills_new page held pairs pair (map_after (record { body = (pair_after ORIGIN).short pair; last = pair; ended = false }) pairs) holds (some_held page held pair holds fits above room)
        (no_room page held pair holds room) (new (holds_first pair fits) others))

-- the fresh page holds no pairs
pub holds_none : Holds FRESH []
holds_none = record { body = refl; spelled = refl; last = refl; fits = origin_is_pair; size = omega arith }

-- the map is written page by page
map_pages : (pairs : List Pair) → Ascend 0 pairs → FillsFrom [] pairs (map_bytes pairs)
unfolding map_bytes
map_pages pairs ascend = fills pairs FRESH [] holds_none ascend

-- the pages of a map are filled one after the other
pub map_is_filled : (pairs : List Pair) → Ascend 0 pairs → IsFilling pairs (map_bytes pairs)
map_is_filled pairs ascend =
    let fills = map_pages pairs ascend in record { pages = fills.pages; all = fills.all; filled = fills.filled; whole = fills.whole }

-- what stands at a place has its prefix there
stands_prefix : {A : Type 0} (letters prefix back : List A) (place : ℕ) → StandsAt letters place (prefix ++ back) → StandsAt letters place prefix
stands_prefix letters prefix back place stands = record {
  before = stands.before;
  after = back ++ stands.after;
  whole = stands.whole ∙ ap (λ rest. stands.before ++ rest) (append_assoc prefix back stands.after);
  far = stands.far;
}

-- and what is after its prefix further on
stands_further : {A : Type 0} (letters prefix back : List A) (place : ℕ) → StandsAt letters place (prefix ++ back) → StandsAt letters (place + length prefix) back
stands_further letters prefix back place stands = record {
  before = stands.before ++ prefix;
  after = stands.after;
  whole =
      stands.whole ∙ ap (λ rest. stands.before ++ rest) (append_assoc prefix back stands.after) ∙ sym (append_assoc stands.before prefix (back ++ stands.after));
  far = omega (arith, length-append stands.before prefix, stands.far);
}

-- a page has four bytes beside its pairs
pub length_of_page : (body : List ℕ) → length (page_bytes body) ≡ 4 + length body
length_of_page body =
    omega (
      arith,
      length-append (to_be_bytes w16 (2 + length body) ++ body) (to_be_bytes w16 (check_word CHECK_SEED (to_be_bytes w16 (2 + length body) ++ body))),
      length-append (to_be_bytes w16 (2 + length body)) body,
    )

-- a page that is written stands as a page
page_written : (bytes : List ℕ) (place : ℕ) (page : List Pair) (body : List ℕ) → PairsSpell page body → 2 + length body ≤ MOST_PAGE → StandsAt bytes place (page_bytes body)
    → PageAt bytes place page (place + 4 + length body)
page_written bytes place page body spelled small stands = record { body = body; spelled = spelled; size = omega arith; stands = stands; ends = refl }

-- pages and the page that ends them stand one after the other
pages_written : (pages : List (List Pair)) (bytes : List ℕ) (place : ℕ) → AreFilled pages → AllByRecursion (λ (page : List Pair). PairsSpell page (body_of page)) pages
    → StandsAt bytes place (flat_map (λ (page : List Pair). page_bytes (body_of page)) pages ++ page_bytes [])
    → (last : ℕ) × (next : ℕ) × PagesAt bytes place pages last × PageAt bytes last [] next
pages_written [] bytes place filled spelled stands = (place, place + 4 + 0, refl, page_written bytes place [] [] refl (omega arith) stands)
pages_written (page ∷ pages) bytes place (some, small, full, others) (one, more) stands =
    let split : StandsAt bytes place (page_bytes (body_of page) ++ (flat_map (λ (page : List Pair). page_bytes (body_of page)) pages ++ page_bytes [])) =
    subst (StandsAt bytes place)
    (append_assoc (page_bytes (body_of page)) (flat_map (λ (page : List Pair). page_bytes (body_of page)) pages) (page_bytes [])) stands in
    let there : place + length (page_bytes (body_of page)) ≡ place + 4 + length (body_of page) = omega (arith, length_of_page (body_of page)) in
    let (last, next, stand, end) = pages_written pages bytes (place + 4 + length (body_of page)) others more
    (subst (λ at. StandsAt bytes at (flat_map (λ (page : List Pair). page_bytes (body_of page)) pages ++ page_bytes [])) there
    (stands_further bytes (page_bytes (body_of page)) (flat_map (λ (page : List Pair). page_bytes (body_of page)) pages ++ page_bytes []) place split)) in (
      last,
      next,
      (
        place + 4 + length (body_of page),
        page_written bytes place page (body_of page) one small
            (stands_prefix bytes (page_bytes (body_of page)) (flat_map (λ (page : List Pair). page_bytes (body_of page)) pages ++ page_bytes []) place split),
        some,
        stand,
      ),
      end,
    )

-- ascending handles are above what they ascend from
ascend_above : (pairs : List Pair) (handle i : ℕ) → Ascend handle pairs → i < length (handles_of pairs) → handle < slice_index (handles_of pairs) i
ascend_above [] handle i ascend inside = absurd (omega arith)
ascend_above (pair ∷ pairs) handle zero ascend inside = ascend.0
ascend_above (pair ∷ pairs) handle (suc i) ascend inside = omega (arith, ascend.0, ascend_above pairs pair.handle i ascend.3 (omega arith))

-- each is below the later ones
ascend_apart : (pairs : List Pair) (handle i j : ℕ) → Ascend handle pairs → i < j → j < length (handles_of pairs) → slice_index (handles_of pairs) i < slice_index (handles_of pairs) j
ascend_apart [] handle i j ascend before inside = absurd (omega arith)
ascend_apart (pair ∷ pairs) handle i zero ascend before inside = absurd (omega arith)
ascend_apart (pair ∷ pairs) handle zero (suc j) ascend before inside = ascend_above pairs pair.handle j ascend.3 (omega arith)
ascend_apart (pair ∷ pairs) handle (suc i) (suc j) ascend before inside = ascend_apart pairs pair.handle i j ascend.3 (omega arith) (omega arith)

-- all are positive
ascend_positive : (pairs : List Pair) (handle : ℕ) → Ascend handle pairs → AllByRecursion (λ handle. 0 < handle) (handles_of pairs)
ascend_positive [] handle ascend = tt
ascend_positive (pair ∷ pairs) handle ascend = (omega (arith, ascend.0), ascend_positive pairs pair.handle ascend.3)

-- so they are positive and distinct
ascend_handles : (pairs : List Pair) → Ascend 0 pairs → AreHandles (handles_of pairs)
ascend_handles pairs ascend = record {
  positive = ascend_positive pairs 0 ascend;
  distinct = λ i j before inside same. let apart = ascend_apart pairs 0 i j ascend before inside in absurd (omega (arith, apart, same));
}

-- what is written of pairs is the map of them, wherever it stands
pub map_is_written : (place : ℕ) (bytes : List ℕ) (pairs : List Pair) → Ascend 0 pairs → StandsAt bytes place (map_bytes pairs) → MapOf bytes place pairs
map_is_written place bytes pairs ascend stands =
    let fills = map_pages pairs ascend in
    let (last, next, stand, end) = pages_written fills.pages bytes place fills.filled fills.spelled (subst (StandsAt bytes place) fills.whole stands) in
    record { pages = fills.pages; last = last; next = next; stand = stand; end = end; all = fills.all; handles = ascend_handles pairs ascend }
