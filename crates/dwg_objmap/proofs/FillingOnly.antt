-- Pages are filled in one way: how many pairs go into each page follows from the pairs.
use Rattle.std.proofs.Common.{◌≡◌, refl, sym, ◌∙◌, ap, ap₂, subst, ℕ, ◌+◌, ◌<◌, ◌≤◌, true, false, List, [], ◌∷◌, ◌++◌, length, arith, append_assoc, length-append}
use Rattle.std.specs.Prelude.{◌≢◌, nat_le, flat_map}
use Rattle.std.proofs.lemmas.Bool.Decides.{nat_tests}
use Rattle.std.proofs.lemmas.List.{append-nil}
use Rattle.dwg_grammar.specs.Combinators.{short_chain}
use Rattle.dwg_objmap.specs.declared.pair.Pair.{Pair}
use Rattle.dwg_objmap.specs.Pairs.{IsPair, ORIGIN, pair_after}
use Rattle.dwg_objmap.specs.Pages.{page_bytes}
use Rattle.dwg_objmap.specs.MapLines.{last_of}
use Rattle.dwg_objmap.proofs.MapLemmas.{joined}
use Rattle.dwg_objmap.specs.Writing.{MOST_PAGE, OpenPage, FRESH, added, has_room, given, filled, closing_body, closing, map_after, map_bytes, Ascend, body_of, HasNoRoom, AreFilled, IsFilling}
use Rattle.dwg_objmap.proofs.FillingLemmas.{Holds, some_bytes, reported_last, short_more, filled_on, filled_new, given_none, given_page, holds_more, holds_first, holds_none}

-- pages one after the other, and the page that ends them
abbrev paged : List (List Pair) → List ℕ
paged pages = flat_map (λ (page : List Pair). page_bytes (body_of page)) pages ++ page_bytes []

-- pairs and then others are written one after the other
short_append : (pairs others : List Pair) (before : Pair)
    → short_chain pair_after (λ pair. pair) before (pairs ++ others)
    ≡ short_chain pair_after (λ pair. pair) before pairs ++ short_chain pair_after (λ pair. pair) (last_of before pairs) others
short_append [] others before = refl
short_append (pair ∷ pairs) others before =
    ap (λ rest. (pair_after before).short pair ++ rest) (short_append pairs others pair)
    ∙ sym (append_assoc ((pair_after before).short pair) (short_chain pair_after (λ pair. pair) pair pairs) (short_chain pair_after (λ pair. pair) (last_of pair pairs) others))

-- the test for room, said of the pairs held
room_of_pairs : (page : OpenPage) (held : List Pair) (pair : Pair) → Holds page held → has_room page pair ≡ nat_le (2 + length (body_of (held ++ pair ∷ []))) MOST_PAGE
room_of_pairs page held pair holds =
    let same : body_of (held ++ pair ∷ []) ≡ page.body ++ added page pair =
    short_more held ORIGIN pair ∙ ap₂ (λ prefix back. prefix ++ back) (sym holds.body) (ap (λ (from : Pair). (pair_after from).short pair) (sym (reported_last page held holds))) in
    let long : 2 + length page.body + length (added page pair) ≡ 2 + length (body_of (held ++ pair ∷ [])) = omega (arith, ap length same, length-append page.body (added page pair)) in
    ap (λ n. nat_le n MOST_PAGE) long

-- a pair of a page that isn't too large has room there
has_its_room : (page : OpenPage) (held rest : List Pair) (pair : Pair) → Holds page held → 2 + length (body_of ((held ++ pair ∷ []) ++ rest)) ≤ MOST_PAGE → has_room page pair ≡ true
has_its_room page held rest pair holds small =
    let long = ap length (short_append (held ++ pair ∷ []) rest ORIGIN) in
    let less : 2 + length (body_of (held ++ pair ∷ [])) ≤ MOST_PAGE =
    omega (arith, small, long, length-append (body_of (held ++ pair ∷ [])) (short_chain pair_after (λ pair. pair) (last_of ORIGIN (held ++ pair ∷ [])) rest)) in
    room_of_pairs page held pair holds ∙ test (2 + length (body_of (held ++ pair ∷ []))) less
  where
    test : (n : ℕ) → n ≤ MOST_PAGE → nat_le n MOST_PAGE ≡ true
    test n small = grind (arith, nat_tests)

-- a pair that makes a page too large has none
has_none : (page : OpenPage) (held : List Pair) (pair : Pair) → Holds page held → MOST_PAGE < 2 + length (body_of (held ++ pair ∷ [])) → has_room page pair ≡ false
has_none page held pair holds large = room_of_pairs page held pair holds ∙ test (2 + length (body_of (held ++ pair ∷ []))) large
  where
    test : (n : ℕ) → MOST_PAGE < n → nat_le n MOST_PAGE ≡ false
    test n large = grind (arith, nat_tests)

-- the open page and the page that ends the map
closes : (page : OpenPage) (held : List Pair) → Holds page held → held ≢ [] → closing page ≡ page_bytes (body_of held) ++ page_bytes []
unfolding closing
closes page [] holds some = absurd (some refl)
closes page (pair ∷ held) holds some =
    ap (λ prefix. prefix ++ page_bytes []) (of_some page.body (some_bytes pair held page.body holds.spelled) ∙ ap page_bytes holds.body)
  where
    of_some : (body : List ℕ) → 0 < length body → closing_body body ≡ page_bytes body
    of_some [] some = absurd (omega arith)
    of_some (byte ∷ bytes) some = refl

-- a list that isn't empty with one more prefix isn't either
more_some : (held rest : List Pair) (pair : Pair) → (held ++ pair ∷ []) ++ rest ≢ []
more_some [] rest pair = λ none. cc
more_some (first ∷ held) rest pair = λ none. cc

-- a pair with room goes into the open page
goes_on : (page : OpenPage) (pair : Pair) (pairs : List Pair) → has_room page pair ≡ true
    → given page pair ++ map_after (filled page pair) pairs ≡ map_after (record { body = page.body ++ added page pair; last = pair; ended = false }) pairs
goes_on page pair pairs room = ap₂ (λ prefix (next : OpenPage). prefix ++ map_after next pairs) (given_none page pair room) (filled_on page pair room)

-- one without begins a new page
goes_new : (page : OpenPage) (pair : Pair) (pairs : List Pair) → has_room page pair ≡ false
    → given page pair ++ map_after (filled page pair) pairs ≡ page_bytes page.body ++ map_after (record { body = (pair_after ORIGIN).short pair; last = pair; ended = false }) pairs
goes_new page pair pairs room = ap₂ (λ prefix (next : OpenPage). prefix ++ map_after next pairs) (given_page page pair room) (filled_new page pair room)

-- the first page and those after it
paged_first : (page : List Pair) (pages : List (List Pair)) → paged (page ∷ pages) ≡ page_bytes (body_of page) ++ paged pages
paged_first page pages = append_assoc (page_bytes (body_of page)) (flat_map (λ (page : List Pair). page_bytes (body_of page)) pages) (page_bytes [])

-- the map from an open page on is the pages that are filled with its pairs
refills : (pairs : List Pair) (page : OpenPage) (held rest : List Pair) (pages : List (List Pair)) → pairs ≡ rest ++ joined pages → Holds page held → Ascend page.last.handle pairs
    → held ++ rest ≢ [] → 2 + length (body_of (held ++ rest)) ≤ MOST_PAGE → HasNoRoom (held ++ rest) pages → AreFilled pages
    → map_after page pairs ≡ page_bytes (body_of (held ++ rest)) ++ paged pages
unfolding map_after
refills [] page held [] [] same holds ascend some small full are =
    closes page held holds (λ none. some (append-nil held ∙ none)) ∙ ap (λ all. page_bytes (body_of all) ++ page_bytes []) (sym (append-nil held))
refills [] page held [] (next ∷ pages) same holds ascend some small (first, others, begins, large) are =
    let all : ◌≡◌ {A = List Pair} [] (first ∷ (others ++ joined pages)) = same ∙ ap (λ prefix. prefix ++ joined pages) begins in absurd (cc)
refills [] page held (first ∷ rest) pages same holds ascend some small full are = absurd (cc)
refills (pair ∷ pairs) page held [] [] same holds ascend some small full are = absurd (cc)
refills (pair ∷ pairs) page held [] (next ∷ pages) same holds ascend some small (first, others, begins, large) are =
    let all : pair ∷ pairs ≡ first ∷ (others ++ joined pages) = same ∙ ap (λ prefix. prefix ++ joined pages) begins in
    let is : pair ≡ first = cc in
    let tail : pairs ≡ others ++ joined pages = cc in
    let begin : pair ∷ others ≡ next = ap (λ one. one ∷ others) is ∙ sym begins in
    let fits : IsPair pair = record { handle = ascend.1; place = ascend.2 } in
    let none : has_room page pair ≡ false =
    has_none page held pair holds
    (subst (λ one. MOST_PAGE < 2 + length (body_of (held ++ one ∷ []))) (sym is) (subst (λ prefix. MOST_PAGE < 2 + length (body_of (prefix ++ first ∷ []))) (append-nil held) large)) in
    goes_new page pair pairs none
    ∙ ap₂ (λ prefix back. prefix ++ back) (ap page_bytes holds.body ∙ ap (λ prefix. page_bytes (body_of prefix)) (sym (append-nil held)))
    (refills pairs (record { body = (pair_after ORIGIN).short pair; last = pair; ended = false }) (pair ∷ []) others pages tail (holds_first pair fits) ascend.3 (λ empty. cc)
    (subst (λ page. 2 + length (body_of page) ≤ MOST_PAGE) (sym begin) are.1) (subst (λ page. HasNoRoom page pages) (sym begin) are.2) are.3
    ∙ ap (λ page. page_bytes (body_of page) ++ paged pages) begin ∙ sym (paged_first next pages))
refills (pair ∷ pairs) page held (first ∷ rest) pages same holds ascend some small full are =
    let is : pair ≡ first = cc in
    let tail : pairs ≡ rest ++ joined pages = cc in
    let lists : (held ++ pair ∷ []) ++ rest ≡ held ++ first ∷ rest = append_assoc held (pair ∷ []) rest ∙ ap (λ one. held ++ one ∷ rest) is in
    let fits : IsPair pair = record { handle = ascend.1; place = ascend.2 } in
    let still_small : 2 + length (body_of ((held ++ pair ∷ []) ++ rest)) ≤ MOST_PAGE = subst (λ all. 2 + length (body_of all) ≤ MOST_PAGE) (sym lists) small in
    let room : has_room page pair ≡ true = has_its_room page held rest pair holds still_small in
    goes_on page pair pairs room
    ∙ refills pairs (record { body = page.body ++ added page pair; last = pair; ended = false }) (held ++ pair ∷ []) rest pages tail (holds_more page held pair holds fits ascend.0 room) ascend.3
    (more_some held rest pair) still_small (subst (λ all. HasNoRoom all pages) (sym lists) full) are
    ∙ ap (λ all. page_bytes (body_of all) ++ paged pages) lists

-- bytes that are pages filled with ascending pairs are what is written of them
pub only_filling : (pairs : List Pair) (bytes : List ℕ) → Ascend 0 pairs → IsFilling pairs bytes → bytes ≡ map_bytes pairs
unfolding map_bytes map_after closing
only_filling pairs bytes ascend filling = by_pages filling.pages filling.all filling.filled filling.whole
  where
    by_pages : (pages : List (List Pair)) → pairs ≡ joined pages → AreFilled pages → bytes ≡ paged pages → bytes ≡ map_after FRESH pairs
    by_pages [] all are whole = whole ∙ ap (map_after FRESH) (sym all)
    by_pages (page ∷ pages) all are whole =
        whole ∙ paged_first page pages ∙ sym (refills pairs FRESH [] page pages all holds_none ascend are.0 are.1 are.2 are.3)
