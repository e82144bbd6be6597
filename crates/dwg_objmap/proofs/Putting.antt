-- What a writer does, said of the open page that contracts see.
use Rattle.std.proofs.Common.{◌≡◌, sym, ◌∙◌, ap, ap₂, subst, ℕ, ◌+◌, ◌<◌, ◌≤◌, Bool, true, false, List, [], ◌++◌, length, drop, arith}
use Rattle.std.proofs.KnownBytes.{Appends-nil}
use Rattle.std.proofs.lemmas.List.{drop-append-le}
use Rattle.std.specs.Prelude.{Option, Result}
use Rattle.std.specs.Io.KnownBytes.{Appends}
use Rattle.dwg_base.specs.Devices.{AppendsPrefix, Sends}
use Rattle.dwg_base.proofs.SendingLemmas.{sends_both, prefix_of_both}
use Rattle.dwg_objmap.specs.declared.pair.Pair.{Pair}
use Rattle.dwg_objmap.specs.Pairs.{IsPair, ORIGIN, pair_after}
use Rattle.dwg_objmap.specs.Pages.{page_bytes}
use Rattle.dwg_objmap.specs.Writing.{MOST_PAGE, OpenPage, reported_after, has_room, added, given, filled, closing_body, closing}
use Rattle.dwg_objmap.proofs.FillingLemmas.{filled_on, filled_new, given_none, given_page}
use Rattle.dwg_objmap.proofs.PageFilling.{short_few}
use Rattle.dwg_objmap.proofs.PairChains.{origin_is_pair}
use Rattle.dwg_objmap.specs.PageFilling.{page_of}

-- where there is room, no bytes go out
pub none_given : (bytes : List ℕ) (last pair : Pair) (ended room : Bool) (page : OpenPage) (known : Option (List ℕ)) → page_of bytes last ended ≡ page → room ≡ has_room (page_of bytes last true) pair
    → room ≡ true → Appends known known (given page pair)
none_given bytes last pair ended room page known is reported there =
    subst (Appends known known) (sym (given_none page pair (subst (λ (open_page : OpenPage). has_room open_page pair ≡ true) is (sym reported ∙ there)))) (Appends-nil known)

-- where there is none, the page goes out
pub page_given : (bytes : List ℕ) (last pair : Pair) (ended room : Bool) (page : OpenPage) → page_of bytes last ended ≡ page → room ≡ has_room (page_of bytes last true) pair → room ≡ false
    → page_bytes (drop 2 bytes) ≡ given page pair
page_given bytes last pair ended room page is reported none =
    ap page_bytes (ap (λ (open_page : OpenPage). open_page.body) is) ∙ sym (given_page page pair (subst (λ (open_page : OpenPage). has_room open_page pair ≡ false) is (sym reported ∙ none)))

-- a page of its size alone has room for a pair
pub first_fits : (bytes : List ℕ) (before pair : Pair) → length bytes ≡ 2 → before ≡ ORIGIN → IsPair pair → 0 < pair.handle
    → length bytes + length ((pair_after before).short pair) ≤ MOST_PAGE
first_fits bytes before pair two reported fits above =
    omega (arith, two, (short_few ORIGIN pair origin_is_pair fits above).1, ap (λ (from : Pair). length ((pair_after from).short pair)) reported)

-- the page with the pair
pub page_put : (bytes new : List ℕ) (last before pair : Pair) (ended room : Bool) (page : OpenPage) → page_of bytes last ended ≡ page → page.ended ≡ false → 2 ≤ length bytes
    → room ≡ has_room (page_of bytes last true) pair → room ≡ true → before ≡ reported_after (drop 2 bytes) last → new ≡ bytes ++ (pair_after before).short pair → page_of new pair ended ≡ filled page pair
page_put bytes new last before pair ended room page is not_ended least reported there from more =
    let body : drop 2 new ≡ drop 2 bytes ++ added (page_of bytes last true) pair =
    ap (drop 2) more ∙ drop-append-le 2 bytes ((pair_after before).short pair) least ∙ ap (λ (start : Pair). drop 2 bytes ++ (pair_after start).short pair) from in
    let more_body : drop 2 new ≡ page.body ++ added page pair = subst (λ (open_page : OpenPage). drop 2 new ≡ open_page.body ++ added open_page pair) is body in
    let still : ended ≡ false = ap (λ (open_page : OpenPage). open_page.ended) is ∙ not_ended in
    ap₂ (λ (body : List ℕ) (end : Bool). record { body = body; last = pair; ended = end }) more_body still
    ∙ sym (filled_on page pair (subst (λ (open_page : OpenPage). has_room open_page pair ≡ true) is (sym reported ∙ there)))

-- the new page with the pair
pub page_begun : (bytes empty new : List ℕ) (last before pair : Pair) (ended room : Bool) (page : OpenPage) → page_of bytes last ended ≡ page → page.ended ≡ false
    → room ≡ has_room (page_of bytes last true) pair → room ≡ false → length empty ≡ 2 → drop 2 empty ≡ [] → before ≡ ORIGIN → new ≡ empty ++ (pair_after before).short pair
    → page_of new pair ended ≡ filled page pair
page_begun bytes empty new last before pair ended room page is not_ended reported none two cleared from first =
    let body : drop 2 new ≡ (pair_after ORIGIN).short pair =
    ap (drop 2) first ∙ drop-append-le 2 empty ((pair_after before).short pair) (omega (arith, two)) ∙ ap₂ (λ (prefix : List ℕ) (start : Pair). prefix ++ (pair_after start).short pair) cleared from in
    let still : ended ≡ false = ap (λ (open_page : OpenPage). open_page.ended) is ∙ not_ended in
    ap₂ (λ (body : List ℕ) (end : Bool). record { body = body; last = pair; ended = end }) body still
    ∙ sym (filled_new page pair (subst (λ (open_page : OpenPage). has_room open_page pair ≡ false) is (sym reported ∙ none)))

-- the last page and the page that ends the map are what closes it
pub map_closed : {T E : Type 0} (a b c : Option (List ℕ)) (bytes empty : List ℕ) (last : Pair) (ended : Bool) (page : OpenPage) (result : Result T E) → page_of bytes last ended ≡ page
    → drop 2 empty ≡ [] → Appends a b (closing_body (drop 2 bytes)) → Sends b c (page_bytes (drop 2 empty)) result → Sends a c (closing page) result
unfolding closing
map_closed a b c bytes empty last ended page result is none sent end =
    subst (λ whole. Sends a c whole result) (ap₂ (λ (pairs no : List ℕ). closing_body pairs ++ page_bytes no) (ap (λ (open_page : OpenPage). open_page.body) is) none)
    (sends_both a b c (closing_body (drop 2 bytes)) (page_bytes (drop 2 empty)) result sent end)

-- a prefix of the last page is a prefix of what closes the map
pub close_cut : (a b : Option (List ℕ)) (bytes : List ℕ) (last : Pair) (ended : Bool) (page : OpenPage) → page_of bytes last ended ≡ page → AppendsPrefix a b (closing_body (drop 2 bytes))
    → AppendsPrefix a b (closing page)
unfolding closing
close_cut a b bytes last ended page is prefix =
    subst (AppendsPrefix a b) (ap (λ (open_page : OpenPage). closing_body open_page.body ++ page_bytes []) is) (prefix_of_both a b (closing_body (drop 2 bytes)) (page_bytes []) prefix)
