-- What is counted is the length of the map.
use Rattle.std.proofs.Common.{◌≡◌, refl, sym, ◌∙◌, ap, ap₂, ℕ, ◌+◌, ◌<◌, Bool, true, false, List, [], ◌∷◌, ◌++◌, length, length-append, arith}
use Rattle.std.specs.Prelude.{nat_le, ◌==◌, if◌then◌else◌}
use Rattle.std.proofs.lemmas.Bool.Decides.{nat_tests}
use Rattle.dwg_objmap.specs.declared.pair.Pair.{Pair}
use Rattle.dwg_objmap.specs.Pairs.{ORIGIN, pair_after}
use Rattle.dwg_objmap.specs.Pages.{page_bytes}
use Rattle.dwg_objmap.specs.Writing.{MOST_PAGE, OpenPage, FRESH, reported_after, added, has_room, given, filled, closing_body, closing, map_after, map_bytes}
use Rattle.dwg_objmap.proofs.FillingLemmas.{length_of_page, filled_on, filled_new, given_none, given_page}
use Rattle.dwg_objmap.specs.MapLength.{reported_at, size_added, length_after}

-- a number above 0 isn't 0
not_none : (n : ℕ) → 0 < n → (n == 0) ≡ false
not_none n some = grind (arith, nat_tests)

-- only the size of a page says from which pair the next one is written
reported_by_size : (body : List ℕ) (last : Pair) → reported_after body last ≡ reported_at (length body) last
reported_by_size [] last = refl
reported_by_size (byte ∷ bytes) last = ap (λ (none : Bool). if none then ORIGIN else last) (sym (not_none (length (byte ∷ bytes)) (omega arith)))

-- so the size of the next pair
added_by_size : (page : OpenPage) (pair : Pair) → length (added page pair) ≡ size_added (length page.body) page.last pair
added_by_size page pair = ap (λ (from : Pair). length ((pair_after from).short pair)) (reported_by_size page.body page.last)

-- the length of what closes a map
length_of_closing_body : (body : List ℕ) → length (closing_body body) ≡ (if length body == 0 then 0 else 4 + length body)
length_of_closing_body [] = refl
length_of_closing_body (byte ∷ bytes) =
    length_of_page (byte ∷ bytes) ∙ ap (λ (none : Bool). if none then 0 else 4 + length (byte ∷ bytes)) (sym (not_none (length (byte ∷ bytes)) (omega arith)))

-- the length of the map from an open page on
length_from : (pairs : List Pair) (page : OpenPage) → length (map_after page pairs) ≡ length_after (length page.body) page.last pairs
unfolding map_after length_after closing
length_from [] page =
    length-append (closing_body page.body) (page_bytes []) ∙ ap (λ n. n + 4) (length_of_closing_body page.body)
length_from (pair ∷ pairs) page =
    by_room (has_room page pair) refl
    (length_from pairs (record { body = page.body ++ added page pair; last = pair; ended = false }))
    (length_from pairs (record { body = (pair_after ORIGIN).short pair; last = pair; ended = false }))
  where
    size : ℕ
    size = length page.body

    more : ℕ
    more = size_added size page.last pair

    test : (room : Bool) → has_room page pair ≡ room → nat_le (2 + size + more) MOST_PAGE ≡ room
    test room is = ap (λ n. nat_le (2 + size + n) MOST_PAGE) (sym (added_by_size page pair)) ∙ is

    by_room : (room : Bool) → has_room page pair ≡ room
        → length (map_after (record { body = page.body ++ added page pair; last = pair; ended = false }) pairs) ≡ length_after (length (page.body ++ added page pair)) pair pairs
        → length (map_after (record { body = (pair_after ORIGIN).short pair; last = pair; ended = false }) pairs) ≡ length_after (length ((pair_after ORIGIN).short pair)) pair pairs
        → length (given page pair ++ map_after (filled page pair) pairs)
        ≡ (if nat_le (2 + size + more) MOST_PAGE then length_after (size + more) pair pairs else 4 + size + length_after (length ((pair_after ORIGIN).short pair)) pair pairs)
    by_room true room on new =
        ap₂ (λ prefix (next : OpenPage). length (prefix ++ map_after next pairs)) (given_none page pair room) (filled_on page pair room)
        ∙ on ∙ ap (λ n. length_after n pair pairs) (length-append page.body (added page pair) ∙ ap (λ n. size + n) (added_by_size page pair))
        ∙ ap (λ (fits : Bool). if fits then length_after (size + more) pair pairs else 4 + size + length_after (length ((pair_after ORIGIN).short pair)) pair pairs) (sym (test true room))
    by_room false room on new =
        ap₂ (λ prefix (next : OpenPage). length (prefix ++ map_after next pairs)) (given_page page pair room) (filled_new page pair room)
        ∙ length-append (page_bytes page.body) (map_after (record { body = (pair_after ORIGIN).short pair; last = pair; ended = false }) pairs)
        ∙ ap₂ (λ a b. a + b) (length_of_page page.body) new
        ∙ ap (λ (fits : Bool). if fits then length_after (size + more) pair pairs else 4 + size + length_after (length ((pair_after ORIGIN).short pair)) pair pairs) (sym (test false room))

-- the length of the map
pub length_of_map : (pairs : List Pair) → length (map_bytes pairs) ≡ length_after 0 ORIGIN pairs
unfolding map_bytes
length_of_map pairs = length_from pairs FRESH
