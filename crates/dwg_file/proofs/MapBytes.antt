-- What is written of a map is bytes.
use Rattle.std.proofs.Common.{◌≡◌, refl, sym, subst, ℕ, ◌+◌, ◌≤◌, Bool, true, false, List, [], ◌∷◌, ◌++◌, length, arith}
use Rattle.std.specs.Int.{w16, to_be_bytes}
use Rattle.dwg_base.specs.Bytes.{AreBytes}
use Rattle.dwg_check.specs.CheckWord.{CHECK_SEED, check_word}
use Rattle.dwg_object.proofs.LengthLemmas.{bytes_joined}
use Rattle.dwg_objmap.specs.declared.pair.Pair.{Pair}
use Rattle.dwg_objmap.proofs.FillingLemmas.{pair_few, pair_written, reported_fits, filled_on, filled_new, given_none, given_page}
use Rattle.dwg_objmap.proofs.PairChains.{origin_is_pair}
use Rattle.dwg_objmap.specs.Pairs.{IsPair, ORIGIN, pair_after}
use Rattle.dwg_objmap.specs.Pages.{sized_pairs, page_bytes}
use Rattle.dwg_objmap.specs.Writing.{OpenPage, FRESH, written_from, added, has_room, given, filled, closing_body, closing, map_after, map_bytes, Ascend}

-- a word of two bytes, the most significant first, is bytes
word_is_bytes : (word : ℕ) → AreBytes (to_be_bytes w16 word)
word_is_bytes word = (omega arith, (omega arith, tt))

-- a page of bytes is written in bytes
page_is_bytes : (body : List ℕ) → AreBytes body → AreBytes (page_bytes body)
page_is_bytes body are =
    bytes_joined (sized_pairs body) (to_be_bytes w16 (check_word CHECK_SEED (sized_pairs body)))
    (bytes_joined (to_be_bytes w16 (2 + length body)) body (word_is_bytes (2 + length body)) are) (word_is_bytes (check_word CHECK_SEED (sized_pairs body)))

-- what is written of a pair is bytes
pair_is_bytes : (before pair : Pair) → IsPair before → IsPair pair → before.handle ≤ pair.handle → AreBytes ((pair_after before).short pair)
pair_is_bytes before pair fits_before fits above = (pair_few before pair ((pair_after before).short pair) (pair_written before pair fits_before fits above)).are_bytes

-- what closes a map is bytes
closing_is_bytes : (body : List ℕ) → AreBytes body → AreBytes (closing_body body)
closing_is_bytes [] are = tt
closing_is_bytes (byte ∷ bytes) are = page_is_bytes (byte ∷ bytes) are

-- what is written from an open page on is bytes
after_is_bytes : (pairs : List Pair) (page : OpenPage) → AreBytes page.body → IsPair page.last → Ascend page.last.handle pairs → AreBytes (map_after page pairs)
unfolding map_after closing
after_is_bytes [] page are fits ascend = bytes_joined (closing_body page.body) (page_bytes []) (closing_is_bytes page.body are) (page_is_bytes [] tt)
after_is_bytes (pair ∷ pairs) page are fits (above, small, place, others) =
    by_room (has_room page pair) refl
    (after_is_bytes pairs (record { body = page.body ++ added page pair; last = pair; ended = false })
    (bytes_joined page.body (added page pair) are (pair_is_bytes (written_from page) pair reported.0 new (omega (arith, reported.1, above)))) new others)
    (after_is_bytes pairs (record { body = (pair_after ORIGIN).short pair; last = pair; ended = false }) (pair_is_bytes ORIGIN pair origin_is_pair new (omega arith)) new others)
  where
    new : IsPair pair
    new = record { handle = small; place = place }

    reported : IsPair (written_from page) × ((written_from page).handle ≤ page.last.handle)
    reported = reported_fits page fits

    by_room : (room : Bool) → has_room page pair ≡ room
        → AreBytes (map_after (record { body = page.body ++ added page pair; last = pair; ended = false }) pairs)
        → AreBytes (map_after (record { body = (pair_after ORIGIN).short pair; last = pair; ended = false }) pairs)
        → AreBytes (given page pair ++ map_after (filled page pair) pairs)
    by_room true room on anew =
        bytes_joined (given page pair) (map_after (filled page pair) pairs) (subst AreBytes (sym (given_none page pair room)) tt)
        (subst (λ (next : OpenPage). AreBytes (map_after next pairs)) (sym (filled_on page pair room)) on)
    by_room false room on anew =
        bytes_joined (given page pair) (map_after (filled page pair) pairs) (subst AreBytes (sym (given_page page pair room)) (page_is_bytes page.body are))
        (subst (λ (next : OpenPage). AreBytes (map_after next pairs)) (sym (filled_new page pair room)) anew)

-- so is the whole map
pub map_is_bytes : (pairs : List Pair) → Ascend 0 pairs → AreBytes (map_bytes pairs)
unfolding map_bytes
map_is_bytes pairs ascend = after_is_bytes pairs FRESH tt origin_is_pair ascend
