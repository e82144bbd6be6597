-- How many pairs a map has at the most, and by how many bytes it is written. A rule of this project.
use Rattle.std.proofs.Common.{◌≡◌, ap, ℕ, zero, suc, ◌+◌, ◌-◌, ◌*◌, ◌/◌, ◌%◌, ◌≤◌, Bool, true, false, List, [], ◌∷◌, ◌++◌, length, length-append, arith}
use Rattle.std.specs.Prelude.{nat_lt, flat_map, if◌then◌else◌}
use Rattle.std.specs.Int.{w16, to_be_bytes}
use Rattle.dwg_check.specs.CheckWord.{CHECK_SEED, check_word}
use Rattle.dwg_grammar.specs.Combinators.{SpellsChain, always, choose}
use Rattle.dwg_grammar.specs.ModularCodes.{Signed, last_of, after_group, mc_within, mc, sign_and_magnitude, signed_mc_within, signed_mc}
use Rattle.dwg_grammar.proofs.SignedLemmas.{after_signed}
use Rattle.dwg_objmap.specs.declared.pair.Pair.{Pair}
use Rattle.dwg_objmap.specs.Pairs.{ORIGIN, move_between, pair_after}
use Rattle.dwg_objmap.specs.Pages.{page_bytes, PagesAt, MapOf}
use Rattle.dwg_objmap.proofs.PageLemmas.{page_long}
use Rattle.dwg_objmap.proofs.PairChains.{pair_has_bytes}
use Rattle.dwg_objmap.specs.Writing.{OpenPage, written_from, added, has_room, given, filled, closing_body, closing, map_after, map_bytes, FRESH}

-- an MC is written by no more bytes than it may have
mc_within_short : (most value : ℕ) → length ((mc_within most).short value) ≤ most
unfolding mc_within
mc_within_short zero value = omega arith
mc_within_short (suc more) value =
    let tag : ℕ = if nat_lt value 128 then value else 128 + value % 128 in
    let rest : length ((choose (nat_lt tag 128) (always {A = ℕ} tag) (after_group 128 (tag - 128) (mc_within more))).short value) ≤ more = of_test (nat_lt tag 128) tag (mc_within_short more) in
    omega arith
  where
    of_test : (test : Bool) (tag : ℕ) → ((high : ℕ) → length ((mc_within more).short high) ≤ more)
        → length ((choose test (always {A = ℕ} tag) (after_group 128 (tag - 128) (mc_within more))).short value) ≤ more
    of_test true tag others = omega arith
    of_test false tag others = others (value / 128)

-- and so is a signed one
signed_within_short : (most : ℕ) (value : Signed) → length ((signed_mc_within most).short value) ≤ most
unfolding signed_mc_within
signed_within_short zero value = omega arith
signed_within_short (suc more) value =
    let tag : ℕ = if nat_lt value.1 64 then (if value.0 then 64 + value.1 else value.1) else 128 + value.1 % 128 in
    let rest : length ((choose (nat_lt tag 128) (always (last_of tag)) (after_signed (tag - 128) (signed_mc_within more))).short value) ≤ more = of_test (nat_lt tag 128) tag (signed_within_short more) in
    omega arith
  where
    of_test : (test : Bool) (tag : ℕ) → ((high : Signed) → length ((signed_mc_within more).short high) ≤ more)
        → length ((choose test (always (last_of tag)) (after_signed (tag - 128) (signed_mc_within more))).short value) ≤ more
    of_test true tag others = omega arith
    of_test false tag others = others (value.0, value.1 / 128)

-- so a pair is written by at most twenty bytes
pair_short : (before pair : Pair) → length ((pair_after before).short pair) ≤ 20
unfolding pair_after
pair_short before pair =
    omega (
      arith,
      length-append (mc.short (pair.handle - before.handle)) (signed_mc.short (move_between before.place pair.place)),
      mc_within_short 10 (pair.handle - before.handle),
      signed_within_short 10 (sign_and_magnitude (move_between before.place pair.place)),
    )

-- a page has four bytes beside its pairs
page_is_counted : (body : List ℕ) → length (page_bytes body) ≡ 4 + length body
page_is_counted body =
    omega (
      arith,
      length-append (to_be_bytes w16 (2 + length body) ++ body) (to_be_bytes w16 (check_word CHECK_SEED (to_be_bytes w16 (2 + length body) ++ body))),
      length-append (to_be_bytes w16 (2 + length body)) body,
    )

-- the open page is ended by at most four bytes more than it has
closing_short : (body : List ℕ) → length (closing_body body) ≤ length body + 4
closing_short [] = omega arith
closing_short (byte ∷ bytes) = omega (arith, page_is_counted (byte ∷ bytes))

-- pairs after an open page are written by at most twenty-four bytes each, and its own
after_short : (page : OpenPage) (pairs : List Pair) → length (map_after page pairs) ≤ length page.body + 8 + 24 * length pairs
unfolding map_after closing given filled
after_short page [] = omega (arith, length-append (closing_body page.body) (page_bytes []), closing_short page.body, page_is_counted [])
after_short page (pair ∷ pairs) = of_room (has_room page pair) (λ next. after_short next pairs)
  where
    of_room : (test : Bool) → ((next : OpenPage) → length (map_after next pairs) ≤ length next.body + 8 + 24 * length pairs)
        → length ((if test then [] else page_bytes page.body)
        ++ map_after (if test then record { body = page.body ++ added page pair; last = pair; ended = false } else record { body = (pair_after ORIGIN).short pair; last = pair; ended = false }) pairs)
        ≤ length page.body + 8 + 24 * length (pair ∷ pairs)
    of_room true others =
        omega (arith, others (record { body = page.body ++ added page pair; last = pair; ended = false }), length-append page.body (added page pair), pair_short (written_from page) pair)
    of_room false others =
        omega (
          arith,
          length-append (page_bytes page.body) (map_after (record { body = (pair_after ORIGIN).short pair; last = pair; ended = false }) pairs),
          page_is_counted page.body,
          others (record { body = (pair_after ORIGIN).short pair; last = pair; ended = false }),
          pair_short ORIGIN pair,
        )

-- the map of so many pairs has at most so many bytes
pub map_short : (pairs : List Pair) → length (map_bytes pairs) ≤ 8 + 24 * length pairs
unfolding map_bytes
map_short pairs = omega (arith, after_short FRESH pairs)

-- pairs are no more than the bytes that spell them
pairs_few : (before : Pair) (pairs : List Pair) (body : List ℕ) → SpellsChain pair_after (λ pair. pair) before pairs body → length pairs ≤ length body
pairs_few before [] body spelled = omega arith
pairs_few before (pair ∷ pairs) body (prefix, back, one, others, same) =
    omega (arith, pair_has_bytes before pair prefix one, ap length same, length-append prefix back, pairs_few pair pairs back others)

-- pages have no more pairs than bytes
pages_few : (bytes : List ℕ) (place : ℕ) (pages : List (List Pair)) (last : ℕ) → PagesAt bytes place pages last → place + length (flat_map (λ (page : List Pair). page) pages) ≤ last
pages_few bytes place [] last stand = omega (arith, stand)
pages_few bytes place (pairs ∷ pages) last (after, page, some, others) =
    omega (
      arith,
      page.ends,
      pairs_few ORIGIN pairs page.body page.spelled,
      length-append pairs (flat_map (λ (page : List Pair). page) pages),
      pages_few bytes after pages last others,
    )

-- a map has no more pairs than its input has bytes
pub map_few : (bytes : List ℕ) (place : ℕ) (pairs : List Pair) → MapOf bytes place pairs → length pairs ≤ length bytes
map_few bytes place pairs map =
    omega (arith, pages_few bytes place map.pages map.last map.stand, page_long bytes map.last [] map.next map.end, ap length map.all)
