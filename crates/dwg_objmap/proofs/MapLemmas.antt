-- What trying a map reports, and that it reports no other.
use Rattle.std.proofs.Common.{◌≡◌, refl, sym, ◌∙◌, ap, ap₂, subst, ℕ, zero, suc, ◌+◌, ◌<◌, ◌≤◌, Bool, true, false, List, [], ◌∷◌, ◌++◌, length, arith, zero-add, append_assoc, length-append}
use Rattle.std.specs.Prelude.{◌≢◌, ◌↔◌, ◌==◌, Ok, Err, flat_map, if◌then◌else◌}
use Rattle.std.proofs.lemmas.Bool.Decides.{nat_tests}
use Rattle.std.proofs.lemmas.List.{append-nil}
use Rattle.std.proofs.lemmas.List.Concat.{flat_map-append}
use Rattle.dwg_base.specs.Bytes.{AreBytes}
use Rattle.dwg_base.specs.Refusals.{Tried}
use Rattle.dwg_base.specs.Refusal.{Refusal}
use Rattle.dwg_objmap.specs.declared.pair.Pair.{Pair}
use Rattle.dwg_objmap.specs.Pages.{PageAt, PagesAt, AreHandles, handles_of, MapOf}
use Rattle.dwg_objmap.proofs.HandleLemmas.{handles_prefix, no_handles}
use Rattle.dwg_objmap.specs.MapLines.{word_at, page_end, page_after, with_page, pages_after, tried_page, tried_map, RefusesPage, RefusesMap}
use Rattle.dwg_objmap.proofs.PageLemmas.{PageAll, ReportsPage, page_reported, page_all, page_refused, page_next, page_empty, page_filled, page_long, page_lies}

-- the pairs of all pages
abbrev pub joined : List (List Pair) → List Pair
joined pages = flat_map (λ (page : List Pair). page) pages

-- pages, and then one more after the last of them
pages_more : (bytes : List ℕ) (pages : List (List Pair)) (place at next : ℕ) (pairs : List Pair) → PagesAt bytes place pages at → PageAt bytes at pairs next → pairs ≢ []
    → PagesAt bytes place (pages ++ pairs ∷ []) next
pages_more bytes [] place at next pairs stand page filled = (next, subst (λ from. PageAt bytes from pairs next) stand page, filled, refl)
pages_more bytes (first ∷ pages) place at next pairs (after, one, some, others) page filled = (after, one, some, pages_more bytes pages after at next pairs others page filled)

-- the pairs of pages and of one more
joined_more : (pages : List (List Pair)) (pairs : List Pair) → joined (pages ++ pairs ∷ []) ≡ joined pages ++ pairs
joined_more pages pairs = flat_map-append (λ (page : List Pair). page) pages (pairs ∷ []) ∙ ap (λ last. joined pages ++ last) (append-nil pairs)

-- a refused page refuses the map
pub page_fails : (fuel index place : ℕ) (seen : List Pair) (bytes : List ℕ) (refusal : Refusal) → page_after seen place index bytes ≡ Err refusal
    → pages_after (suc fuel) seen place index bytes ≡ Err refusal
unfolding pages_after
page_fails fuel index place seen bytes refusal reported = ap (with_page bytes place (λ (all : List Pair). pages_after fuel all (page_end bytes place) (index + 1) bytes)) reported

-- a page of size 2 ends the map
pub page_ends : (fuel index place : ℕ) (seen all : List Pair) (bytes : List ℕ) → page_after seen place index bytes ≡ Ok all → word_at bytes place ≡ 2
    → pages_after (suc fuel) seen place index bytes ≡ Ok all
unfolding pages_after
page_ends fuel index place seen all bytes reported two =
    let is : (word_at bytes place == 2) ≡ true = grind (arith, nat_tests) in
    ap (with_page bytes place (λ (all : List Pair). pages_after fuel all (page_end bytes place) (index + 1) bytes)) reported
    ∙ ap (λ (test : Bool). if test then Ok all else pages_after fuel all (page_end bytes place) (index + 1) bytes) is

-- after any other the next page follows
pub page_follows : (fuel index place : ℕ) (seen all : List Pair) (bytes : List ℕ) → page_after seen place index bytes ≡ Ok all → (word_at bytes place ≡ 2 → ⊥)
    → pages_after (suc fuel) seen place index bytes ≡ pages_after fuel all (page_end bytes place) (index + 1) bytes
unfolding pages_after
page_follows fuel index place seen all bytes reported other =
    let is : (word_at bytes place == 2) ≡ false = by_test (word_at bytes place == 2) refl in
    ap (with_page bytes place (λ (all : List Pair). pages_after fuel all (page_end bytes place) (index + 1) bytes)) reported
    ∙ ap (λ (test : Bool). if test then Ok all else pages_after fuel all (page_end bytes place) (index + 1) bytes) is
  where
    by_test : (test : Bool) → (word_at bytes place == 2) ≡ test → (word_at bytes place == 2) ≡ false
    by_test true is = let two : word_at bytes place ≡ 2 = grind (arith, nat_tests) in absurd (other two)
    by_test false is = is

-- what trying a map reports: its pairs, or its refusal
abbrev pub ReportsMap : ℕ → List ℕ → Tried (List Pair) → Type 0
ReportsMap place bytes (Ok all) = MapOf bytes place all
ReportsMap place bytes (Err refusal) = RefusesMap place bytes refusal

-- some pages stand one after the other and pass
record PagesSoFar (bytes : List ℕ) (place : ℕ) (pages : List (List Pair)) (at index : ℕ) (all : List Pair) : Type 0 where
  stand : PagesAt bytes place pages at
  handles : AreHandles (handles_of all)
  all_is : all ≡ joined pages
  index_is : index ≡ length pages

-- what trying the pages of a map from some on reports is so
pages_reported : (fuel : ℕ) (bytes : List ℕ) (place : ℕ) (pages : List (List Pair)) (at index : ℕ) (all : List Pair) → AreBytes bytes → 0 < fuel → length bytes < fuel + at
    → PagesSoFar bytes place pages at index all → ReportsMap place bytes (pages_after fuel all at index bytes)
pages_reported zero bytes place pages at index all text some enough so_far = absurd (omega arith)
pages_reported (suc fuel) bytes place pages at index all text some enough so_far =
    by_page (page_after all at index bytes) refl (page_reported all at index bytes text so_far.handles)
    (λ pairs seen more within. pages_reported fuel bytes place (pages ++ pairs ∷ []) (page_end bytes at) (index + 1) seen text (omega arith) (omega arith) more)
  where
    Reported : Tried (List Pair) → Type 0
    Reported = ReportsMap place bytes

    After : Type 0
    After =
        (pairs seen : List Pair) → PagesSoFar bytes place (pages ++ pairs ∷ []) (page_end bytes at) (index + 1) seen
        → (at + 4 ≤ page_end bytes at) × (page_end bytes at ≤ length bytes)
        → Reported (pages_after fuel seen (page_end bytes at) (index + 1) bytes)

    by_size : (seen : List Pair) → page_after all at index bytes ≡ Ok seen → PageAll all at bytes seen → (test : Bool) → (word_at bytes at == 2) ≡ test → After
        → Reported (pages_after (suc fuel) all at index bytes)
    by_size seen reported page true is go_on =
        let two : word_at bytes at ≡ 2 = grind (arith, nat_tests) in
        let none : page.pairs ≡ [] = page_empty bytes at page.pairs (page_end bytes at) page.stands two in
        subst Reported (sym (page_ends fuel index at all seen bytes reported two)) (record {
          pages = pages;
          last = at;
          next = page_end bytes at;
          stand = so_far.stand;
          end = subst (λ pairs. PageAt bytes at pairs (page_end bytes at)) none page.stands;
          all = page.whole ∙ ap (λ pairs. all ++ pairs) none ∙ append-nil all ∙ so_far.all_is;
          handles = page.handles;
        })
    by_size seen reported page false is go_on =
        let other : word_at bytes at ≡ 2 → ⊥ = λ two. grind (arith, nat_tests) in
        subst Reported (sym (page_follows fuel index at all seen bytes reported other))
        (go_on page.pairs seen (record {
          stand = pages_more bytes pages place at (page_end bytes at) page.pairs so_far.stand page.stands (page_filled bytes at page.pairs (page_end bytes at) page.stands other);
          handles = page.handles;
          all_is = page.whole ∙ ap (λ prefix. prefix ++ page.pairs) so_far.all_is ∙ sym (joined_more pages page.pairs);
          index_is = omega (arith, so_far.index_is, length-append pages (page.pairs ∷ []));
        })
        (page_long bytes at page.pairs (page_end bytes at) page.stands))

    by_page : (reported : Tried (List Pair)) → page_after all at index bytes ≡ reported → ReportsPage all at index bytes reported → After → Reported (pages_after (suc fuel) all at index bytes)
    by_page (Err refusal) reported reports go_on =
        subst Reported (sym (page_fails fuel index at all bytes refusal reported)) (record {
          pages = pages;
          last = at;
          stand = so_far.stand;
          handles = subst (λ pairs. AreHandles (handles_of pairs)) so_far.all_is so_far.handles;
          refuses = subst (λ (n : ℕ). RefusesPage (joined pages) at n bytes refusal) so_far.index_is
              (subst (λ pairs. RefusesPage pairs at index bytes refusal) so_far.all_is reports);
        })
    by_page (Ok seen) reported reports go_on = by_size seen reported reports (word_at bytes at == 2) refl go_on

-- what trying a map reports is so
pub map_reported : (place : ℕ) (bytes : List ℕ) → AreBytes bytes → ReportsMap place bytes (tried_map place bytes)
unfolding tried_map
map_reported place bytes text =
    pages_reported (suc (length bytes)) bytes place [] place 0 [] text (omega arith) (omega arith) (record { stand = refl; handles = no_handles; all_is = refl; index_is = refl })

-- what is tried after pages that pass goes on as it would from there
pages_go : (pages : List (List Pair)) (fuel index place last : ℕ) (seen : List Pair) (bytes : List ℕ) (result : Tried (List Pair)) → PagesAt bytes place pages last
    → AreHandles (handles_of (seen ++ joined pages)) → 0 < fuel → length bytes < fuel + place
    → ((less : ℕ) → 0 < less → pages_after less (seen ++ joined pages) last (index + length pages) bytes ≡ result)
    → pages_after fuel seen place index bytes ≡ result
pages_go [] fuel index place last seen bytes result stand are some enough go_on =
    let here : index ≡ index + 0 = omega arith in
    ap₂ (λ all at. pages_after fuel all at index bytes) (sym (append-nil seen)) (sym stand) ∙ ap (λ n. pages_after fuel (seen ++ []) last n bytes) here ∙ go_on fuel some
pages_go (pairs ∷ pages) zero index place last seen bytes result stand are some enough go_on = absurd (omega arith)
pages_go (pairs ∷ pages) (suc fuel) index place last seen bytes result (after, page, filled, others) are some enough go_on =
    page_follows fuel index place seen (seen ++ pairs) bytes reported other
    ∙ pages_go pages fuel (index + 1) (page_end bytes place) last (seen ++ pairs) bytes result (subst (λ from. PagesAt bytes from pages last) next others) are_all
    (omega (arith, long.0, long.1, next)) (omega (arith, long.0, long.1, next))
    (λ less some_left. ap₂ (λ all n. pages_after less all last n bytes) (append_assoc seen pairs (joined pages)) counted ∙ go_on less some_left)
  where
    next : after ≡ page_end bytes place
    next = page_next bytes place pairs after page

    long : (place + 4 ≤ after) × (after ≤ length bytes)
    long = page_long bytes place pairs after page

    are_all : AreHandles (handles_of ((seen ++ pairs) ++ joined pages))
    are_all = subst (λ all. AreHandles (handles_of all)) (sym (append_assoc seen pairs (joined pages))) are

    reported : page_after seen place index bytes ≡ Ok (seen ++ pairs)
    reported = page_all pairs seen place after index bytes page (handles_prefix (seen ++ pairs) (joined pages) are_all)

    other : word_at bytes place ≡ 2 → ⊥
    other two = filled (page_empty bytes place pairs after page two)

    counted : index + 1 + length pages ≡ index + length (pairs ∷ pages)
    counted = omega arith

-- the pairs of a map are reported
pub map_all : (place : ℕ) (bytes : List ℕ) (pairs : List Pair) → MapOf bytes place pairs → tried_map place bytes ≡ Ok pairs
unfolding tried_map
map_all place bytes pairs map =
    pages_go map.pages (suc (length bytes)) 0 place map.last [] bytes (Ok pairs) map.stand (subst (λ all. AreHandles (handles_of all)) map.all map.handles) (omega arith) (omega arith)
    (λ less some. ap (λ n. pages_after less (joined map.pages) map.last n bytes) (zero-add (length map.pages)) ∙ ends less some)
  where
    two : word_at bytes map.last ≡ 2
    two = let parts = page_lies bytes map.last [] map.next map.end in omega (arith, parts.size, ap length map.end.spelled)

    reported : (index : ℕ) → page_after (joined map.pages) map.last index bytes ≡ Ok pairs
    reported index =
        page_all [] (joined map.pages) map.last map.next index bytes map.end
        (subst (λ all. AreHandles (handles_of all)) (map.all ∙ sym (append-nil (joined map.pages))) map.handles)
        ∙ ap Ok (append-nil (joined map.pages) ∙ sym map.all)

    ends : (less : ℕ) → 0 < less → pages_after less (joined map.pages) map.last (length map.pages) bytes ≡ Ok pairs
    ends zero some = absurd (omega arith)
    ends (suc less) some = page_ends less (length map.pages) map.last (joined map.pages) pairs bytes (reported (length map.pages)) two

-- and so is the refusal of a map
pub map_refused : (place : ℕ) (bytes : List ℕ) (refusal : Refusal) → AreBytes bytes → RefusesMap place bytes refusal → tried_map place bytes ≡ Err refusal
unfolding tried_map
map_refused place bytes refusal text map =
    pages_go map.pages (suc (length bytes)) 0 place map.last [] bytes (Err refusal) map.stand map.handles (omega arith) (omega arith)
    (λ less some. ap (λ n. pages_after less (joined map.pages) map.last n bytes) (zero-add (length map.pages)) ∙ fails less some)
  where
    fails : (less : ℕ) → 0 < less → pages_after less (joined map.pages) map.last (length map.pages) bytes ≡ Err refusal
    fails zero some = absurd (omega arith)
    fails (suc less) some =
        page_fails less (length map.pages) map.last (joined map.pages) bytes refusal
        (page_refused (joined map.pages) map.last (length map.pages) bytes refusal text map.refuses)

-- a page at a place has one list of pairs, and a map from a place too
pub page_is_tried : (place index : ℕ) (bytes : List ℕ) (pairs : List Pair) → AreBytes bytes
    → (tried_page place index bytes ≡ Ok pairs) ↔ (PageAt bytes place pairs (page_end bytes place) × AreHandles (handles_of pairs))
unfolding tried_page
page_is_tried place index bytes pairs text = (of_tried, λ both. page_all pairs [] place (page_end bytes place) index bytes both.0 both.1)
  where
    of_tried : page_after [] place index bytes ≡ Ok pairs → PageAt bytes place pairs (page_end bytes place) × AreHandles (handles_of pairs)
    of_tried reported =
        let page : PageAll [] place bytes pairs = subst (ReportsPage [] place index bytes) reported (page_reported [] place index bytes text no_handles) in
        (subst (λ all. PageAt bytes place all (page_end bytes place)) (sym page.whole) page.stands, page.handles)

-- a page is refused by one refusal
pub page_is_refused : (place index : ℕ) (bytes : List ℕ) (refusal : Refusal) → AreBytes bytes → (tried_page place index bytes ≡ Err refusal) ↔ RefusesPage [] place index bytes refusal
unfolding tried_page
page_is_refused place index bytes refusal text =
    (λ reported. subst (ReportsPage [] place index bytes) reported (page_reported [] place index bytes text no_handles), λ refuses. page_refused [] place index bytes refusal text refuses)

-- a map has the pairs that are tried
pub map_is_tried : (place : ℕ) (bytes : List ℕ) (pairs : List Pair) → AreBytes bytes → (tried_map place bytes ≡ Ok pairs) ↔ MapOf bytes place pairs
map_is_tried place bytes pairs text = (λ reported. subst (ReportsMap place bytes) reported (map_reported place bytes text), map_all place bytes pairs)

-- a map is refused by one refusal
pub map_is_refused : (place : ℕ) (bytes : List ℕ) (refusal : Refusal) → AreBytes bytes → (tried_map place bytes ≡ Err refusal) ↔ RefusesMap place bytes refusal
map_is_refused place bytes refusal text = (λ reported. subst (ReportsMap place bytes) reported (map_reported place bytes text), map_refused place bytes refusal text)

-- a map from a place has one list of pairs
pub map_is_unique : (place : ℕ) (bytes : List ℕ) (pairs others : List Pair) → MapOf bytes place pairs → MapOf bytes place others → pairs ≡ others
map_is_unique place bytes pairs others map other =
    let both : ◌≡◌ {A = Tried (List Pair)} (Ok pairs) (Ok others) = sym (map_all place bytes pairs map) ∙ map_all place bytes others other in cc
