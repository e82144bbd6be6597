-- A whole map in an input: the walk is over all its pages, of which none is lost, and the pairs that are read are its pairs.
use Rattle.std.proofs.Common.{◌≡◌, refl, sym, ◌∙◌, ap, ap₂, subst, ℕ, ◌+◌, ◌<◌, Bool, true, List, [], ◌∷◌, ◌++◌, length, length-append, Some, None, inl, inr, arith}
use Rattle.std.specs.Prelude.{◌≢◌, flat_map, if◌then◌else◌}
use Rattle.std.specs.List.{AllByRecursion}
use Rattle.dwg_objmap.specs.declared.pair.Pair.{Pair}
use Rattle.dwg_objmap.specs.Pairs.{ORIGIN}
use Rattle.dwg_objmap.specs.Pages.{MapOf, PageAt, PagesAt, PairsSpell}
use Rattle.dwg_objmap.proofs.PairChains.{pair_has_bytes}
use Rattle.dwg_objmap.specs.MapLines.{body_at, word_at}
use Rattle.dwg_objmap.specs.Walking.{page_holds_at, leading_pairs, size_of_page}
use Rattle.dwg_objmap.proofs.WalkingLemmas.{page_gives, size_is}
use Rattle.dwg_sections.specs.declared.header.FileHeader.{FileHeader}
use Rattle.dwg_sections.specs.HeaderLines.{place_of}
use Rattle.dwg_recover.specs.declared.loss.Loss.TheVariants.{Page}
use Rattle.dwg_recover.specs.Recovering.{pairs_read, walk_located, walk_of}
use Rattle.dwg_recover.specs.Sections.{header_of, locators_of}
use Rattle.dwg_recover.proofs.WalkStanding.{right_reported, walk_once, walk_stands}
use Rattle.dwg_recover.specs.Walks.{IsWalk, Walk, lost_pages, pairs_at, pairs_of, walk_from}

-- a page of the walk: its size is there, it gives its pairs, and the next place is after it
record IsPage (bytes : List ℕ) (place : ℕ) (pairs : List Pair) (next : ℕ) : Type 0 where
  sized : size_of_page bytes place ≡ Some (word_at bytes place)
  holds : page_holds_at bytes place ≡ true
  gives : pairs_at bytes place ≡ pairs
  after : next ≡ place + word_at bytes place + 2

-- a page that stands is one
page_is : (bytes : List ℕ) (place next : ℕ) (pairs : List Pair) → PageAt bytes place pairs next → IsPage bytes place pairs next
page_is bytes place next pairs page =
    let parts = page_gives bytes place next pairs page in
    record {
      sized = (size_is bytes place (word_at bytes place)).1 (parts.0, refl);
      holds = (right_reported bytes place).1 parts.1;
      gives = ap (λ (right : Bool). if right then leading_pairs (body_at bytes place) else []) ((right_reported bytes place).1 parts.1) ∙ parts.3;
      after = parts.2;
    }

-- pairs have bytes
pairs_have_bytes : (pairs : List Pair) (body : List ℕ) → PairsSpell pairs body → pairs ≢ [] → 0 < length body
pairs_have_bytes [] body spelled some = absurd (some refl)
pairs_have_bytes (pair ∷ pairs) body (prefix, back, one, others, same) some = omega (arith, pair_has_bytes ORIGIN pair prefix one, ap length same, length-append prefix back)

-- the walk over the pages of a map, each with a right check word
record IsWalked (bytes : List ℕ) (place : ℕ) (pairs : List Pair) : Type 0 where
  pages : List ℕ
  walk : IsWalk bytes place pages None
  held : AllByRecursion (λ page. page_holds_at bytes page ≡ true) pages
  all : pairs_of bytes pages ≡ pairs

-- the page without pairs ends it
ends_walk : (bytes : List ℕ) (place next : ℕ) → PageAt bytes place [] next → IsWalked bytes place []
ends_walk bytes place next page =
    let is = page_is bytes place next [] page in
    let two : word_at bytes place ≡ 2 = omega (arith, is.after, page.ends, ap length page.spelled) in
    record { pages = place ∷ []; walk = (refl, word_at bytes place, is.sized, inl (two, refl, refl)); held = (is.holds, tt); all = ap (λ (pairs : List Pair). pairs ++ []) is.gives }

-- pages that stand one after the other are walked
pages_walked : (bytes : List ℕ) (pages : List (List Pair)) (place last next : ℕ) → PagesAt bytes place pages last → PageAt bytes last [] next
    → IsWalked bytes place (flat_map (λ (page : List Pair). page) pages)
pages_walked bytes [] place last next stand end = subst (λ at. IsWalked bytes at []) stand (ends_walk bytes last next end)
pages_walked bytes (pairs ∷ pages) place last next (after, page, some, others) end =
    let is = page_is bytes place after pairs page in
    let rest = pages_walked bytes pages after last next others end in
    let more : word_at bytes place ≢ 2 = λ two. absurd (omega (arith, two, is.after, page.ends, pairs_have_bytes pairs page.body page.spelled some)) in
    record {
      pages = place ∷ rest.pages;
      walk = (refl, word_at bytes place, is.sized, inr (more, subst (λ at. IsWalk bytes at rest.pages None) is.after rest.walk));
      held = (is.holds, rest.held);
      all = ap₂ (λ (ones others : List Pair). ones ++ others) is.gives rest.all;
    }

-- of pages with right check words none is lost
no_page_lost : (bytes : List ℕ) (index : ℕ) (pages : List ℕ) → AllByRecursion (λ page. page_holds_at bytes page ≡ true) pages → lost_pages bytes index pages ≡ []
no_page_lost bytes index [] held = refl
no_page_lost bytes index (page ∷ pages) held =
    ap (λ (holds : Bool). if holds then lost_pages bytes (index + 1) pages else Page index page ∷ lost_pages bytes (index + 1) pages) held.0 ∙ no_page_lost bytes (index + 1) pages held.1

-- a map is walked over as a whole: no page of it is lost, nor its end, and its pairs are read
pub record IsWholeWalk (bytes : List ℕ) (pairs : List Pair) : Type 0 where
  pub held : lost_pages bytes 0 (walk_of bytes).pages ≡ []
  pub ends : (walk_of bytes).lost ≡ None
  pub read : pairs_read bytes ≡ pairs

-- so it is where the header locates it
pub map_is_walked : (bytes : List ℕ) (header : FileHeader) (place : ℕ) (pairs : List Pair) → header_of bytes ≡ Some header → place_of 2 header.locators ≡ Some place
    → MapOf bytes place pairs → IsWholeWalk bytes pairs
unfolding pairs_read walk_of
map_is_walked bytes header place pairs is located map = record {
  held = ap (λ (walk : Walk). lost_pages bytes 0 walk.pages) from ∙ ap (lost_pages bytes 0) same.0 ∙ no_page_lost bytes 0 walked.pages walked.held;
  ends = ap (λ (walk : Walk). walk.lost) from ∙ same.1;
  read = ap (λ (walk : Walk). pairs_of bytes walk.pages) from ∙ ap (pairs_of bytes) same.0 ∙ walked.all ∙ sym map.all;
}
  where
    from : walk_located bytes (place_of 2 (locators_of (header_of bytes))) ≡ walk_from bytes place
    from = ap (λ found. walk_located bytes (place_of 2 (locators_of found))) is ∙ ap (walk_located bytes) located

    walked : IsWalked bytes place (flat_map (λ (page : List Pair). page) map.pages)
    walked = pages_walked bytes map.pages place map.last map.next map.stand map.end

    same : ((walk_from bytes place).pages ≡ walked.pages) × ((walk_from bytes place).lost ≡ None)
    same = walk_once bytes place (walk_from bytes place).pages walked.pages (walk_from bytes place).lost None (walk_stands size_is bytes place) walked.walk

-- so its pairs are read
pub map_is_read : (bytes : List ℕ) (header : FileHeader) (place : ℕ) (pairs : List Pair) → header_of bytes ≡ Some header → place_of 2 header.locators ≡ Some place
    → MapOf bytes place pairs → pairs_read bytes ≡ pairs
map_is_read bytes header place pairs is located map = (map_is_walked bytes header place pairs is located map).read
