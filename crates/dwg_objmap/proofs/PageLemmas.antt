-- What trying a page reports, and that it reports no other.
use Rattle.std.proofs.Common.{◌≡◌, refl, sym, ◌∙◌, ap, ap₂, subst, ℕ, ◌+◌, ◌<◌, ◌≤◌, Bool, true, false, List, [], ◌∷◌, ◌++◌, length, arith, length-append, inl, inr}
use Rattle.std.specs.Prelude.{◌≢◌, ◌==◌, ◌&&◌, not, nat_lt, Ok, Err, if◌then◌else◌}
use Rattle.std.proofs.lemmas.Bool.Decides.{nat_tests}
use Rattle.std.proofs.lemmas.List.{append-nil}
use Rattle.dwg_base.specs.Bytes.{AreBytes}
use Rattle.dwg_base.specs.Refusals.{Tried}
use Rattle.dwg_base.specs.Refusal.{Refusal}
use Rattle.dwg_check.specs.CheckWord.{CHECK_SEED, check_word}
use Rattle.dwg_objmap.specs.declared.pair.Pair.{Pair}
use Rattle.dwg_objmap.specs.Pairs.{ORIGIN}
use Rattle.dwg_objmap.specs.Pages.{PageAt, AreHandles, handles_of}
use Rattle.dwg_objmap.specs.MapLines.{map_refusal, word_at, sized_at, body_at, page_end, pairs_after, page_after, HasPage, HasPageWord, RefusesPage}
use Rattle.dwg_objmap.proofs.PagePlaces.{body_is_bytes, PageStands, page_stands, length_of_body, size_below, page_there}
use Rattle.dwg_objmap.proofs.PairChains.{pair_has_bytes, ReportsPairs, PairsSoFar}
use Rattle.dwg_objmap.proofs.PairsTried.{pairs_reported, pairs_all, pairs_fail}

-- what the tests of a page give
abbrev by_tests : List Pair → ℕ → ℕ → List ℕ → Bool → Bool → Bool → Bool → Tried (List Pair)
by_tests seen place index bytes short cut small right =
    if short then Err (map_refusal 21 index place)
    else (if cut then Err (map_refusal 21 index place)
    else (if small then Err (map_refusal 22 index place)
    else (if not right then Err (map_refusal 23 index (place + word_at bytes place))
    else pairs_after (length (body_at bytes place)) index seen ORIGIN (place + 2) (body_at bytes place))))

-- whether the page's check word is right
abbrev is_right : List ℕ → ℕ → Bool
is_right bytes place = word_at bytes (place + word_at bytes place) == check_word CHECK_SEED (sized_at bytes place)

-- a page is tried by its tests
tried_by : (seen : List Pair) (place index : ℕ) (bytes : List ℕ) (short cut small right : Bool) → nat_lt (length bytes) (place + 2) ≡ short
    → not (nat_lt (word_at bytes place) 2) && nat_lt (length bytes) (page_end bytes place) ≡ cut → nat_lt (word_at bytes place) 2 ≡ small → is_right bytes place ≡ right
    → page_after seen place index bytes ≡ by_tests seen place index bytes short cut small right
unfolding page_after
tried_by seen place index bytes short cut small right is_short is_cut is_small is_it =
    ap₂ (λ a b. by_tests seen place index bytes a b (nat_lt (word_at bytes place) 2) (is_right bytes place)) is_short is_cut
    ∙ ap₂ (λ c d. by_tests seen place index bytes short cut c d) is_small is_it

-- fewer than two bytes are at the place
pub page_short : (seen : List Pair) (place index : ℕ) (bytes : List ℕ) → length bytes < place + 2 → page_after seen place index bytes ≡ Err (map_refusal 21 index place)
page_short seen place index bytes short =
    tried_by seen place index bytes true (not (nat_lt (word_at bytes place) 2) && nat_lt (length bytes) (page_end bytes place)) (nat_lt (word_at bytes place) 2) (is_right bytes place)
    (grind (arith, nat_tests)) refl refl refl

-- the page passes the end of the input
pub page_cut : (seen : List Pair) (place index : ℕ) (bytes : List ℕ) → place + 2 ≤ length bytes → 2 ≤ word_at bytes place → length bytes < page_end bytes place
    → page_after seen place index bytes ≡ Err (map_refusal 21 index place)
page_cut seen place index bytes there some cut =
    tried_by seen place index bytes false true (nat_lt (word_at bytes place) 2) (is_right bytes place) (grind (arith, nat_tests)) (grind (arith, nat_tests)) refl refl

-- the page's size is below 2
pub page_small : (seen : List Pair) (place index : ℕ) (bytes : List ℕ) → place + 2 ≤ length bytes → word_at bytes place < 2 → page_after seen place index bytes ≡ Err (map_refusal 22 index place)
page_small seen place index bytes there small =
    tried_by seen place index bytes false false true (is_right bytes place) (grind (arith, nat_tests)) (grind (arith, nat_tests)) (grind (arith, nat_tests)) refl

-- the page's check word is wrong
pub page_wrong : (seen : List Pair) (place index : ℕ) (bytes : List ℕ) → HasPage bytes place → (HasPageWord bytes place → ⊥)
    → page_after seen place index bytes ≡ Err (map_refusal 23 index (place + word_at bytes place))
page_wrong seen place index bytes has wrong =
    let two = has.0 in
    let within = has.1 in
    tried_by seen place index bytes false false false false (grind (arith, nat_tests)) (grind (arith, nat_tests)) (grind (arith, nat_tests)) (by_test (is_right bytes place) refl)
  where
    by_test : (test : Bool) → is_right bytes place ≡ test → is_right bytes place ≡ false
    by_test true right = let same : HasPageWord bytes place = grind (arith, nat_tests) in absurd (wrong same)
    by_test false other = other

-- a page with its right check word is tried pair by pair
pub page_right : (seen : List Pair) (place index : ℕ) (bytes : List ℕ) → HasPage bytes place → HasPageWord bytes place
    → page_after seen place index bytes ≡ pairs_after (length (body_at bytes place)) index seen ORIGIN (place + 2) (body_at bytes place)
page_right seen place index bytes has right =
    let two = has.0 in
    let within = has.1 in
    tried_by seen place index bytes false false false true (grind (arith, nat_tests)) (grind (arith, nat_tests)) (grind (arith, nat_tests)) (grind (arith, nat_tests))

-- all pairs of a page, after those seen before
pub record PageAll (seen : List Pair) (place : ℕ) (bytes : List ℕ) (all : List Pair) : Type 0 where
  pub pairs : List Pair
  pub stands : PageAt bytes place pairs (page_end bytes place)
  pub whole : all ≡ seen ++ pairs
  pub handles : AreHandles (handles_of all)

-- what trying a page reports: all pairs, or its refusal
abbrev pub ReportsPage : List Pair → ℕ → ℕ → List ℕ → Tried (List Pair) → Type 0
ReportsPage seen place index bytes (Ok all) = PageAll seen place bytes all
ReportsPage seen place index bytes (Err refusal) = RefusesPage seen place index bytes refusal

-- what trying a page's pairs reports is what trying the page reports
of_pairs : (seen : List Pair) (place index : ℕ) (bytes : List ℕ) (result : Tried (List Pair)) → AreBytes bytes → HasPage bytes place → HasPageWord bytes place
    → ReportsPairs seen (place + 2) index (body_at bytes place) result → ReportsPage seen place index bytes result
of_pairs seen place index bytes (Ok all) text has right reported = record {
  pairs = reported.pairs;
  stands = record {
    body = body_at bytes place;
    spelled = reported.spelled;
    size = omega (arith, length_of_body bytes place has, size_below bytes place text);
    stands = page_there bytes place text has right;
    ends = omega (arith, length_of_body bytes place has);
  };
  whole = reported.whole;
  handles = reported.handles;
}
of_pairs seen place index bytes (Err refusal) text has right reported = inr (inr (inr (inr (has, right, reported))))

-- what trying a page reports is so
pub page_reported : (seen : List Pair) (place index : ℕ) (bytes : List ℕ) → AreBytes bytes → AreHandles (handles_of seen) → ReportsPage seen place index bytes (page_after seen place index bytes)
page_reported seen place index bytes text handles = by_short (nat_lt (length bytes) (place + 2)) refl
  where
    Reported : Tried (List Pair) → Type 0
    Reported = ReportsPage seen place index bytes

    none_so_far : PairsSoFar seen [] (place + 2) [] (body_at bytes place) (body_at bytes place) seen ORIGIN (place + 2)
    none_so_far = record { spelled = refl; whole = refl; handles = handles; all_is = sym (append-nil seen); last_is = refl; at_is = omega arith }

    by_check : HasPage bytes place → (test : Bool) → is_right bytes place ≡ test → Reported (page_after seen place index bytes)
    by_check has true same =
        let right : HasPageWord bytes place = grind (arith, nat_tests) in
        subst Reported (sym (page_right seen place index bytes has right))
        (of_pairs seen place index bytes _ text has right
        (pairs_reported (length (body_at bytes place)) seen [] (place + 2) index [] (body_at bytes place) (body_at bytes place) seen ORIGIN (place + 2) (body_is_bytes bytes place text) (omega arith)
        none_so_far))
    by_check has false other =
        let wrong : HasPageWord bytes place → ⊥ = λ right. grind (arith, nat_tests) in
        subst Reported (sym (page_wrong seen place index bytes has wrong)) (inr (inr (inr (inl (refl, has, wrong)))))

    by_cut : place + 2 ≤ length bytes → 2 ≤ word_at bytes place → (test : Bool) → nat_lt (length bytes) (page_end bytes place) ≡ test → Reported (page_after seen place index bytes)
    by_cut there some true is =
        let cut : length bytes < page_end bytes place = grind (arith, nat_tests) in
        subst Reported (sym (page_cut seen place index bytes there some cut)) (inr (inl (refl, there, some, cut)))
    by_cut there some false is =
        let within : page_end bytes place ≤ length bytes = grind (arith, nat_tests) in by_check (some, within) (is_right bytes place) refl

    by_size : place + 2 ≤ length bytes → (test : Bool) → nat_lt (word_at bytes place) 2 ≡ test → Reported (page_after seen place index bytes)
    by_size there true is =
        let small : word_at bytes place < 2 = grind (arith, nat_tests) in
        subst Reported (sym (page_small seen place index bytes there small)) (inr (inr (inl (refl, there, small))))
    by_size there false is =
        let some : 2 ≤ word_at bytes place = grind (arith, nat_tests) in by_cut there some (nat_lt (length bytes) (page_end bytes place)) refl

    by_short : (test : Bool) → nat_lt (length bytes) (place + 2) ≡ test → Reported (page_after seen place index bytes)
    by_short true is =
        let short : length bytes < place + 2 = grind (arith, nat_tests) in subst Reported (sym (page_short seen place index bytes short)) (inl (refl, short))
    by_short false is =
        let there : place + 2 ≤ length bytes = grind (arith, nat_tests) in by_size there (nat_lt (word_at bytes place) 2) refl

-- a page that stands at a place lies in the input
pub page_lies : (bytes : List ℕ) (place : ℕ) (pairs : List Pair) (next : ℕ) (page : PageAt bytes place pairs next) → PageStands bytes place page.body
page_lies bytes place pairs next page = page_stands bytes place page.body page.size page.stands

-- and has its size there
page_has : (bytes : List ℕ) (place : ℕ) (body : List ℕ) → PageStands bytes place body → HasPage bytes place
page_has bytes place body parts = (omega (arith, parts.size), parts.within)

-- the next place is after its check word
pub page_next : (bytes : List ℕ) (place : ℕ) (pairs : List Pair) (next : ℕ) → PageAt bytes place pairs next → next ≡ page_end bytes place
page_next bytes place pairs next page = omega (arith, page.ends, (page_lies bytes place pairs next page).size)

-- all pairs of a page that stands at the place are reported
pub page_all : (pairs seen : List Pair) (place next index : ℕ) (bytes : List ℕ) → PageAt bytes place pairs next → AreHandles (handles_of (seen ++ pairs))
    → page_after seen place index bytes ≡ Ok (seen ++ pairs)
page_all pairs seen place next index bytes page handles =
    let parts = page_lies bytes place pairs next page in
    page_right seen place index bytes (page_has bytes place page.body parts) parts.has_check_word
    ∙ ap (λ body. pairs_after (length body) index seen ORIGIN (place + 2) body) parts.pairs
    ∙ pairs_all pairs seen index (place + 2) page.body page.spelled handles

-- and so is the refusal of a page
pub page_refused : (seen : List Pair) (place index : ℕ) (bytes : List ℕ) (refusal : Refusal) → AreBytes bytes → RefusesPage seen place index bytes refusal → page_after seen place index bytes ≡ Err refusal
page_refused seen place index bytes refusal text (inl (same, short)) = page_short seen place index bytes short ∙ ap Err (sym same)
page_refused seen place index bytes refusal text (inr (inl (same, there, some, cut))) = page_cut seen place index bytes there some cut ∙ ap Err (sym same)
page_refused seen place index bytes refusal text (inr (inr (inl (same, there, small)))) = page_small seen place index bytes there small ∙ ap Err (sym same)
page_refused seen place index bytes refusal text (inr (inr (inr (inl (same, has, wrong))))) = page_wrong seen place index bytes has wrong ∙ ap Err (sym same)
page_refused seen place index bytes refusal text (inr (inr (inr (inr (has, right, fails))))) =
    page_right seen place index bytes has right ∙ pairs_fail seen index (place + 2) (body_at bytes place) refusal (body_is_bytes bytes place text) fails

-- a page has no pairs just where its size is 2
pub page_empty : (bytes : List ℕ) (place : ℕ) (pairs : List Pair) (next : ℕ) → PageAt bytes place pairs next → word_at bytes place ≡ 2 → pairs ≡ []
page_empty bytes place [] next page two = refl
page_empty bytes place (pair ∷ pairs) next page two =
    let (prefix, back, first, others, same) = page.spelled in
    absurd (omega (arith, (page_lies bytes place (pair ∷ pairs) next page).size, pair_has_bytes ORIGIN pair prefix first, ap length same, length-append prefix back))

-- and has pairs where its size is another
pub page_filled : (bytes : List ℕ) (place : ℕ) (pairs : List Pair) (next : ℕ) → PageAt bytes place pairs next → (word_at bytes place ≡ 2 → ⊥) → pairs ≢ []
page_filled bytes place [] next page other = λ same. other (omega (arith, (page_lies bytes place [] next page).size, ap length page.spelled))
page_filled bytes place (pair ∷ pairs) next page other = λ same. cc

-- a page has four bytes or more
pub page_long : (bytes : List ℕ) (place : ℕ) (pairs : List Pair) (next : ℕ) → PageAt bytes place pairs next → (place + 4 ≤ next) × (next ≤ length bytes)
page_long bytes place pairs next page =
    let parts = page_lies bytes place pairs next page in (omega (arith, page.ends), omega (arith, page.ends, parts.size, parts.within))
