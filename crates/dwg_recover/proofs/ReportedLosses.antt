-- Each loss is reported exactly where the test on it holds: of sections, pages, pairs and the end of the map.
use Rattle.std.proofs.Common.{◌≡◌, refl, sym, ◌∙◌, ap, subst, ℕ, ◌+◌, ◌<◌, ◌≤◌, Bool, true, false, List, [], ◌∷◌, ◌++◌, length, Option, Some, None, inl, inr, arith}
use Rattle.std.specs.Prelude.{◌⊎◌, ◌↔◌, ◌≢◌, ◌||◌, if◌then◌else◌}
use Rattle.std.specs.Option.{is_none}
use Rattle.std.proofs.lemmas.Bool.Decides.{nat_tests}
use Rattle.dwg_file.specs.FileLines.{is_cut}
use Rattle.dwg_objmap.specs.declared.pair.Pair.{Pair}
use Rattle.dwg_objmap.specs.MapLines.{HasPageWord}
use Rattle.dwg_objmap.specs.Walking.{page_holds_at}
use Rattle.dwg_sections.specs.declared.framed.Framed.TheVariants as framed
use Rattle.dwg_sections.specs.declared.header.Locator.{Locator}
use Rattle.dwg_recover.specs.declared.frame.Frame.{Frame}
use Rattle.dwg_recover.specs.declared.loss.Loss.{Loss}
use Rattle.dwg_recover.specs.declared.loss.Loss.TheVariants.{Header, Variables, Classes, Section, Page, MapEnd, Object}
use Rattle.dwg_recover.specs.Frames.{is_kept_pair, is_number, lost_pairs}
use Rattle.dwg_recover.specs.ListMembers.{IsAt, IsOneOf}
use Rattle.dwg_recover.proofs.ListMembers.{at_cases, at_first, at_next, in_first, in_second, none_at, of_joined}
use Rattle.dwg_recover.specs.Recovering.{frames_mapped, losses_of, pairs_read, walk_of}
use Rattle.dwg_recover.specs.Sections.{header_of, locators_of, lost_if, lost_sections, section_found}
use Rattle.dwg_recover.proofs.WalkStanding.{right_reported}
use Rattle.dwg_recover.specs.Walks.{lost_end, lost_pages}
use Rattle.dwg_recover.specs.ReportedLosses.{IsLoss, LossesAreReported}

-- a loss that is reported if a test holds
if_reported : (lost : Bool) (one loss : Loss) → IsOneOf one (lost_if lost loss) ↔ ((lost ≡ true) × (one ≡ loss))
if_reported true one loss = ((λ is. (refl, of_one is)), λ both. inl both.1)
  where
    of_one : IsOneOf one (loss ∷ []) → one ≡ loss
    of_one (inl same) = same
    of_one (inr none) = absurd none
if_reported false one loss = ((λ is. absurd is), λ both. absurd (never both.0))
  where
    never : false ≡ true → ⊥
    never same = cc

-- the unknown sections that are reported
IsLostSection : List ℕ → List Locator → Loss → Type 0
IsLostSection bytes locators loss = (locator : Locator) × IsOneOf locator locators × (is_cut bytes locator ≡ true) × (loss ≡ Section locator.number locator.place)

sections_reported : (bytes : List ℕ) (locators : List Locator) (loss : Loss) → IsOneOf loss (lost_sections bytes locators) ↔ IsLostSection bytes locators loss
unfolding IsLostSection
sections_reported bytes [] loss = ((λ is. absurd is), λ is. absurd is.1)
sections_reported bytes (locator ∷ locators) loss = of_cut (is_cut bytes locator) refl (sections_reported bytes locators loss)
  where
    later : IsLostSection bytes locators loss → IsLostSection bytes (locator ∷ locators) loss
    later (one, is, cut, same) = (one, inr is, cut, same)

    of_cut : (cut : Bool) → is_cut bytes locator ≡ cut → IsOneOf loss (lost_sections bytes locators) ↔ IsLostSection bytes locators loss
        → IsOneOf loss (if cut then Section locator.number locator.place ∷ lost_sections bytes locators else lost_sections bytes locators) ↔ IsLostSection bytes (locator ∷ locators) loss
    of_cut true known others = (to, from)
      where
        to : IsOneOf loss (Section locator.number locator.place ∷ lost_sections bytes locators) → IsLostSection bytes (locator ∷ locators) loss
        to (inl same) = (locator, inl refl, known, same)
        to (inr after) = later (others.0 after)

        from : IsLostSection bytes (locator ∷ locators) loss → IsOneOf loss (Section locator.number locator.place ∷ lost_sections bytes locators)
        from (one, inl is, cut, same) = inl (same ∙ ap (λ (locator : Locator). Section locator.number locator.place) is)
        from (one, inr is, cut, same) = inr (others.1 (one, is, cut, same))
    of_cut false known others = ((λ is. later (others.0 is)), from)
      where
        never : (one : Locator) → one ≡ locator → is_cut bytes one ≡ true → ⊥
        never one is cut = let both : false ≡ true = sym known ∙ ap (is_cut bytes) (sym is) ∙ cut in cc

        from : IsLostSection bytes (locator ∷ locators) loss → IsOneOf loss (lost_sections bytes locators)
        from (one, inl is, cut, same) = absurd (never one is cut)
        from (one, inr is, cut, same) = others.1 (one, is, cut, same)

-- the pages that are reported; the first has this number
IsLostPage : List ℕ → ℕ → List ℕ → Loss → Type 0
IsLostPage bytes number pages loss = (index : ℕ) × (place : ℕ) × IsAt index place pages × (page_holds_at bytes place ≡ false) × (loss ≡ Page (number + index) place)

pages_reported : (bytes : List ℕ) (number : ℕ) (pages : List ℕ) (loss : Loss) → IsOneOf loss (lost_pages bytes number pages) ↔ IsLostPage bytes number pages loss
unfolding IsLostPage
pages_reported bytes number [] loss = ((λ is. absurd is), λ is. absurd (none_at is.0 is.1 is.2))
pages_reported bytes number (page ∷ pages) loss = of_test (page_holds_at bytes page) refl (pages_reported bytes (number + 1) pages loss)
  where
    later : IsLostPage bytes (number + 1) pages loss → IsLostPage bytes number (page ∷ pages) loss
    later (index, place, at, wrong, same) =
        let count : number + 1 + index ≡ number + (index + 1) = omega arith in
        (index + 1, place, at_next index place page pages at, wrong, same ∙ ap (λ n. Page n place) count)

    after : (index next place : ℕ) → index ≡ next + 1 → IsAt next place pages → page_holds_at bytes place ≡ false → loss ≡ Page (number + index) place → IsLostPage bytes (number + 1) pages loss
    after index next place is at wrong same =
        let count : number + index ≡ number + 1 + next = omega (arith, is) in (next, place, at, wrong, same ∙ ap (λ n. Page n place) count)

    of_test : (holds : Bool) → page_holds_at bytes page ≡ holds → IsOneOf loss (lost_pages bytes (number + 1) pages) ↔ IsLostPage bytes (number + 1) pages loss
        → IsOneOf loss (if holds then lost_pages bytes (number + 1) pages else Page number page ∷ lost_pages bytes (number + 1) pages) ↔ IsLostPage bytes number (page ∷ pages) loss
    of_test true known others = ((λ is. later (others.0 is)), λ is. of_place is.0 is.1 is.3 is.4 (at_cases is.0 is.1 page pages is.2))
      where
        never : (place : ℕ) → place ≡ page → page_holds_at bytes place ≡ false → ⊥
        never place is wrong = let both : true ≡ false = sym known ∙ ap (page_holds_at bytes) (sym is) ∙ wrong in cc

        of_place : (index place : ℕ) → page_holds_at bytes place ≡ false → loss ≡ Page (number + index) place → ((index ≡ 0) × (place ≡ page)) ⊎ ((next : ℕ) × (index ≡ next + 1) × IsAt next place pages)
            → IsOneOf loss (lost_pages bytes (number + 1) pages)
        of_place index place wrong same (inl (first, is)) = absurd (never place is wrong)
        of_place index place wrong same (inr (next, is, at)) = others.1 (after index next place is at wrong same)
    of_test false known others = (to, λ is. of_place is.0 is.1 is.3 is.4 (at_cases is.0 is.1 page pages is.2))
      where
        to : IsOneOf loss (Page number page ∷ lost_pages bytes (number + 1) pages) → IsLostPage bytes number (page ∷ pages) loss
        to (inl same) =
            let count : number ≡ number + 0 = omega arith in
            (0, page, at_first page pages, known, same ∙ ap (λ n. Page n page) count)
        to (inr later_one) = later (others.0 later_one)

        of_place : (index place : ℕ) → page_holds_at bytes place ≡ false → loss ≡ Page (number + index) place → ((index ≡ 0) × (place ≡ page)) ⊎ ((next : ℕ) × (index ≡ next + 1) × IsAt next place pages)
            → IsOneOf loss (Page number page ∷ lost_pages bytes (number + 1) pages)
        of_place index place wrong same (inl (first, is)) =
            let count : number + index ≡ number = omega (arith, first) in
            inl (same ∙ ap (λ n. Page n place) count ∙ ap (Page number) is)
        of_place index place wrong same (inr (next, is, at)) = inr (others.1 (after index next place is at wrong same))

-- the pairs that are reported; the first has this number
IsLostPair : List Frame → ℕ → List Pair → Loss → Type 0
IsLostPair kept number pairs loss = (index : ℕ) × (pair : Pair) × IsAt index pair pairs × (is_kept_pair kept (number + index) ≡ false) × (loss ≡ Object pair.handle pair.place)

pairs_reported : (kept : List Frame) (number : ℕ) (pairs : List Pair) (loss : Loss) → IsOneOf loss (lost_pairs kept number pairs) ↔ IsLostPair kept number pairs loss
unfolding IsLostPair lost_pairs
pairs_reported kept number [] loss = ((λ is. absurd is), λ is. absurd (none_at is.0 is.1 is.2))
pairs_reported kept number (pair ∷ pairs) loss = of_test (is_kept_pair kept number) refl (pairs_reported kept (number + 1) pairs loss)
  where
    later : IsLostPair kept (number + 1) pairs loss → IsLostPair kept number (pair ∷ pairs) loss
    later (index, one, at, free, same) =
        let count : number + 1 + index ≡ number + (index + 1) = omega arith in
        (index + 1, one, at_next index one pair pairs at, sym (ap (is_kept_pair kept) count) ∙ free, same)

    after : (index next : ℕ) (one : Pair) → index ≡ next + 1 → IsAt next one pairs → is_kept_pair kept (number + index) ≡ false → loss ≡ Object one.handle one.place → IsLostPair kept (number + 1) pairs loss
    after index next one is at free same =
        let count : number + 1 + next ≡ number + index = omega (arith, is) in (next, one, at, ap (is_kept_pair kept) count ∙ free, same)

    of_test : (taken : Bool) → is_kept_pair kept number ≡ taken → IsOneOf loss (lost_pairs kept (number + 1) pairs) ↔ IsLostPair kept (number + 1) pairs loss
        → IsOneOf loss (if taken then lost_pairs kept (number + 1) pairs else Object pair.handle pair.place ∷ lost_pairs kept (number + 1) pairs) ↔ IsLostPair kept number (pair ∷ pairs) loss
    of_test true known others = ((λ is. later (others.0 is)), λ is. of_place is.0 is.1 is.3 is.4 (at_cases is.0 is.1 pair pairs is.2))
      where
        never : (index : ℕ) → index ≡ 0 → is_kept_pair kept (number + index) ≡ false → ⊥
        never index first free =
            let count : number ≡ number + index = omega (arith, first) in
            let both : true ≡ false = sym known ∙ ap (is_kept_pair kept) count ∙ free in cc

        of_place : (index : ℕ) (one : Pair) → is_kept_pair kept (number + index) ≡ false → loss ≡ Object one.handle one.place → ((index ≡ 0) × (one ≡ pair)) ⊎ ((next : ℕ) × (index ≡ next + 1) × IsAt next one pairs)
            → IsOneOf loss (lost_pairs kept (number + 1) pairs)
        of_place index one free same (inl (first, is)) = absurd (never index first free)
        of_place index one free same (inr (next, is, at)) = others.1 (after index next one is at free same)
    of_test false known others = (to, λ is. of_place is.0 is.1 is.3 is.4 (at_cases is.0 is.1 pair pairs is.2))
      where
        to : IsOneOf loss (Object pair.handle pair.place ∷ lost_pairs kept (number + 1) pairs) → IsLostPair kept number (pair ∷ pairs) loss
        to (inl same) =
            let count : number + 0 ≡ number = omega arith in
            (0, pair, at_first pair pairs, ap (is_kept_pair kept) count ∙ known, same)
        to (inr later_one) = later (others.0 later_one)

        of_place : (index : ℕ) (one : Pair) → is_kept_pair kept (number + index) ≡ false → loss ≡ Object one.handle one.place → ((index ≡ 0) × (one ≡ pair)) ⊎ ((next : ℕ) × (index ≡ next + 1) × IsAt next one pairs)
            → IsOneOf loss (Object pair.handle pair.place ∷ lost_pairs kept (number + 1) pairs)
        of_place index one free same (inl (first, is)) = inl (same ∙ ap (λ (pair : Pair). Object pair.handle pair.place) is)
        of_place index one free same (inr (next, is, at)) = inr (others.1 (after index next one is at free same))

-- no frame is kept for a pair exactly where none has its number
pub free_reported : (frames : List Frame) (number : ℕ) → (is_kept_pair frames number ≡ false) ↔ ((frame : Frame) → IsOneOf frame frames → frame.pair ≢ Some number)
free_reported [] number = ((λ none frame is. absurd is), λ none. refl)
free_reported (first ∷ frames) number = of_test (is_number number first.pair) refl (free_reported frames number)
  where
    is_its : (pair : Option ℕ) → pair ≡ Some number → is_number number pair ≡ true
    is_its None same = absurd cc
    is_its (Some other) same = let is : other ≡ number = cc in grind (arith, nat_tests, is)

    its_is : (pair : Option ℕ) → is_number number pair ≡ true → pair ≡ Some number
    its_is None passed = absurd cc
    its_is (Some other) passed = let is : other ≡ number = grind (arith, nat_tests, passed) in ap Some is

    of_test : (its : Bool) → is_number number first.pair ≡ its → (is_kept_pair frames number ≡ false) ↔ ((frame : Frame) → IsOneOf frame frames → frame.pair ≢ Some number)
        → (is_kept_pair (first ∷ frames) number ≡ false) ↔ ((frame : Frame) → IsOneOf frame (first ∷ frames) → frame.pair ≢ Some number)
    of_test true known others = ((λ none. absurd (never none)), λ none. absurd (none first (inl refl) (its_is first.pair known)))
      where
        never : is_kept_pair (first ∷ frames) number ≡ false → ⊥
        never none = let both : true ≡ false = sym (ap (λ (test : Bool). test || is_kept_pair frames number) known) ∙ none in cc
    of_test false known others = (to, from)
      where
        rest : is_kept_pair (first ∷ frames) number ≡ is_kept_pair frames number
        rest = ap (λ (test : Bool). test || is_kept_pair frames number) known

        failed : is_number number first.pair ≡ true → ⊥
        failed passed = let both : false ≡ true = sym known ∙ passed in cc

        to : is_kept_pair (first ∷ frames) number ≡ false → (frame : Frame) → IsOneOf frame (first ∷ frames) → frame.pair ≢ Some number
        to none frame (inl same) = λ its. absurd (failed (is_its first.pair (ap (λ (frame : Frame). frame.pair) (sym same) ∙ its)))
        to none frame (inr after) = others.0 (sym rest ∙ none) frame after

        from : ((frame : Frame) → IsOneOf frame (first ∷ frames) → frame.pair ≢ Some number) → is_kept_pair (first ∷ frames) number ≡ false
        from none = rest ∙ others.1 (λ frame is. none frame (inr is))

-- an unknown section passes the end exactly where its test says so
pub cut_reported : (bytes : List ℕ) (locator : Locator) → (is_cut bytes locator ≡ true) ↔ ((3 ≤ locator.number) × (0 < locator.size) × (length bytes < locator.place + locator.size))
cut_reported bytes locator = (
  (λ cut. (grind (arith, nat_tests, cut), grind (arith, nat_tests, cut), grind (arith, nat_tests, cut))),
  (λ is. grind (arith, nat_tests, is.0, is.1, is.2)),
)

-- what is none is tested so
pub none_reported : {A : Type 0} (found : Option A) → (is_none found ≡ true) ↔ (found ≡ None)
none_reported None = ((λ is. refl), λ is. refl)
none_reported (Some one) = ((λ is. absurd cc), λ is. absurd cc)

-- the end of the map that is reported
end_reported : (lost : Option ℕ) (loss : Loss) → IsOneOf loss (lost_end lost) ↔ ((place : ℕ) × (lost ≡ Some place) × (loss ≡ MapEnd place))
end_reported None loss = ((λ is. absurd is), λ is. absurd (never is.1))
  where
    never : {place : ℕ} → None ≡ Some place → ⊥
    never same = cc
end_reported (Some place) loss = (to, from)
  where
    to : IsOneOf loss (MapEnd place ∷ []) → (at : ℕ) × (Some place ≡ Some at) × (loss ≡ MapEnd at)
    to (inl same) = (place, refl, same)
    to (inr none) = absurd none

    from : (at : ℕ) × (Some place ≡ Some at) × (loss ≡ MapEnd at) → IsOneOf loss (MapEnd place ∷ [])
    from (at, same, is) = let here : at ≡ place = cc in inl (is ∙ ap MapEnd here)

-- a check word is wrong exactly where its test fails
pub wrong_reported : (bytes : List ℕ) (place : ℕ) → (page_holds_at bytes place ≡ false) ↔ (HasPageWord bytes place → ⊥)
wrong_reported bytes place = ((λ failed right. never (sym failed ∙ (right_reported bytes place).1 right)), λ wrong. of_test (page_holds_at bytes place) refl wrong)
  where
    never : false ≡ true → ⊥
    never same = cc

    of_test : (holds : Bool) → page_holds_at bytes place ≡ holds → (HasPageWord bytes place → ⊥) → holds ≡ false
    of_test true known wrong = absurd (wrong ((right_reported bytes place).0 known))
    of_test false known wrong = refl

-- so each of what is lost is reported, and nothing else
pub losses_reported : LossesAreReported
unfolding losses_of IsLostSection IsLostPage IsLostPair
losses_reported bytes loss = (λ is. to is, λ lost. from loss lost)
  where
    in_header : List Loss
    in_header = lost_if (is_none (header_of bytes)) Header

    in_variables : List Loss
    in_variables = lost_if (is_none (section_found framed.Variables bytes)) Variables

    in_classes : List Loss
    in_classes = lost_if (is_none (section_found framed.Classes bytes)) Classes

    in_sections : List Loss
    in_sections = lost_sections bytes (locators_of (header_of bytes))

    in_pages : List Loss
    in_pages = lost_pages bytes 0 (walk_of bytes).pages

    in_end : List Loss
    in_end = lost_end (walk_of bytes).lost

    in_pairs : List Loss
    in_pairs = lost_pairs (frames_mapped bytes) 0 (pairs_read bytes)

    of_sections : IsOneOf loss in_sections → IsLoss bytes loss
    of_sections is =
        let one = (sections_reported bytes (locators_of (header_of bytes)) loss).0 is in
        let cut = (cut_reported bytes one.0).0 one.2 in
        subst (IsLoss bytes) (sym one.3) (one.0, one.1, refl, refl, cut.0, cut.1, cut.2)

    of_pages : IsOneOf loss in_pages → IsLoss bytes loss
    of_pages is =
        let one = (pages_reported bytes 0 (walk_of bytes).pages loss).0 is in
        let count : 0 + one.0 ≡ one.0 = omega arith in
        subst (IsLoss bytes) (sym (one.4 ∙ ap (λ n. Page n one.1) count)) (one.2, (wrong_reported bytes one.1).0 one.3)

    of_pairs : IsOneOf loss in_pairs → IsLoss bytes loss
    of_pairs is =
        let one = (pairs_reported (frames_mapped bytes) 0 (pairs_read bytes) loss).0 is in
        let count : one.0 ≡ 0 + one.0 = omega arith in
        subst (IsLoss bytes) (sym one.4) (one.0, one.2, (free_reported (frames_mapped bytes) one.0).0 (ap (is_kept_pair (frames_mapped bytes)) count ∙ one.3))

    of_header : IsOneOf loss in_header → IsLoss bytes loss
    of_header is =
        let both = (if_reported (is_none (header_of bytes)) loss Header).0 is in subst (IsLoss bytes) (sym both.1) ((none_reported (header_of bytes)).0 both.0)

    of_variables : IsOneOf loss in_variables → IsLoss bytes loss
    of_variables is =
        let both = (if_reported (is_none (section_found framed.Variables bytes)) loss Variables).0 is in
        subst (IsLoss bytes) (sym both.1) ((none_reported (section_found framed.Variables bytes)).0 both.0)

    of_classes : IsOneOf loss in_classes → IsLoss bytes loss
    of_classes is =
        let both = (if_reported (is_none (section_found framed.Classes bytes)) loss Classes).0 is in
        subst (IsLoss bytes) (sym both.1) ((none_reported (section_found framed.Classes bytes)).0 both.0)

    of_end : IsOneOf loss in_end → IsLoss bytes loss
    of_end is = let one = (end_reported (walk_of bytes).lost loss).0 is in subst (IsLoss bytes) (sym one.2) one.1

    to_two : IsOneOf loss in_header ⊎ IsOneOf loss in_variables → IsLoss bytes loss
    to_two (inl is) = of_header is
    to_two (inr is) = of_variables is

    to_three : IsOneOf loss (in_header ++ in_variables) ⊎ IsOneOf loss in_classes → IsLoss bytes loss
    to_three (inl is) = to_two (of_joined loss in_header in_variables is)
    to_three (inr is) = of_classes is

    to_four : IsOneOf loss (in_header ++ in_variables ++ in_classes) ⊎ IsOneOf loss in_sections → IsLoss bytes loss
    to_four (inl is) = to_three (of_joined loss (in_header ++ in_variables) in_classes is)
    to_four (inr is) = of_sections is

    to_five : IsOneOf loss (in_header ++ in_variables ++ in_classes ++ in_sections) ⊎ IsOneOf loss in_pages → IsLoss bytes loss
    to_five (inl is) = to_four (of_joined loss (in_header ++ in_variables ++ in_classes) in_sections is)
    to_five (inr is) = of_pages is

    to_six : IsOneOf loss (in_header ++ in_variables ++ in_classes ++ in_sections ++ in_pages) ⊎ IsOneOf loss in_end → IsLoss bytes loss
    to_six (inl is) = to_five (of_joined loss (in_header ++ in_variables ++ in_classes ++ in_sections) in_pages is)
    to_six (inr is) = of_end is

    to_all : IsOneOf loss (in_header ++ in_variables ++ in_classes ++ in_sections ++ in_pages ++ in_end) ⊎ IsOneOf loss in_pairs → IsLoss bytes loss
    to_all (inl is) = to_six (of_joined loss (in_header ++ in_variables ++ in_classes ++ in_sections ++ in_pages) in_end is)
    to_all (inr is) = of_pairs is

    to : IsOneOf loss (losses_of bytes) → IsLoss bytes loss
    to is = to_all (of_joined loss (in_header ++ in_variables ++ in_classes ++ in_sections ++ in_pages ++ in_end) in_pairs is)

    -- one that is among the first of the lists is among all
    among_six : (one : Loss) → IsOneOf one (in_header ++ in_variables ++ in_classes ++ in_sections ++ in_pages ++ in_end) → IsOneOf one (losses_of bytes)
    among_six one is = in_first one (in_header ++ in_variables ++ in_classes ++ in_sections ++ in_pages ++ in_end) in_pairs is

    among_five : (one : Loss) → IsOneOf one (in_header ++ in_variables ++ in_classes ++ in_sections ++ in_pages) → IsOneOf one (losses_of bytes)
    among_five one is = among_six one (in_first one (in_header ++ in_variables ++ in_classes ++ in_sections ++ in_pages) in_end is)

    among_four : (one : Loss) → IsOneOf one (in_header ++ in_variables ++ in_classes ++ in_sections) → IsOneOf one (losses_of bytes)
    among_four one is = among_five one (in_first one (in_header ++ in_variables ++ in_classes ++ in_sections) in_pages is)

    among_three : (one : Loss) → IsOneOf one (in_header ++ in_variables ++ in_classes) → IsOneOf one (losses_of bytes)
    among_three one is = among_four one (in_first one (in_header ++ in_variables ++ in_classes) in_sections is)

    among_two : (one : Loss) → IsOneOf one (in_header ++ in_variables) → IsOneOf one (losses_of bytes)
    among_two one is = among_three one (in_first one (in_header ++ in_variables) in_classes is)

    from : (one : Loss) → IsLoss bytes one → IsOneOf one (losses_of bytes)
    from Header lost = among_two Header (in_first Header in_header in_variables ((if_reported (is_none (header_of bytes)) Header Header).1 ((none_reported (header_of bytes)).1 lost, refl)))
    from Variables lost =
        among_two Variables
        (in_second Variables in_header in_variables
        ((if_reported (is_none (section_found framed.Variables bytes)) Variables Variables).1 ((none_reported (section_found framed.Variables bytes)).1 lost, refl)))
    from Classes lost =
        among_three Classes
        (in_second Classes (in_header ++ in_variables) in_classes
        ((if_reported (is_none (section_found framed.Classes bytes)) Classes Classes).1 ((none_reported (section_found framed.Classes bytes)).1 lost, refl)))
    from (Section number place) (locator, is, its_number, its_place, known, some, cut) =
        among_four (Section number place)
        (in_second (Section number place) (in_header ++ in_variables ++ in_classes) in_sections
        ((sections_reported bytes (locators_of (header_of bytes)) (Section number place)).1
        (locator, is, (cut_reported bytes locator).1 (omega (arith, its_number, known), some, omega (arith, its_place, cut)), same_section its_number its_place)))
      where
        same_section : {one other at there : ℕ} → one ≡ other → at ≡ there → Section one at ≡ Section other there
        same_section {one} {other} {at} {there} numbers places = ap (λ n. Section n at) numbers ∙ ap (Section other) places
    from (Page index place) (at, wrong) =
        among_five (Page index place)
        (in_second (Page index place) (in_header ++ in_variables ++ in_classes ++ in_sections) in_pages
        ((pages_reported bytes 0 (walk_of bytes).pages (Page index place)).1 (index, place, at, (wrong_reported bytes place).1 wrong, ap (λ n. Page n place) (from_zero index))))
      where
        from_zero : (n : ℕ) → n ≡ 0 + n
        from_zero n = omega arith
    from (MapEnd place) lost =
        among_six (MapEnd place)
        (in_second (MapEnd place) (in_header ++ in_variables ++ in_classes ++ in_sections ++ in_pages) in_end ((end_reported (walk_of bytes).lost (MapEnd place)).1 (place, lost, refl)))
    from (Object handle place) (number, at, free) =
        in_second (Object handle place) (in_header ++ in_variables ++ in_classes ++ in_sections ++ in_pages ++ in_end) in_pairs
        ((pairs_reported (frames_mapped bytes) 0 (pairs_read bytes) (Object handle place)).1
        (number, record { handle = handle; place = place }, at, ap (is_kept_pair (frames_mapped bytes)) (to_number number) ∙ (free_reported (frames_mapped bytes) number).1 free, refl))
      where
        to_number : (n : ℕ) → 0 + n ≡ n
        to_number n = omega arith
