-- What is found is what stands: header, classes, sections, walk and pairs, one by one.
use Rattle.std.proofs.Common.{◌≡◌, refl, sym, ◌∙◌, ap, ap₂, subst, ℕ, ◌+◌, Bool, true, false, List, [], Option, Some, None}
use Rattle.std.specs.Prelude.{◌&&◌, ◌∷◌, Ok, cond, not, if◌then◌else◌}
use Rattle.std.specs.Option.{is_none}
use Rattle.std.specs.Result.{is_ok, result_unwrap_or}
use Rattle.std.proofs.lemmas.Option.{same_Some}
use Rattle.dwg_base.specs.Refusals.{Tried, first_fault}
use Rattle.dwg_base.specs.Refusal.{Refusal}
use Rattle.dwg_classes.specs.declared.class.Class.{Class}
use Rattle.dwg_classes.specs.Class.{AreClasses}
use Rattle.dwg_classes.proofs.ClassLineLemmas.{tried_ok}
use Rattle.dwg_classes.specs.ClassLines.{tried_classes}
use Rattle.dwg_file.specs.FileLines.{first_cut, is_cut}
use Rattle.dwg_file.specs.ReadAs.{sections_at, whole_locators}
use Rattle.dwg_file.proofs.ReadingLemmas.{SectionLaws}
use Rattle.dwg_file.proofs.SectionPlaces.{sections_stand}
use Rattle.dwg_file.specs.Spelled.{AreSectionsOf}
use Rattle.dwg_objmap.specs.declared.pair.Pair.{Pair}
use Rattle.dwg_objmap.specs.MapLines.{HasPageWord, body_at}
use Rattle.dwg_objmap.proofs.PagePlaces.{body_is_bytes}
use Rattle.dwg_objmap.specs.Walking.{AreLongest, page_holds_at, leading_pairs}
use Rattle.dwg_objmap.proofs.WalkingLemmas.{longest_leading, size_is}
use Rattle.dwg_sections.specs.declared.framed.Framed.{Framed}
use Rattle.dwg_sections.specs.declared.framed.Framed.TheVariants as framed
use Rattle.dwg_sections.specs.declared.header.FileHeader.{FileHeader}
use Rattle.dwg_sections.specs.declared.header.Locator.{Locator}
use Rattle.dwg_sections.specs.FileHeader.{BeginsWithHeader}
use Rattle.dwg_sections.specs.Framed.{FramedAt}
use Rattle.dwg_sections.specs.FramedLines.{BEFORE_CONTENT, content_at}
use Rattle.dwg_sections.specs.HeaderLaws.{HeaderIsRead}
use Rattle.dwg_sections.specs.HeaderLines.{HEADER_LINES, header_at, place_of}
use Rattle.dwg_recover.specs.Recovering.{classes_found, code_page_of, drawing_recovered, lead_of, mark_of, walk_located, walk_of}
use Rattle.dwg_recover.proofs.FoundSections.{classes_cut, whole_parts}
use Rattle.dwg_recover.specs.Sections.{header_of, is_whole, locators_of}
use Rattle.dwg_recover.proofs.WalkStanding.{right_reported, walk_stands}
use Rattle.dwg_recover.specs.Walks.{IsWalk, Walk, pairs_at}
use Rattle.dwg_recover.specs.FoundParts.{ContentIsTaken, HeaderIsFound, IsContent, PagesGivePairs, PartsAreKept, SectionIsWhole, WalkIsLocated}

-- the header that an input begins with is found
pub header_is_found : HeaderIsRead → (bytes : List ℕ) (header : FileHeader) → BeginsWithHeader bytes header → header_of bytes ≡ Some header
unfolding header_of
header_is_found read bytes header begins =
    let is = read bytes header begins in
    ap (λ (fault : Option Refusal). if is_none fault then Some (header_at bytes) else None) is.0 ∙ ap Some (sym is.1)

-- so it is
pub header_found : SectionLaws → HeaderIsFound
unfolding header_of
header_found laws bytes header are = (of_fault (first_fault HEADER_LINES bytes) refl, header_is_found laws.header_complete bytes header)
  where
    of_fault : (fault : Option Refusal) → first_fault HEADER_LINES bytes ≡ fault → (if is_none fault then Some (header_at bytes) else None) ≡ Some header → BeginsWithHeader bytes header
    of_fault None none same = subst (BeginsWithHeader bytes) (same_Some _ _ same) (laws.header_sound bytes are none)
    of_fault (Some refusal) none same = absurd cc

-- the classes of a section that stands are tried
pub classes_tried_of : SectionLaws → (bytes : List ℕ) (place : ℕ) (content : List ℕ) (classes : List Class) → FramedAt bytes place framed.Classes content → AreClasses content classes
    → tried_classes (place + BEFORE_CONTENT) (content_at bytes place) ≡ Ok classes
classes_tried_of laws bytes place content classes section cut =
    (tried_ok (place + BEFORE_CONTENT) (content_at bytes place) classes).1
    (subst (λ (taken : List ℕ). AreClasses taken classes) (laws.section_complete framed.Classes place bytes content section).1 cut)

-- so it is whole
pub section_is_whole : SectionLaws → SectionIsWhole
unfolding is_whole
section_is_whole laws which bytes place are = (stands which, whole which)
  where
    stands : (which : Framed) → is_whole which bytes place ≡ true → (content : List ℕ) × FramedAt bytes place which content × IsContent which content
    stands framed.Variables is = (content_at bytes place, laws.section_sound framed.Variables place bytes are (whole_parts framed.Variables bytes place is).framed, tt)
    stands framed.Classes is =
        let cut = (tried_ok (place + BEFORE_CONTENT) (content_at bytes place) _).0 (classes_cut bytes place is) in
        (content_at bytes place, laws.section_sound framed.Classes place bytes are (whole_parts framed.Classes bytes place is).framed, (_, cut))

    whole : (which : Framed) → (content : List ℕ) × FramedAt bytes place which content × IsContent which content → is_whole which bytes place ≡ true
    whole framed.Variables (content, section, is) =
        ap (λ (fault : Option Refusal). is_none fault && true) (laws.section_complete framed.Variables place bytes content section).0
    whole framed.Classes (content, section, (classes, cut)) =
        ap₂ (λ (fault : Option Refusal) (tried : Tried (List Class)). is_none fault && is_ok tried) (laws.section_complete framed.Classes place bytes content section).0
        (classes_tried_of laws bytes place content classes section cut)

-- and so it is taken
pub content_is_taken : SectionLaws → ContentIsTaken
content_is_taken laws bytes place content = (
  (λ section. sym (laws.section_complete framed.Variables place bytes content section).1),
  (λ classes section cut. ap (λ (tried : Tried (List Class)). result_unwrap_or tried []) (classes_tried_of laws bytes place content classes section cut)),
)

-- so it goes
pub walk_is_located : WalkIsLocated
unfolding walk_of
walk_is_located bytes = (
  (λ none. ap (λ (header : Option FileHeader). walk_located bytes (place_of 2 (locators_of header))) none),
  (λ header place is located.
      let same : walk_located bytes (place_of 2 (locators_of (header_of bytes))) ≡ walk_located bytes (Some place) =
      ap (λ (header : Option FileHeader). walk_located bytes (place_of 2 (locators_of header))) is ∙ ap (walk_located bytes) located in
      subst (λ (walk : Walk). IsWalk bytes place walk.pages walk.lost) (sym same) (walk_stands size_is bytes place)),
)

-- so they do
pub pages_give_pairs : PagesGivePairs
pages_give_pairs bytes page are = (λ right. of_right right, λ wrong. of_wrong (page_holds_at bytes page) refl wrong)
  where
    given : Bool → List Pair
    given = λ holds. if holds then leading_pairs (body_at bytes page) else []

    of_right : HasPageWord bytes page → AreLongest (body_at bytes page) (pairs_at bytes page)
    of_right right =
        subst (λ (test : Bool). AreLongest (body_at bytes page) (given test)) (sym ((right_reported bytes page).1 right)) (longest_leading (body_at bytes page) (body_is_bytes bytes page are))

    of_wrong : (test : Bool) → page_holds_at bytes page ≡ test → (HasPageWord bytes page → ⊥) → given test ≡ []
    of_wrong true passed wrong = absurd (wrong ((right_reported bytes page).0 passed))
    of_wrong false failed wrong = refl

-- of locators that don't pass the end none does
whole_not_cut : (bytes : List ℕ) (index : ℕ) (locators : List Locator) → first_cut bytes index (whole_locators bytes locators) ≡ None
unfolding first_cut
whole_not_cut bytes index [] = refl
whole_not_cut bytes index (locator ∷ locators) = of_test (is_cut bytes locator) refl (λ number. whole_not_cut bytes number locators)
  where
    others : List Locator
    others = whole_locators bytes locators

    of_test : (cut : Bool) → is_cut bytes locator ≡ cut → ((number : ℕ) → first_cut bytes number others ≡ None) → first_cut bytes index (cond (not cut) (locator ∷ others) others) ≡ None
    of_test true known none = none index
    of_test false known none =
        ap (λ (cut : Bool). if cut then Some (record { line = 33; index = index; place = locator.place }) else first_cut bytes (index + 1) others) known ∙ none (index + 1)

-- so they are kept
pub parts_are_kept : PartsAreKept
unfolding drawing_recovered classes_found
parts_are_kept bytes = record {
  version = refl;
  header = λ header is. (
    ap lead_of is,
    ap mark_of is,
    ap code_page_of is,
    subst (λ (found : Option FileHeader). AreSectionsOf bytes (whole_locators bytes header.locators) (sections_at bytes (whole_locators bytes (locators_of found)))) (sym is)
        (sections_stand bytes 0 (whole_locators bytes header.locators) (whole_not_cut bytes 0 header.locators)),
  );
  without = λ none. (ap lead_of none, ap mark_of none, ap code_page_of none, ap (λ (found : Option FileHeader). sections_at bytes (whole_locators bytes (locators_of found))) none);
  variables = refl;
  classes = refl;
}
