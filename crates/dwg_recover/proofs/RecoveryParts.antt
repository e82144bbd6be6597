-- The parts of a recovery: the walk, the losses, the objects, and what is reported of frames.
use Rattle.std.proofs.Common.{◌≡◌, refl, sym, ◌∙◌, ap, ap₂, subst, ℕ, Bool, true, false, List, [], ◌++◌, append_assoc, map, Option, Some, None}
use Rattle.dwg_base.specs.declared.version.Version.{Version}
use Rattle.dwg_base.specs.Versions.{version_at}
use Rattle.std.specs.Prelude.{Ok, Err, not}
use Rattle.std.specs.Option.{is_none, is_some}
use Rattle.std.proofs.lemmas.Option.{same_Some}
use Rattle.dwg_base.specs.Refusal.{Refusal}
use Rattle.dwg_classes.specs.declared.class.Class.{Class}
use Rattle.dwg_file.specs.Contents.{Contents, OtherValue}
use Rattle.dwg_file.specs.ReadAs.{sections_at, whole_locators}
use Rattle.dwg_file.specs.SortedObjects.{sorted}
use Rattle.dwg_object.specs.declared.span.Span.{Span}
use Rattle.dwg_object.specs.Forms.{FormOf}
use Rattle.dwg_object.proofs.FormLaws.{forms_same}
use Rattle.dwg_object.specs.FrameLines.{span_body, tried_span}
use Rattle.dwg_object.specs.Objects.{ObjectValue}
use Rattle.dwg_sections.specs.declared.framed.Framed.TheVariants as framed
use Rattle.dwg_sections.specs.declared.header.FileHeader.{FileHeader}
use Rattle.dwg_sections.specs.declared.header.Locator.{Locator}
use Rattle.dwg_sections.specs.HeaderLines.{place_of}
use Rattle.dwg_recover.specs.declared.frame.Frame.{Frame}
use Rattle.dwg_recover.specs.declared.loss.Loss.{Loss}
use Rattle.dwg_recover.specs.Frames.{own_of_span}
use Rattle.dwg_recover.specs.Placing.{IsFound}
use Rattle.dwg_recover.proofs.KeptObjects.{found_is_read}
use Rattle.dwg_recover.specs.Recovering.{body_tried, classes_found, code_page_of, drawing_recovered, frame_body, frames_kept, lead_of, mark_of, object_of, walk_located, walk_of}
use Rattle.dwg_recover.specs.Sections.{header_of, locators_of, section_found, variables_of}
use Rattle.dwg_recover.specs.Walks.{walk_from}
use Rattle.dwg_recover.proofs.FrameScanning.{span_missing, span_there}

-- the walk of an input whose header locates the map
pub walk_at : (bytes : List ℕ) (header : Option FileHeader) (place : ℕ) → header ≡ header_of bytes → Some place ≡ place_of 2 (locators_of header) → walk_of bytes ≡ walk_from bytes place
unfolding walk_of
walk_at bytes header place is located =
    ap (λ (h : Option FileHeader). walk_located bytes (place_of 2 (locators_of h))) (sym is) ∙ sym (ap (walk_located bytes) located)

-- the walk of one whose header is lost
pub walk_nowhere : (bytes : List ℕ) (header : Option FileHeader) → header ≡ header_of bytes → None ≡ place_of 2 (locators_of header)
    → walk_of bytes ≡ record { pages = []; lost = None }
unfolding walk_of
walk_nowhere bytes header is located =
    ap (λ (h : Option FileHeader). walk_located bytes (place_of 2 (locators_of h))) (sym is) ∙ sym (ap (walk_located bytes) located)

-- losses that are put one after the other
pub losses_joined : (header variables classes sections pages end pairs walked one two three four five all : List Loss) → one ≡ [] ++ header → two ≡ one ++ variables → three ≡ two ++ classes
    → four ≡ three ++ sections → five ≡ four ++ walked → walked ≡ pages ++ end → all ≡ five ++ pairs → all ≡ header ++ variables ++ classes ++ sections ++ pages ++ end ++ pairs
losses_joined header variables classes sections pages end pairs walked one two three four five all a b c d e w p =
    p ∙ ap (λ (l : List Loss). l ++ pairs)
    (e ∙ ap₂ (λ (l m : List Loss). l ++ m)
    (d ∙ ap (λ (l : List Loss). l ++ sections) (c ∙ ap (λ (l : List Loss). l ++ classes) (b ∙ ap (λ (l : List Loss). l ++ variables) a))) w
    ∙ sym (append_assoc (header ++ variables ++ classes ++ sections) pages end))

-- what says whether something is there says whether nothing is
pub none_reported : {V : Type 0} (found : Option V) (none : Bool) → is_some found ≡ not none → none ≡ is_none found
none_reported {V} None true same = refl
none_reported {V} None false same = absurd cc
none_reported {V} (Some value) true same = absurd cc
none_reported {V} (Some value) false same = refl

-- the span of a frame that was found isn't refused
pub found_unrefused : (bytes : List ℕ) (frame : Frame) (refusal : Refusal) → IsFound bytes frame → Err refusal ≡ tried_span frame.from 0 bytes → ⊥
found_unrefused bytes frame refusal found tried =
    let both : ◌≡◌ {A = Option Span} (Some found.span) None = sym found.stands ∙ span_missing bytes frame.from refusal tried in cc

-- the span that is tried is that of the frame
same_span : (bytes : List ℕ) (frame : Frame) (span : Span) (found : IsFound bytes frame) → Ok span ≡ tried_span frame.from 0 bytes → span ≡ found.span
same_span bytes frame span found tried = same_Some span found.span (sym (span_there bytes frame.from span tried) ∙ found.stands)

-- so it has the own handle
pub own_found : (bytes : List ℕ) (frame : Frame) (span : Span) → IsFound bytes frame → Ok span ≡ tried_span frame.from 0 bytes → own_of_span bytes span ≡ Some frame.handle
own_found bytes frame span found tried = ap (own_of_span bytes) (same_span bytes frame span found tried) ∙ found.own

-- what the body of a frame that was found is read as is its object
pub object_read : (version : Version) (classes : List Class) (bytes : List ℕ) (frame : Frame) (span : Span) (body : List ℕ) (value : ObjectValue) → IsFound bytes frame → Ok span ≡ tried_span frame.from 0 bytes
    → body ≡ span_body bytes span → version ≡ version_at bytes → FormOf version classes body value → value ≡ object_of classes bytes frame
unfolding frame_body
object_read version classes bytes frame span body value found tried same reported form =
    let is : body ≡ frame_body bytes frame.from = same ∙ sym (ap (body_tried bytes) (span_there bytes frame.from span tried)) in
    forms_same (version_at bytes) classes (frame_body bytes frame.from) value (object_of classes bytes frame) (subst (λ (b : List ℕ). FormOf (version_at bytes) classes b value) is (subst (λ (v : Version). FormOf v classes body value) reported form)) (found_is_read classes bytes frame found).form

-- a drawing is reported by its parts
contents_same : (version other_version : Version) (lead other_lead mark other_mark : List ℕ) (code_page other_page : ℕ) (variables other_variables : List ℕ) (classes other_classes : List Class)
    (others other_others : List OtherValue) (objects other_objects : List ObjectValue)
    → version ≡ other_version → lead ≡ other_lead → mark ≡ other_mark → code_page ≡ other_page → variables ≡ other_variables → classes ≡ other_classes → others ≡ other_others → objects ≡ other_objects
    → ◌≡◌ {A = Contents} (record { version = version; lead = lead; mark = mark; code_page = code_page; variables = variables; classes = classes; others = others; objects = objects })
    (record { version = other_version; lead = other_lead; mark = other_mark; code_page = other_page; variables = other_variables; classes = other_classes; others = other_others; objects = other_objects })
contents_same version other_version lead other_lead mark other_mark code_page other_page variables other_variables classes other_classes others other_others objects other_objects a b c d e f g h =
    ap (λ (x : Version). record { version = x; lead = lead; mark = mark; code_page = code_page; variables = variables; classes = classes; others = others; objects = objects }) a
    ∙ ap (λ (x : List ℕ). record { version = other_version; lead = x; mark = mark; code_page = code_page; variables = variables; classes = classes; others = others; objects = objects }) b
    ∙ ap (λ (x : List ℕ). record { version = other_version; lead = other_lead; mark = x; code_page = code_page; variables = variables; classes = classes; others = others; objects = objects }) c
    ∙ ap (λ (x : ℕ). record { version = other_version; lead = other_lead; mark = other_mark; code_page = x; variables = variables; classes = classes; others = others; objects = objects }) d
    ∙ ap (λ (x : List ℕ). record { version = other_version; lead = other_lead; mark = other_mark; code_page = other_page; variables = x; classes = classes; others = others; objects = objects }) e
    ∙ ap (λ (x : List Class). record { version = other_version; lead = other_lead; mark = other_mark; code_page = other_page; variables = other_variables; classes = x; others = others; objects = objects }) f
    ∙ ap (λ (x : List OtherValue). record { version = other_version; lead = other_lead; mark = other_mark; code_page = other_page; variables = other_variables; classes = other_classes; others = x; objects = objects }) g
    ∙ ap (λ (x : List ObjectValue). record { version = other_version; lead = other_lead; mark = other_mark; code_page = other_page; variables = other_variables; classes = other_classes; others = other_others; objects = x }) h

-- the drawing that is recovered is that of its parts
pub drawing_is : (bytes : List ℕ) (header : Option FileHeader) (found : Option ℕ) (locators : List Locator) (classes : List Class) (version : Version) (lead mark variables : List ℕ) (code_page : ℕ)
    (others : List OtherValue) (objects values : List ObjectValue) → header ≡ header_of bytes → found ≡ section_found framed.Variables bytes → classes ≡ classes_found bytes → version ≡ version_at bytes → lead ≡ lead_of header → mark ≡ mark_of header
    → code_page ≡ code_page_of header → variables ≡ variables_of bytes found → locators ≡ locators_of header → others ≡ sections_at bytes (whole_locators bytes locators)
    → values ≡ map (object_of (classes_found bytes) bytes) (frames_kept bytes) → objects ≡ sorted values
    → record { version = version; lead = lead; mark = mark; code_page = code_page; variables = variables; classes = classes; others = others; objects = objects } ≡ drawing_recovered bytes
unfolding drawing_recovered
drawing_is bytes header found locators classes version lead mark variables code_page others objects values is at cut by a b c d l o v x =
    contents_same version _ lead _ mark _ code_page _ variables _ classes _ others _ objects _ by (a ∙ ap lead_of is) (b ∙ ap mark_of is) (c ∙ ap code_page_of is) (d ∙ ap (variables_of bytes) at) cut
    (o ∙ ap (λ (some : List Locator). sections_at bytes (whole_locators bytes some)) (l ∙ ap locators_of is))
    (x ∙ ap sorted v)
