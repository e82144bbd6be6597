-- What the scan reads at a place: the object of a frame that is kept, which is kept with it.
use Rattle.std.specs.Bool.{then_some}
use Rattle.dwg_base.specs.declared.version.Version.{Version}
use Rattle.dwg_base.specs.Versions.{version_at}
use Rattle.std.proofs.Common.{◌≡◌, refl, sym, ◌∙◌, ap, subst, ℕ, Bool, true, false, List, Option, Some, None}
use Rattle.std.specs.Prelude.{option_map, Ok}
use Rattle.std.specs.Option.{IsSome}
use Rattle.std.proofs.lemmas.Option.{same_Some}
use Rattle.dwg_classes.specs.declared.class.Class.{Class}
use Rattle.dwg_object.proofs.FormLaws.{form_at}
use Rattle.dwg_object.specs.declared.object.Object.{Object}
use Rattle.dwg_object.specs.declared.span.Span.{Span}
use Rattle.dwg_object.specs.Forms.{FormOf}
use Rattle.dwg_object.specs.FrameLines.{span_body, tried_span}
use Rattle.dwg_object.specs.Objects.{ObjectValue, value_of}
use Rattle.dwg_recover.specs.declared.frame.Frame.{Frame}
use Rattle.dwg_recover.specs.declared.objects.FrameObject.{FrameObject}
use Rattle.dwg_recover.proofs.FoundLemmas.{span_inside}
use Rattle.dwg_recover.proofs.FrameScanning.{is_kept, not_common, read_at, span_there}
use Rattle.dwg_recover.specs.Frames.{has_common_part, is_free, is_new, keep_free, own_of_span, scanned}
use Rattle.dwg_recover.specs.KeptObjects.{IsKeptAt, ReportsPlace, common_at}
use Rattle.dwg_recover.specs.Recovering.{body_tried, frame_body}

-- an object that is taken where a test holds, as a value
value_taken : (test : Bool) (object : Object) → option_map value_of (then_some test object) ≡ then_some test (value_of object)
value_taken true object = refl
value_taken false object = refl

-- an object that is read of a body, where it is read with its common part
pub common_read : (version : Version) (classes : List Class) (bytes body : List ℕ) (span : Span) (object : Object) (taken : Option Object) → taken ≡ then_some (has_common_part (value_of object)) object
    → body ≡ span_body bytes span → IsSome (own_of_span bytes span) → version ≡ version_at bytes → FormOf version classes body (value_of object)
    → option_map value_of taken ≡ common_at classes bytes span
common_read version classes bytes body span object taken is same some reported form =
    ap (option_map value_of) is ∙ value_taken (has_common_part (value_of object)) object
    ∙ ap (λ (value : ObjectValue). then_some (has_common_part value) value) (read_at classes bytes body span (value_of object) same some (subst (λ (v : Version). FormOf v classes body (value_of object)) reported form))

-- what is taken where a test holds, and what the test is where nothing is
was_taken : (test : Bool) (value other : ObjectValue) → Some value ≡ then_some test other → (test ≡ true) × (value ≡ other)
was_taken true value other same = (refl, same_Some value other same)
was_taken false value other same = absurd cc

was_left : (test : Bool) (other : ObjectValue) → None ≡ then_some test other → test ≡ false
was_left true other same = absurd cc
was_left false other same = refl

-- the body of the frame at a place is that of the span that is tried there
body_there : (bytes : List ℕ) (place : ℕ) (span : Span) → Ok span ≡ tried_span place 0 bytes → frame_body bytes place ≡ span_body bytes span
unfolding frame_body
body_there bytes place span tried = ap (body_tried bytes) (span_there bytes place span tried)

-- a frame whose body is read with its common part is kept, where its bytes are free and its handle is new
pub common_kept : (classes : List Class) (bytes : List ℕ) (kept : List Frame) (place : ℕ) (span : Span) (own : ℕ) (object : Object) → Ok span ≡ tried_span place 0 bytes
    → own_of_span bytes span ≡ Some own → is_free kept place span.end ≡ true → is_new kept own ≡ true → Some (value_of object) ≡ common_at classes bytes span
    → IsKeptAt classes bytes kept place (record { frame = record { pair = None; handle = own; from = place; end = span.end }; object = object })
common_kept classes bytes kept place span own object tried is free new read =
    let form : ObjectValue = form_at (version_at bytes) classes (span_body bytes span) in
    let common = was_taken (has_common_part form) (value_of object) form read in
    record {
      from = refl;
      more = is_kept classes bytes kept place span own tried is free new common.0;
      some = (span_inside bytes place span (span_there bytes place span tried)).some;
      free = free;
      object = common.1 ∙ sym (ap (form_at (version_at bytes) classes) (body_there bytes place span tried));
    }

-- where it isn't read so, the frames stay
pub common_missing : (classes : List Class) (bytes : List ℕ) (kept : List Frame) (place : ℕ) (span : Span) (own : ℕ) → Ok span ≡ tried_span place 0 bytes → own_of_span bytes span ≡ Some own
    → None ≡ common_at classes bytes span → kept ≡ keep_free kept (scanned classes bytes place)
common_missing classes bytes kept place span own tried is none =
    let form : ObjectValue = form_at (version_at bytes) classes (span_body bytes span) in not_common classes bytes kept place span own tried is (was_left (has_common_part form) form none)

-- what is reported of a place where a frame is kept, and where none is
pub kept_at : (classes : List Class) (bytes : List ℕ) (kept : List Frame) (place : ℕ) (reported : Option FrameObject) (found : FrameObject) → reported ≡ Some found → ReportsPlace classes bytes kept place reported
    → IsKeptAt classes bytes kept place found
kept_at classes bytes kept place reported found is reports = subst (ReportsPlace classes bytes kept place) is reports

pub none_at : (classes : List Class) (bytes : List ℕ) (kept : List Frame) (place : ℕ) (reported : Option FrameObject) → reported ≡ None → ReportsPlace classes bytes kept place reported
    → kept ≡ keep_free kept (scanned classes bytes place)
none_at classes bytes kept place reported is reports = subst (ReportsPlace classes bytes kept place) is reports
