-- Frames that are looked for: the span at a place, what its body is read as, and whether its frame is kept.
use Rattle.std.proofs.Common.{◌≡◌, refl, sym, ◌∙◌, ap, ap₂, subst, ℕ, ◌-◌, ◌^◌, ◌<◌, Bool, true, false, ◌&&◌, List, [], ◌∷◌, ◌++◌, length, drop, Option, Some, None, arith, length-take}
use Rattle.dwg_base.specs.declared.version.Version.{Version}
use Rattle.dwg_base.specs.Versions.{version_at}
use Rattle.std.specs.Prelude.{option_map, Ok, Err, if◌then◌else◌}
use Rattle.std.specs.Option.{IsSome, is_some, option_and_then}
use Rattle.std.specs.Result.{result_ok}
use Rattle.std.proofs.lemmas.Bool.{both_ways}
use Rattle.std.proofs.lemmas.Option.{same_Some}
use Rattle.dwg_base.specs.Refusal.{Refusal}
use Rattle.dwg_bits.specs.Bits.{bits}
use Rattle.dwg_classes.specs.declared.class.Class.{Class}
use Rattle.dwg_grammar.proofs.ModularLemmas.{ms_below, ms_is_code}
use Rattle.dwg_object.specs.declared.span.Span.{Span}
use Rattle.dwg_object.proofs.FormLaws.{form_at, form_is_at, forms_same}
use Rattle.dwg_object.specs.Forms.{FormOf}
use Rattle.dwg_object.specs.Heads.{BeginsWithHead, HasHead, head}
use Rattle.dwg_object.specs.FrameLines.{has_check_word, head_at, span_body, tried_span}
use Rattle.dwg_object.specs.Frames.{SpanAt}
use Rattle.dwg_object.proofs.HeadLemmas.{begins_head, head_parsed}
use Rattle.dwg_object.specs.Objects.{HeadParts, ObjectValue}
use Rattle.dwg_recover.specs.declared.frame.Frame.{Frame}
use Rattle.dwg_recover.specs.Frames.{has_common_part, is_free, is_new, keep_free, own_of_span, scanned, scanned_of, span_found}

-- the body of a span that stands in the input is short
pub short_body : (bytes body : List ℕ) (span : Span) → SpanAt bytes span → body ≡ span_body bytes span → length body < 2 ^ 60
short_body bytes body span is same =
    omega (arith, ap length same, length-take (span.body_end - span.body) (drop span.body bytes), is.body_end, ms_below (length is.body) (ms_is_code.value is.size (length is.body) is.spelled))

-- what is parsed of a head is one
head_of_parsed : (version : Version) (letters : List Bool) (found : Option (HeadParts × List Bool)) → (head version).parse letters ≡ found
    → is_some (option_map (λ (parts : HeadParts). parts.own) (option_map (λ (found : HeadParts × List Bool). found.0) found)) ≡ true → (parts : HeadParts) × HasHead version letters parts
head_of_parsed version letters None same some = absurd cc
head_of_parsed version letters (Some (parts, rest)) same some = (parts, head_parsed letters rest parts same)

-- where the own handle of a span is found, its body has a head
head_of_own : (bytes : List ℕ) (span : Span) → IsSome (own_of_span bytes span) → (parts : HeadParts) × HasHead (version_at bytes) (bits (span_body bytes span)) parts
unfolding own_of_span
head_of_own bytes span some = by_test (has_check_word bytes span) some
  where
    by_test : (checks : Bool) → is_some (if checks then option_map (λ (parts : HeadParts). parts.own) (head_at (version_at bytes) bytes span) else None) ≡ true
        → (parts : HeadParts) × HasHead (version_at bytes) (bits (span_body bytes span)) parts
    by_test true found = head_of_parsed (version_at bytes) (bits (span_body bytes span)) ((head (version_at bytes)).parse (bits (span_body bytes span))) refl found
    by_test false none = absurd cc

-- what such a body is read as is what stands for it
pub read_at : (classes : List Class) (bytes body : List ℕ) (span : Span) (value : ObjectValue) → body ≡ span_body bytes span → IsSome (own_of_span bytes span) → FormOf (version_at bytes) classes body value
    → value ≡ form_at (version_at bytes) classes (span_body bytes span)
read_at classes bytes body span value same some form =
    let has = head_of_own bytes span some in
    forms_same (version_at bytes) classes (span_body bytes span) value (form_at (version_at bytes) classes (span_body bytes span)) (subst (λ (b : List ℕ). FormOf (version_at bytes) classes b value) same form)
    (form_is_at (version_at bytes) classes (span_body bytes span) has.0 has.1)

-- and it is read as something
pub is_read : (version : Version) (bytes body : List ℕ) (span : Span) → body ≡ span_body bytes span → IsSome (own_of_span bytes span) → version ≡ version_at bytes
    → ((number own : ℕ) → BeginsWithHead version (bits body) number own → ⊥) → ⊥
is_read version bytes body span same some reported none =
    let has = head_of_own bytes span some in
    none has.0.number has.0.own (subst (λ (v : Version). BeginsWithHead v (bits body) has.0.number has.0.own) (sym reported) (subst (λ (b : List ℕ). BeginsWithHead (version_at bytes) (bits b) has.0.number has.0.own) (sym same) (begins_head (bits (span_body bytes span)) has.0 has.1)))

-- where a span is tried without a refusal, it is found
pub span_there : (bytes : List ℕ) (place : ℕ) (span : Span) → Ok span ≡ tried_span place 0 bytes → span_found bytes place ≡ Some span
unfolding span_found
span_there bytes place span tried = sym (ap result_ok tried)

-- where it is refused, none is
pub span_missing : (bytes : List ℕ) (place : ℕ) (refusal : Refusal) → Err refusal ≡ tried_span place 0 bytes → span_found bytes place ≡ None
unfolding span_found
span_missing bytes place refusal tried = sym (ap result_ok tried)

-- the frame of a span and an own handle at a place
abbrev frame_of : ℕ → Span → ℕ → Frame
frame_of place span own = record { pair = None; handle = own; from = place; end = span.end }

-- what is kept of a span and what was found of its own handle
of_span : (classes : List Class) (bytes : List ℕ) (kept : List Frame) (place : ℕ) (span : Span) (own : Option ℕ) → span_found bytes place ≡ Some span → own_of_span bytes span ≡ own
    → keep_free kept (scanned classes bytes place) ≡ keep_free kept (option_and_then (scanned_of classes bytes place span) own)
of_span classes bytes kept place span own found is =
    ap (λ (there : Option Span). keep_free kept (option_and_then (λ (s : Span). option_and_then (scanned_of classes bytes place s) (own_of_span bytes s)) there)) found
    ∙ ap (λ (handle : Option ℕ). keep_free kept (option_and_then (scanned_of classes bytes place span) handle)) is

-- what three tests decide of a frame
decided : (classes : List Class) (bytes : List ℕ) (kept : List Frame) (place : ℕ) (span : Span) (own : ℕ) (free new common : Bool) → is_free kept place span.end ≡ free → is_new kept own ≡ new
    → has_common_part (form_at (version_at bytes) classes (span_body bytes span)) ≡ common
    → keep_free kept (scanned_of classes bytes place span own) ≡ (if common then (if free && new then kept ++ frame_of place span own ∷ [] else kept) else kept)
decided classes bytes kept place span own free new true is_free is_new is_common =
    ap (λ (t : Bool). keep_free kept (if t then Some (frame_of place span own) else None)) is_common
    ∙ ap₂ (λ (f n : Bool). if f && n then kept ++ frame_of place span own ∷ [] else kept) is_free is_new
decided classes bytes kept place span own free new false is_free is_new is_common =
    ap (λ (t : Bool). keep_free kept (if t then Some (frame_of place span own) else None)) is_common

-- where one of them fails, the frames stay
unkept : (common free new : Bool) (more kept : List Frame) → (free ≡ true → new ≡ true → common ≡ true → ⊥) → (if common then (if free && new then more else kept) else kept) ≡ kept
unkept false free new more kept fails = refl
unkept true false new more kept fails = refl
unkept true true false more kept fails = refl
unkept true true true more kept fails = absurd (fails refl refl refl)

-- where no own handle is found, or a test of it fails, the frames stay
stay : (classes : List Class) (bytes : List ℕ) (kept : List Frame) (place : ℕ) (span : Span) (own : Option ℕ)
    → ((handle : ℕ) → own ≡ Some handle → is_free kept place span.end ≡ true → is_new kept handle ≡ true → has_common_part (form_at (version_at bytes) classes (span_body bytes span)) ≡ true → ⊥)
    → keep_free kept (option_and_then (scanned_of classes bytes place span) own) ≡ kept
stay classes bytes kept place span None fails = refl
stay classes bytes kept place span (Some handle) fails =
    decided classes bytes kept place span handle _ _ _ refl refl refl ∙ unkept _ _ _ _ kept (fails handle refl)

-- where no span is found, the frames stay
pub no_span : (classes : List Class) (bytes : List ℕ) (kept : List Frame) (place : ℕ) (refusal : Refusal) → Err refusal ≡ tried_span place 0 bytes → kept ≡ keep_free kept (scanned classes bytes place)
no_span classes bytes kept place refusal tried =
    sym (ap (λ (there : Option Span). keep_free kept (option_and_then (λ (s : Span). option_and_then (scanned_of classes bytes place s) (own_of_span bytes s)) there))
    (span_missing bytes place refusal tried))

-- where its bytes aren't free, they stay
pub not_free : (classes : List Class) (bytes : List ℕ) (kept : List Frame) (place : ℕ) (span : Span) → Ok span ≡ tried_span place 0 bytes → is_free kept place span.end ≡ false
    → kept ≡ keep_free kept (scanned classes bytes place)
not_free classes bytes kept place span tried taken =
    sym (of_span classes bytes kept place span _ (span_there bytes place span tried) refl
    ∙ stay classes bytes kept place span (own_of_span bytes span) (λ handle is free new common. both_ways _ taken free))

-- where it has no own handle, they stay
pub no_own : (classes : List Class) (bytes : List ℕ) (kept : List Frame) (place : ℕ) (span : Span) → Ok span ≡ tried_span place 0 bytes → own_of_span bytes span ≡ None
    → kept ≡ keep_free kept (scanned classes bytes place)
no_own classes bytes kept place span tried none = sym (of_span classes bytes kept place span None (span_there bytes place span tried) none)

-- where its handle isn't new, they stay
pub not_new : (classes : List Class) (bytes : List ℕ) (kept : List Frame) (place : ℕ) (span : Span) (own : ℕ) → Ok span ≡ tried_span place 0 bytes → own_of_span bytes span ≡ Some own
    → is_new kept own ≡ false → kept ≡ keep_free kept (scanned classes bytes place)
not_new classes bytes kept place span own tried is old =
    sym (of_span classes bytes kept place span (Some own) (span_there bytes place span tried) is
    ∙ stay classes bytes kept place span (Some own) (λ handle same free new common. both_ways _ old (ap (is_new kept) (same_Some own handle same) ∙ new)))

-- where its body isn't read with its common part, they stay
pub not_common : (classes : List Class) (bytes : List ℕ) (kept : List Frame) (place : ℕ) (span : Span) (own : ℕ) → Ok span ≡ tried_span place 0 bytes → own_of_span bytes span ≡ Some own
    → has_common_part (form_at (version_at bytes) classes (span_body bytes span)) ≡ false → kept ≡ keep_free kept (scanned classes bytes place)
not_common classes bytes kept place span own tried is raw =
    sym (of_span classes bytes kept place span (Some own) (span_there bytes place span tried) is
    ∙ stay classes bytes kept place span (Some own) (λ handle same free new common. both_ways _ raw common))

-- where no test fails, the frame is kept
pub is_kept : (classes : List Class) (bytes : List ℕ) (kept : List Frame) (place : ℕ) (span : Span) (own : ℕ) → Ok span ≡ tried_span place 0 bytes → own_of_span bytes span ≡ Some own
    → is_free kept place span.end ≡ true → is_new kept own ≡ true → has_common_part (form_at (version_at bytes) classes (span_body bytes span)) ≡ true
    → kept ++ record { pair = None; handle = own; from = place; end = span.end } ∷ [] ≡ keep_free kept (scanned classes bytes place)
is_kept classes bytes kept place span own tried is free new common =
    sym (of_span classes bytes kept place span (Some own) (span_there bytes place span tried) is ∙ decided classes bytes kept place span own true true true free new common)
