-- Reading frames pair by pair: what was read so far, and what is left.
use Rattle.std.proofs.Common.{◌≡◌, refl, sym, ◌∙◌, ap, ap₂, subst, ℕ, ◌+◌, ◌-◌, ◌<◌, ◌≤◌, Bool, true, false, List, [], ◌∷◌, ◌++◌, length, take, drop, map, get_or, arith, add-one}
use Rattle.dwg_base.specs.Versions.{version_at}
use Rattle.std.specs.Prelude.{◌&&◌, ◌||◌, nat_lt, Ok, Err}
use Rattle.std.proofs.Math.Seq.{drop-cons}
use Rattle.std.proofs.lemmas.Bool.Decides.{nat_tests}
use Rattle.std.proofs.lemmas.List.{take_more, drop_all, map-append}
use Rattle.std.proofs.lemmas.List.Folds.{list_any-append}
use Rattle.dwg_base.specs.Refusals.{Tried}
use Rattle.dwg_base.specs.declared.refusal.Fault.{Fault}
use Rattle.dwg_base.specs.declared.refusal.Fault.TheVariants.{NoMemory, Refused}
use Rattle.dwg_classes.specs.declared.class.Class.{Class}
use Rattle.dwg_object.specs.declared.frame.Found.{Found}
use Rattle.dwg_object.specs.Forms.{FormOf}
use Rattle.dwg_object.specs.FrameLines.{span_body}
use Rattle.dwg_object.specs.Objects.{ObjectValue, value_of, handle_of}
use Rattle.dwg_objmap.specs.declared.pair.Pair.{Pair}
use Rattle.dwg_objmap.specs.Pages.{handles_of}
use Rattle.dwg_file.specs.declared.frames.Frames.{Frames}
use Rattle.dwg_file.specs.declared.frames.ObjectFrame.{ObjectFrame}
use Rattle.dwg_file.specs.FileLines.{FoundFrame, with_found, tried_pair, frames_after}
use Rattle.dwg_file.specs.FrameReading.{AreRanges, IsFrameFound, values_of, HasRead, GoesOn, AnswersFrames}
use Rattle.dwg_file.proofs.FrameReading.{IsAlong}
use Rattle.dwg_file.specs.ObjectFrames.{frame_of}
use Rattle.dwg_file.specs.ReadAs.{AreFormsOf}
use Rattle.dwg_file.specs.ByteRanges.{Run, meets, shares}

-- one body more is read as one object more
forms_with : (classes : List Class) (bytes : List ℕ) (frames : List FoundFrame) (values : List ObjectValue) (frame : FoundFrame) (value : ObjectValue) → AreFormsOf classes bytes frames values
    → FormOf (version_at bytes) classes (span_body bytes frame.0) value → AreFormsOf classes bytes (frames ++ frame ∷ []) (values ++ value ∷ [])
forms_with classes bytes [] values frame value forms form = (value, [], ap (λ v. v ++ value ∷ []) forms, form, refl)
forms_with classes bytes (first ∷ frames) values frame value forms form =
    (forms.0, forms.1 ++ value ∷ [], ap (λ v. v ++ value ∷ []) forms.2, forms.3, forms_with classes bytes frames forms.1 frame value forms.4 form)

-- one frame more is touched where its bytes are
touches_with : (earlier : List FoundFrame) (taken more : List Run) (frame : FoundFrame) (place end : ℕ) → AreRanges earlier taken → frame.0.from ≡ place → frame.0.end ≡ end → place < end
    → ((other to : ℕ) → shares more other to ≡ (shares taken other to || meets other to (end - 1, place))) → AreRanges (earlier ++ frame ∷ []) more
touches_with earlier taken more frame place end touched from ends some added = λ other to.
    let one : (nat_lt other frame.0.end && nat_lt frame.0.from to) ≡ meets other to (end - 1, place) = grind (arith, nat_tests) in
    list_any-append (λ (found : FoundFrame). nat_lt other found.0.end && nat_lt found.0.from to) earlier (frame ∷ [])
    ∙ ap₂ (λ (test last : Bool). test || last) (touched other to) (or_false (nat_lt other frame.0.end && nat_lt frame.0.from to) ∙ one)
    ∙ sym (added other to)
  where
    or_false : (test : Bool) → (test || false) ≡ test
    or_false true = refl
    or_false false = refl

-- the frame that was found of a pair, by the pair's handle and place
frame_same : (frame : FoundFrame) (pair : Pair) (end : ℕ) → frame.1.own ≡ pair.handle → frame.0.from ≡ pair.place → frame.0.end ≡ end
    → ◌≡◌ {A = ObjectFrame} (record { handle = pair.handle; from = pair.place; end = end }) (frame_of frame)
frame_same frame pair end own from ends =
    ap (λ (handle : ℕ). record { handle = handle; from = pair.place; end = end }) (sym own)
    ∙ ap (λ (place : ℕ). record { handle = frame.1.own; from = place; end = end }) (sym from)
    ∙ ap (λ (to : ℕ). record { handle = frame.1.own; from = frame.0.from; end = to }) (sym ends)

-- one frame more is listed after the others
listed_with : (earlier : List FoundFrame) (frame : FoundFrame) (listed more : List ObjectFrame) (last : ObjectFrame) → listed ≡ map frame_of earlier → more ≡ listed ++ last ∷ [] → last ≡ frame_of frame
    → more ≡ map frame_of (earlier ++ frame ∷ [])
listed_with earlier frame listed more last are added is =
    added ∙ ap₂ (λ (all : List ObjectFrame) (one : ObjectFrame). all ++ one ∷ []) are is ∙ sym (map-append frame_of earlier (frame ∷ []))

-- the frame of the next pair is read after the others
pub frame_read : (classes : List Class) (bytes : List ℕ) (earlier : List FoundFrame) (handles : List ℕ) (read more : Frames) (pair : Pair) (tried : Tried FoundFrame) (found : Found)
    → HasRead classes bytes earlier handles read → IsFrameFound classes bytes pair tried found → pair.place < found.end
    → ((other to : ℕ) → shares more.taken other to ≡ (shares read.taken other to || meets other to (found.end - 1, pair.place)))
    → more.frames ≡ read.frames ++ record { handle = pair.handle; from = pair.place; end = found.end } ∷ [] → more.objects.items ≡ read.objects.items ++ found.object ∷ []
    → (frame : FoundFrame) × (tried ≡ Ok frame) × HasRead classes bytes (earlier ++ frame ∷ []) (handles ++ pair.handle ∷ []) more
frame_read classes bytes earlier handles read more pair tried found has is some added listed joined =
    let values : values_of more.objects.items ≡ values_of read.objects.items ++ value_of found.object ∷ [] = ap values_of joined ∙ map-append value_of read.objects.items (found.object ∷ []) in (
      is.frame,
      is.tries,
      record {
        touched = touches_with earlier read.taken more.taken is.frame pair.place found.end has.touched is.from is.end some added;
        listed = listed_with earlier is.frame read.frames more.frames _ has.listed listed (frame_same is.frame pair found.end is.head is.from is.end);
        forms =
            subst (AreFormsOf classes bytes (earlier ++ is.frame ∷ [])) (sym values)
            (forms_with classes bytes earlier (values_of read.objects.items) is.frame (value_of found.object) has.forms is.form);
        own = ap (map handle_of) values ∙ map-append handle_of (values_of read.objects.items) (value_of found.object ∷ [])
            ∙ ap₂ (λ (own : List ℕ) (last : ℕ). own ++ last ∷ []) has.own is.own;
      },
    )

-- what is left after so many pairs is tried with the next of them
after_next : (bytes : List ℕ) (index : ℕ) (earlier : List FoundFrame) (pairs : List Pair) (pair : Pair) → index < length pairs → pair ≡ get_or pairs index pair
    → frames_after bytes index earlier (drop index pairs)
    ≡ with_found (λ found. frames_after bytes (index + 1) (earlier ++ found ∷ []) (drop (index + 1) pairs)) (tried_pair bytes earlier index pair)
unfolding frames_after
after_next bytes index earlier pairs pair within is =
    let left : drop index pairs ≡ pair ∷ drop (index + 1) pairs = drop-cons pairs index pair within ∙ ap₂ (λ (p : Pair) (n : ℕ). p ∷ drop n pairs) (sym is) (sym (add-one index)) in
    ap (frames_after bytes index earlier) left

-- a pair that is refused refuses all
pub frames_refused : (classes : List Class) (bytes : List ℕ) (pairs : List Pair) (index : ℕ) (read : Frames) (pair : Pair) (fault : Fault)
    → (along : IsAlong classes bytes pairs index read) → index < length pairs → pair ≡ get_or pairs index pair
    → GoesOn classes bytes along.earlier (handles_of (take index pairs)) pair (tried_pair bytes along.earlier index pair) (Err fault)
    → AnswersFrames classes bytes (frames_after bytes 0 [] pairs) (Err fault)
frames_refused classes bytes pairs index read pair NoMemory along within is goes = tt
frames_refused classes bytes pairs index read pair (Refused refusal) along within is goes =
    sym along.left ∙ after_next bytes index along.earlier pairs pair within is
    ∙ ap (with_found (λ found. frames_after bytes (index + 1) (along.earlier ++ found ∷ []) (drop (index + 1) pairs))) goes

-- the handles of one pair more
handles_more : (pairs : List Pair) (index : ℕ) (pair : Pair) → index < length pairs → pair ≡ get_or pairs index pair
    → handles_of (take (index + 1) pairs) ≡ handles_of (take index pairs) ++ pair.handle ∷ []
handles_more pairs index pair within is =
    let more : take (index + 1) pairs ≡ take index pairs ++ pair ∷ [] = take_more pairs index pair within ∙ ap (λ (p : Pair). take index pairs ++ p ∷ []) (sym is) in
    ap handles_of more ∙ map-append (λ (p : Pair). p.handle) (take index pairs) (pair ∷ [])

-- with one frame more, what is left gives the whole
pub frames_on : (classes : List Class) (bytes : List ℕ) (pairs : List Pair) (index : ℕ) (read : Frames) (pair : Pair) (more : Frames)
    → (along : IsAlong classes bytes pairs index read) → index < length pairs → pair ≡ get_or pairs index pair
    → GoesOn classes bytes along.earlier (handles_of (take index pairs)) pair (tried_pair bytes along.earlier index pair) (Ok more)
    → IsAlong classes bytes pairs (index + 1) more
frames_on classes bytes pairs index read pair more along within is goes = record {
  earlier = along.earlier ++ goes.0 ∷ [];
  has_read = subst (λ (handles : List ℕ). HasRead classes bytes (along.earlier ++ goes.0 ∷ []) handles more) (sym (handles_more pairs index pair within is)) goes.2;
  left = sym (ap (with_found (λ found. frames_after bytes (index + 1) (along.earlier ++ found ∷ []) (drop (index + 1) pairs))) goes.1)
      ∙ sym (after_next bytes index along.earlier pairs pair within is) ∙ along.left;
}

-- after the last pair, the frames so far are all
pub frames_over : (classes : List Class) (bytes : List ℕ) (pairs : List Pair) (index : ℕ) (read : Frames) → IsAlong classes bytes pairs index read → length pairs ≤ index
    → (found : List FoundFrame) × (frames_after bytes 0 [] pairs ≡ Ok found) × AreFormsOf classes bytes found (values_of read.objects.items) × (read.frames ≡ map frame_of found)
unfolding frames_after
frames_over classes bytes pairs index read along past =
    (along.earlier, sym along.left ∙ ap (frames_after bytes index along.earlier) (drop_all index pairs past), along.has_read.forms, along.has_read.listed)
