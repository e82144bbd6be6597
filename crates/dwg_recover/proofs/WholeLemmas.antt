-- Where an input spells a drawing, the frames of its map stand in it, and are the frames that its pairs name.
use Rattle.std.proofs.Common.{◌≡◌, refl, sym, ◌∙◌, ap, ap₂, subst, ℕ, ◌+◌, ◌-◌, ◌<◌, Bool, true, false, List, [], ◌∷◌, ◌++◌, length, drop, map, append_assoc, Option, Some, None, arith}
use Rattle.dwg_base.specs.Versions.{version_at}
use Rattle.std.specs.Prelude.{◌&&◌, ◌==◌, not, nat_lt, option_map, Ok, Err, if◌then◌else◌}
use Rattle.std.specs.List.{AllByRecursion, cons_option}
use Rattle.std.specs.Option.{option_and_then}
use Rattle.std.specs.Result.{result_ok, result_unwrap_or}
use Rattle.std.proofs.lemmas.Bool.Decides.{nat_tests}
use Rattle.std.proofs.lemmas.List.{append-nil}
use Rattle.dwg_base.specs.Bytes.{AreBytes}
use Rattle.dwg_base.specs.Refusals.{Tried, first_fault}
use Rattle.dwg_grammar.specs.ModularCodes.{ms}
use Rattle.dwg_file.specs.FileLines.{ALL_LINES, FoundFrame, frames_after, frames_tried, map_tried, section_place, touches, tried_pair, with_found, with_handle, with_span}
use Rattle.dwg_file.proofs.PassingLines.{each_holds, ok_of_fault}
use Rattle.dwg_file.proofs.ReadingLemmas.{SectionLaws, located_same}
use Rattle.dwg_object.specs.declared.span.Span.{Span}
use Rattle.dwg_object.specs.FrameLines.{frame_checked, frame_refusal, has_check_word, head_at, head_tried, span_of, span_parsed, tried_frame, tried_span}
use Rattle.dwg_object.specs.Objects.{HeadParts}
use Rattle.dwg_objmap.specs.declared.pair.Pair.{Pair}
use Rattle.dwg_objmap.proofs.MapLemmas.{map_is_tried}
use Rattle.dwg_objmap.specs.Pages.{MapOf}
use Rattle.dwg_sections.specs.declared.header.FileHeader.{FileHeader}
use Rattle.dwg_sections.specs.FileHeader.{BeginsWithHeader}
use Rattle.dwg_sections.specs.HeaderLines.{place_of}
use Rattle.dwg_recover.specs.declared.frame.Frame.{Frame}
use Rattle.dwg_recover.proofs.FoundLemmas.{span_inside}
use Rattle.dwg_recover.specs.Frames.{candidate, candidate_of, candidates, own_of_span, span_found}
use Rattle.dwg_recover.specs.Placing.{IsFound}
use Rattle.dwg_recover.specs.Recovering.{frames_found}

-- which span stands at a place doesn't hang on the number of a pair
same_span : (bytes : List ℕ) (place index : ℕ) (span : Span) → tried_span place index bytes ≡ Ok span → span_found bytes place ≡ Some span
unfolding span_found tried_span
same_span bytes place index span is = of_tests (not (nat_lt place (length bytes))) (ms.parse (drop place bytes)) is
  where
    of_length : (long wide : ℕ) (passes : Bool) → ◌≡◌ {A = Tried Span} (if passes then Err (frame_refusal 28 index place) else Ok (span_of place wide long)) (Ok span)
        → ◌≡◌ {A = Option Span} (result_ok (if passes then Err (frame_refusal 28 0 place) else Ok (span_of place wide long))) (Some span)
    of_length long wide true same = absurd cc
    of_length long wide false same = ap result_ok same

    of_tests : (outside : Bool) (parsed : Option (ℕ × List ℕ))
        → ◌≡◌ {A = Tried Span} (if outside then Err (frame_refusal 27 index place) else span_parsed place index (length bytes) (length (drop place bytes)) parsed) (Ok span)
        → ◌≡◌ {A = Option Span} (result_ok (if outside then Err (frame_refusal 27 0 place) else span_parsed place 0 (length bytes) (length (drop place bytes)) parsed)) (Some span)
    of_tests true parsed same = absurd cc
    of_tests false None same = absurd cc
    of_tests false (Some (long, rest)) same =
        of_length long (length (drop place bytes) - length rest) (nat_lt (length bytes) (place + (length (drop place bytes) - length rest) + long + 2)) same

-- a frame as it is kept for the pair of a number
found_frame : ℕ → FoundFrame → Frame
found_frame number found = record { pair = Some number; handle = found.1.own; from = found.0.from; end = found.0.end }

-- what is known of a frame that was found at a place
record StandsFound (bytes : List ℕ) (place : ℕ) (found : FoundFrame) : Type 0 where
  stands : span_found bytes place ≡ Some found.0
  own : own_of_span bytes found.0 ≡ Some found.1.own

-- a frame that was tried is found
frame_stands : (bytes : List ℕ) (place index : ℕ) (found : FoundFrame) → tried_frame (version_at bytes) place index bytes ≡ Ok found → StandsFound bytes place found
unfolding tried_frame own_of_span
frame_stands bytes place index (span, parts) is = of_span (tried_span place index bytes) refl is
  where
    of_head : (stood : Span) → tried_span place index bytes ≡ Ok stood → has_check_word bytes stood ≡ true → (reported : Option HeadParts) → head_at (version_at bytes) bytes stood ≡ reported
        → ◌≡◌ {A = Tried FoundFrame} (head_tried place index stood reported) (Ok (span, parts)) → StandsFound bytes place (span, parts)
    of_head stood at right None reported same = absurd cc
    of_head stood at right (Some others) reported same =
        subst (StandsFound bytes place) (same_found stood others span parts same) (record {
          stands = same_span bytes place index stood at;
          own = ap (λ (test : Bool). if test then option_map (λ (parts : HeadParts). parts.own) (head_at (version_at bytes) bytes stood) else None) right ∙ ap (option_map (λ (parts : HeadParts). parts.own)) reported;
        })
      where
        same_found : (stood : Span) (others : HeadParts) (span : Span) (parts : HeadParts) → ◌≡◌ {A = Tried FoundFrame} (Ok (stood, others)) (Ok (span, parts)) → ◌≡◌ {A = FoundFrame} (stood, others) (span, parts)
        same_found stood others span parts same = cc

    of_word : (stood : Span) → tried_span place index bytes ≡ Ok stood → (right : Bool) → has_check_word bytes stood ≡ right
        → ◌≡◌ {A = Tried FoundFrame} (if not right then Err (frame_refusal 30 index place) else head_tried place index stood (head_at (version_at bytes) bytes stood)) (Ok (span, parts)) → StandsFound bytes place (span, parts)
    of_word stood at true right same = of_head stood at right (head_at (version_at bytes) bytes stood) refl same
    of_word stood at false right same = absurd cc

    of_span : (tried : Tried Span) → tried_span place index bytes ≡ tried → ◌≡◌ {A = Tried FoundFrame} (frame_checked (version_at bytes) place index bytes tried) (Ok (span, parts)) → StandsFound bytes place (span, parts)
    of_span (Err refusal) at same = absurd cc
    of_span (Ok stood) at same = of_word stood at (has_check_word bytes stood) refl same

-- the frame of a pair that was tried, and the pair's handle
record IsOfPair (bytes : List ℕ) (pair : Pair) (found : FoundFrame) : Type 0 where
  found_at : StandsFound bytes pair.place found
  own : found.1.own ≡ pair.handle

-- numbers that pass the test are one
test_same : (a b : ℕ) → (a == b) ≡ true → a ≡ b
test_same a b passed = grind (arith, nat_tests)

-- a pair whose lines hold has a frame with its handle
pair_stands : (bytes : List ℕ) (earlier : List FoundFrame) (index : ℕ) (pair : Pair) (found : FoundFrame) → tried_pair bytes earlier index pair ≡ Ok found → IsOfPair bytes pair found
unfolding tried_pair
pair_stands bytes earlier index pair found is = of_span (tried_span pair.place index bytes) is
  where
    of_own : (other : FoundFrame) → tried_frame (version_at bytes) pair.place index bytes ≡ Ok other → (same : Bool) → (other.1.own == pair.handle) ≡ same
        → ◌≡◌ {A = Tried FoundFrame} (if same then Ok other else Err (frame_refusal 32 index pair.place)) (Ok found) → IsOfPair bytes pair found
    of_own other tried true own same =
        subst (IsOfPair bytes pair) (same_found other found same) (record { found_at = frame_stands bytes pair.place index other tried; own = test_same other.1.own pair.handle own })
      where
        same_found : (other found : FoundFrame) → ◌≡◌ {A = Tried FoundFrame} (Ok other) (Ok found) → other ≡ found
        same_found other found same = cc
    of_own other tried false own same = absurd cc

    of_frame : (tried : Tried FoundFrame) → tried_frame (version_at bytes) pair.place index bytes ≡ tried → ◌≡◌ {A = Tried FoundFrame} (with_handle pair index tried) (Ok found) → IsOfPair bytes pair found
    of_frame (Err refusal) tried same = absurd cc
    of_frame (Ok other) tried same = of_own other tried (other.1.own == pair.handle) refl same

    of_touch : (touched : Bool)
        → ◌≡◌ {A = Tried FoundFrame} (if touched then Err (frame_refusal 29 index pair.place) else with_handle pair index (tried_frame (version_at bytes) pair.place index bytes)) (Ok found) → IsOfPair bytes pair found
    of_touch true same = absurd cc
    of_touch false same = of_frame (tried_frame (version_at bytes) pair.place index bytes) refl same

    of_span : (tried : Tried Span) → ◌≡◌ {A = Tried FoundFrame} (with_span bytes earlier pair index tried) (Ok found) → IsOfPair bytes pair found
    of_span (Err refusal) same = absurd cc
    of_span (Ok span) same = of_touch (touches earlier span.from span.end) same

-- so it is the candidate of the pair
pair_is_candidate : (bytes : List ℕ) (index : ℕ) (pair : Pair) (found : FoundFrame) → 0 < pair.handle → IsOfPair bytes pair found → candidate bytes index pair ≡ Some (found_frame index found)
unfolding found_frame
pair_is_candidate bytes index pair found positive is =
    let up : nat_lt 0 pair.handle ≡ true = grind (arith, nat_tests) in
    let same : (found.1.own == pair.handle) ≡ true = grind (arith, nat_tests, is.own) in
    ap (option_and_then (λ (span : Span). option_and_then (candidate_of index pair span) (own_of_span bytes span))) is.found_at.stands
    ∙ ap (option_and_then (candidate_of index pair found.0)) is.found_at.own
    ∙ ap₂ (λ (one other : Bool). if one && other then Some (record { pair = Some index; handle = pair.handle; from = pair.place; end = found.0.end }) else None) up same
    ∙ ap₂ (λ (handle from : ℕ). Some (record { pair = Some index; handle = handle; from = from; end = found.0.end })) (sym is.own) (sym (span_inside bytes pair.place found.0 is.found_at.stands).at)

-- and it is found as it is kept
pair_is_found : (bytes : List ℕ) (number : ℕ) (pair : Pair) (found : FoundFrame) → IsOfPair bytes pair found → IsFound bytes (found_frame number found)
unfolding found_frame
pair_is_found bytes number pair found is = record {
  span = found.0;
  stands = ap (span_found bytes) (span_inside bytes pair.place found.0 is.found_at.stands).at ∙ is.found_at.stands;
  own = is.found_at.own;
  ends = refl;
}

-- the frames after earlier ones stand in the input
record AreStanding (bytes : List ℕ) (index : ℕ) (earlier founds : List FoundFrame) : Type 0 where
  rest : List FoundFrame
  whole : founds ≡ earlier ++ rest
  stand : AllByRecursion (IsFound bytes) (frames_found index rest)

-- so they do
frames_are_standing : (bytes : List ℕ) (pairs : List Pair) (index : ℕ) (earlier founds : List FoundFrame) → frames_after bytes index earlier pairs ≡ Ok founds → AreStanding bytes index earlier founds
unfolding frames_after found_frame
frames_are_standing bytes [] index earlier founds is = let same : earlier ≡ founds = cc in record { rest = []; whole = sym same ∙ sym (append-nil earlier); stand = tt }
frames_are_standing bytes (pair ∷ pairs) index earlier founds is =
    of_found (tried_pair bytes earlier index pair) refl is (λ found after. frames_are_standing bytes pairs (index + 1) (earlier ++ found ∷ []) founds after)
  where
    of_found : (tried : Tried FoundFrame) → tried_pair bytes earlier index pair ≡ tried → with_found (λ found. frames_after bytes (index + 1) (earlier ++ found ∷ []) pairs) tried ≡ Ok founds
        → ((found : FoundFrame) → frames_after bytes (index + 1) (earlier ++ found ∷ []) pairs ≡ Ok founds → AreStanding bytes (index + 1) (earlier ++ found ∷ []) founds) → AreStanding bytes index earlier founds
    of_found (Err refusal) tried same others = absurd cc
    of_found (Ok found) tried same others =
        let after = others found same in
        record {
          rest = found ∷ after.rest;
          whole = after.whole ∙ append_assoc earlier (found ∷ []) after.rest;
          stand = (pair_is_found bytes index pair found (pair_stands bytes earlier index pair found tried), after.stand);
        }

-- the frames of the map stand in the input
pub map_stands : (bytes : List ℕ) → AllByRecursion (IsFound bytes) (frames_found 0 (result_unwrap_or (frames_tried bytes) []))
unfolding frames_tried
map_stands bytes = of_tried (frames_after bytes 0 [] (result_unwrap_or (map_tried bytes) [])) refl
  where
    of_tried : (tried : Tried (List FoundFrame)) → frames_after bytes 0 [] (result_unwrap_or (map_tried bytes) []) ≡ tried
        → AllByRecursion (IsFound bytes) (frames_found 0 (result_unwrap_or tried []))
    of_tried (Err refusal) is = tt
    of_tried (Ok founds) is =
        let all = frames_are_standing bytes (result_unwrap_or (map_tried bytes) []) 0 [] founds is in
        subst (λ (some : List FoundFrame). AllByRecursion (IsFound bytes) (frames_found 0 some)) (sym all.whole) all.stand

-- the frames after earlier ones are those of the pairs
record AreAfter (bytes : List ℕ) (index : ℕ) (earlier founds : List FoundFrame) (pairs : List Pair) : Type 0 where
  rest : List FoundFrame
  whole : founds ≡ earlier ++ rest
  same : candidates bytes index pairs ≡ frames_found index rest

-- so they are
frames_are_after : (bytes : List ℕ) (pairs : List Pair) (index : ℕ) (earlier founds : List FoundFrame) → AllByRecursion (λ handle. 0 < handle) (map (λ (pair : Pair). pair.handle) pairs)
    → frames_after bytes index earlier pairs ≡ Ok founds → AreAfter bytes index earlier founds pairs
unfolding frames_after candidates found_frame
frames_are_after bytes [] index earlier founds positive is = let same : earlier ≡ founds = cc in record { rest = []; whole = sym same ∙ sym (append-nil earlier); same = refl }
frames_are_after bytes (pair ∷ pairs) index earlier founds positive is =
    of_found (tried_pair bytes earlier index pair) refl is (λ found after. frames_are_after bytes pairs (index + 1) (earlier ++ found ∷ []) founds positive.1 after)
  where
    of_found : (tried : Tried FoundFrame) → tried_pair bytes earlier index pair ≡ tried → with_found (λ found. frames_after bytes (index + 1) (earlier ++ found ∷ []) pairs) tried ≡ Ok founds
        → ((found : FoundFrame) → frames_after bytes (index + 1) (earlier ++ found ∷ []) pairs ≡ Ok founds → AreAfter bytes (index + 1) (earlier ++ found ∷ []) founds pairs)
        → AreAfter bytes index earlier founds (pair ∷ pairs)
    of_found (Err refusal) tried same others = absurd cc
    of_found (Ok found) tried same others =
        let after = others found same in
        record {
          rest = found ∷ after.rest;
          whole = after.whole ∙ append_assoc earlier (found ∷ []) after.rest;
          same = ap₂ cons_option (pair_is_candidate bytes index pair found positive.0 (pair_stands bytes earlier index pair found tried)) after.same;
        }

-- where the lines on frames hold of pairs with positive handles, the frames that they name are the frames that were found
pub map_is_found : (bytes : List ℕ) (pairs : List Pair) (founds : List FoundFrame) → AllByRecursion (λ handle. 0 < handle) (map (λ (pair : Pair). pair.handle) pairs)
    → frames_after bytes 0 [] pairs ≡ Ok founds → candidates bytes 0 pairs ≡ frames_found 0 founds
map_is_found bytes pairs founds positive is =
    let after = frames_are_after bytes pairs 0 [] founds positive is in after.same ∙ ap (frames_found 0) (sym after.whole)

-- so of an input in which no line fails, whose header locates a map, the frames that were found are the candidates of its pairs
pub candidates_are_found : SectionLaws → (bytes : List ℕ) (header : FileHeader) (place : ℕ) (pairs : List Pair) → AreBytes bytes → first_fault ALL_LINES bytes ≡ None → BeginsWithHeader bytes header
    → place_of 2 header.locators ≡ Some place → MapOf bytes place pairs → candidates bytes 0 pairs ≡ frames_found 0 (result_unwrap_or (frames_tried bytes) [])
unfolding frames_tried map_tried
candidates_are_found laws bytes header place pairs are none begins located map =
    let same : place ≡ section_place 2 bytes = located_same bytes header 2 place (laws.header_complete bytes header begins).1 located in
    let tried : map_tried bytes ≡ Ok pairs = (map_is_tried (section_place 2 bytes) bytes pairs are).1 (subst (λ at. MapOf bytes at pairs) same map) in
    let founds = ok_of_fault (frames_tried bytes) (each_holds bytes none).frames in
    let after : frames_after bytes 0 [] pairs ≡ Ok founds.0 = sym (ap (λ (tried : Tried (List Pair)). frames_after bytes 0 [] (result_unwrap_or tried [])) tried) ∙ founds.1 in
    map_is_found bytes pairs founds.0 map.handles.positive after ∙ ap (λ (tried : Tried (List FoundFrame)). frames_found 0 (result_unwrap_or tried [])) (sym founds.1)
