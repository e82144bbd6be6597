-- A canonical file with a short change in one object's frame costs that object alone.
use Rattle.std.proofs.Common.{◌≡◌, refl, sym, ◌∙◌, ap, subst, ℕ, ◌+◌, ◌<◌, ◌≤◌, Bool, true, false, List, [], ◌∷◌, ◌++◌, length, length-append, map, Option, Some, inl, inr, arith}
use Rattle.std.specs.Prelude.{◌⊎◌, if◌then◌else◌}
use Rattle.std.specs.Option.{is_none}
use Rattle.std.proofs.lemmas.Bool.Decides.{nat_tests}
use Rattle.std.proofs.lemmas.List.{map-append}
use Rattle.std.proofs.lemmas.Option.{same_Some}
use Rattle.dwg_base.specs.Bytes.{AreBytes}
use Rattle.dwg_base.specs.Devices.{MOST_BYTES}
use Rattle.dwg_base.specs.Refusals.{first_fault}
use Rattle.dwg_file.specs.CanonicalFrames.{canonical_frames_with}
use Rattle.dwg_file.specs.Canonical.{Carried, IsCarried, canonical_with, class_content, classes_place, header_with, map_place_with, objects_place_with, others_bytes, others_located, others_place_with, size_with, variables_place}
use Rattle.dwg_file.specs.CanonicalBytes.{HasPart}
use Rattle.dwg_file.proofs.CanonicalLaws.{carrying_is_counted}
use Rattle.dwg_file.proofs.CanonicalParts.{content_is_classes}
use Rattle.dwg_file.specs.Contents.{Contents, OtherValue}
use Rattle.dwg_file.specs.FileLines.{ALL_LINES, is_cut}
use Rattle.dwg_file.proofs.ReadingLemmas.{SectionLaws}
use Rattle.dwg_file.specs.ShortDamage.{AllElseIsSame, DamagedFrameFails, ElseIsSame, ShortDamageIsRefused}
use Rattle.dwg_file.specs.Spelled.{PairFrame}
use Rattle.dwg_file.specs.Valid.{IsValid}
use Rattle.dwg_object.proofs.FrameLaws.{held_frame}
use Rattle.dwg_object.specs.FrameLines.{frame_refusal}
use Rattle.dwg_object.specs.Frames.{FrameHolds}
use Rattle.dwg_objmap.specs.declared.pair.Pair.{Pair}
use Rattle.dwg_sections.specs.declared.framed.Framed.TheVariants as framed
use Rattle.dwg_sections.specs.declared.header.FileHeader.{FileHeader}
use Rattle.dwg_recover.specs.declared.frame.Frame.{Frame}
use Rattle.dwg_recover.specs.declared.loss.Loss.{Loss}
use Rattle.dwg_recover.specs.declared.loss.Loss.TheVariants.{Header, Variables, Classes, Section, Object}
use Rattle.dwg_recover.specs.FoundFrames.{frame_of}
use Rattle.dwg_recover.proofs.FoundFrames.{candidate_is, candidates_hold}
use Rattle.dwg_recover.proofs.FoundParts.{header_is_found}
use Rattle.dwg_recover.specs.Frames.{candidate, candidates, is_kept_pair, lost_pairs, mapped_frames}
use Rattle.dwg_recover.specs.Intact.{IsPartlyIntact, pairs_framed}
use Rattle.dwg_recover.proofs.IntactFrames.{numbered_is_kept}
use Rattle.dwg_recover.proofs.IntactLemmas.{each_holds_or_none, intact_objects_are_kept}
use Rattle.dwg_recover.proofs.IntactMap.{IsWholeWalk, map_is_walked}
use Rattle.dwg_file.proofs.WrittenFrames.{IsWritten, canonical_written}
use Rattle.dwg_recover.proofs.IntactParts.{IntactParts, class_section_is_found, classes_are_intact, intact_holds, intact_version, parts_are_intact, variables_are_found, variables_are_intact, written_positive}
use Rattle.dwg_recover.specs.ListMembers.{IsAt, IsOneOf}
use Rattle.dwg_recover.proofs.ListMembers.{at_back, at_prefix, at_next, in_first, in_second, mapped_from, of_joined, one_at, one_of_all, same_at}
use Rattle.dwg_recover.proofs.LostPairs.{AllKept, kept_reported, one_lost}
use Rattle.dwg_recover.proofs.MapKeeping.{candidates_are_of_pairs, mapped_are_candidates, ordered_is_one}
use Rattle.dwg_recover.specs.Recovering.{RecoveredValue, frames_mapped, losses_of, pairs_read, recovered, recovered_damaged, walk_of}
use Rattle.dwg_recover.specs.Sections.{header_of, locators_of, lost_if, lost_sections, section_found}
use Rattle.dwg_recover.specs.ShortDamage.{ShortDamageCostsOneObject}
use Rattle.dwg_recover.proofs.ReportedLosses.{free_reported}
use Rattle.dwg_recover.specs.Walks.{lost_end, lost_pages}
use Rattle.dwg_recover.proofs.WholeRecovery.{recovered_of_damaged}

-- an input in which all is as in the canonical file but for one frame, and no frame with the handle of its pair holds at its place
record IsButOneFrame (carried : Carried) (drawing : Contents) (bytes : List ℕ) (earlier : List PairFrame) (frame : PairFrame) (later : List PairFrame) : Type 0 where
  are : AreBytes bytes
  kept : IsCarried carried
  valid : IsValid drawing
  small : size_with carried drawing ≤ MOST_BYTES
  whole : canonical_frames_with carried drawing ≡ earlier ++ frame ∷ later
  same : ElseIsSame carried drawing bytes earlier later
  fails : (end : ℕ) → FrameHolds bytes frame.pair.place frame.pair.handle end → ⊥

-- each other frame is one of the canonical file, and the input has it
record IsOtherFrame (carried : Carried) (drawing : Contents) (bytes : List ℕ) (one : PairFrame) : Type 0 where
  among : IsOneOf one (canonical_frames_with carried drawing)
  has : HasPart carried drawing bytes one.pair.place one.end

other_frame : (carried : Carried) (drawing : Contents) (bytes : List ℕ) (earlier : List PairFrame) (frame : PairFrame) (later : List PairFrame) → IsButOneFrame carried drawing bytes earlier frame later → (one : PairFrame)
    → IsOneOf one earlier ⊎ IsOneOf one later → IsOtherFrame carried drawing bytes one
other_frame carried drawing bytes earlier frame later but one (inl is) = record {
  among = subst (IsOneOf one) (sym but.whole) (in_first one earlier (frame ∷ later) is);
  has = one_of_all (λ (one : PairFrame). HasPart carried drawing bytes one.pair.place one.end) earlier one but.same.before is;
}
other_frame carried drawing bytes earlier frame later but one (inr is) = record {
  among = subst (IsOneOf one) (sym but.whole) (in_second one earlier (frame ∷ later) (inr is));
  has = one_of_all (λ (one : PairFrame). HasPart carried drawing bytes one.pair.place one.end) later one but.same.after is;
}

-- so such an input is partly intact
is_partly_intact : (carried : Carried) (drawing : Contents) (bytes : List ℕ) (earlier : List PairFrame) (frame : PairFrame) (later : List PairFrame) → IsButOneFrame carried drawing bytes earlier frame later → IsPartlyIntact carried drawing bytes
is_partly_intact carried drawing bytes earlier frame later but = record {
  long = but.same.long;
  header = but.same.header;
  mapped = but.same.mapped;
  frames = λ one is. of_case one (of_joined one earlier (frame ∷ later) (subst (IsOneOf one) but.whole is));
}
  where
    of_case : (one : PairFrame) → IsOneOf one earlier ⊎ IsOneOf one (frame ∷ later)
        → HasPart carried drawing bytes one.pair.place one.end ⊎ ((end : ℕ) → FrameHolds bytes one.pair.place one.pair.handle end → ⊥)
    of_case one (inl is) = inl (other_frame carried drawing bytes earlier frame later but one (inl is)).has
    of_case one (inr (inl same)) = inr (subst (λ (one : PairFrame). (end : ℕ) → FrameHolds bytes one.pair.place one.pair.handle end → ⊥) (sym same) but.fails)
    of_case one (inr (inr is)) = inl (other_frame carried drawing bytes earlier frame later but one (inr is)).has

-- the pairs of the map, in two at that of the frame
pairs_split : (carried : Carried) (drawing : Contents) (earlier : List PairFrame) (frame : PairFrame) (later : List PairFrame) → canonical_frames_with carried drawing ≡ earlier ++ frame ∷ later
    → pairs_framed (canonical_frames_with carried drawing) ≡ pairs_framed earlier ++ frame.pair ∷ pairs_framed later
pairs_split carried drawing earlier frame later whole =
    ap (map (λ (frame : PairFrame). frame.pair)) whole ∙ map-append (λ (frame : PairFrame). frame.pair) earlier (frame ∷ later)

-- for the number of each other pair a frame is kept
other_is_kept : (carried : Carried) (drawing : Contents) (bytes : List ℕ) (earlier : List PairFrame) (frame : PairFrame) (later : List PairFrame) (number : ℕ) (one : PairFrame) → IsButOneFrame carried drawing bytes earlier frame later
    → IsOneOf one earlier ⊎ IsOneOf one later → IsAt number one.pair (pairs_framed (canonical_frames_with carried drawing))
    → is_kept_pair (mapped_frames bytes (pairs_framed (canonical_frames_with carried drawing))) number ≡ true
other_is_kept carried drawing bytes earlier frame later number one but is at =
    let other = other_frame carried drawing bytes earlier frame later but one is in
    let intact = is_partly_intact carried drawing bytes earlier frame later but in
    let all = canonical_written carried drawing but.kept but.valid but.small in
    let positive = written_positive drawing.version drawing.classes (canonical_with carried drawing) (canonical_frames_with carried drawing) all in
    let holds =
    intact_holds carried drawing bytes one (intact_version carried drawing bytes (parts_are_intact carried drawing bytes but.kept but.valid but.small intact)) intact (one_of_all (IsWritten drawing.version drawing.classes (canonical_with carried drawing)) (canonical_frames_with carried drawing) one all other.among) other.has in
    kept_reported (mapped_frames bytes (pairs_framed (canonical_frames_with carried drawing))) number (frame_of number one.pair one.end)
    (numbered_is_kept (candidates_hold held_frame) bytes drawing.version drawing.objects (objects_place_with carried drawing) number one but.are but.valid.ascending positive
    (each_holds_or_none carried drawing bytes but.kept but.valid but.small intact) at
    (one_of_all (λ (one : PairFrame). 0 < one.pair.handle) (canonical_frames_with carried drawing) one positive other.among) holds)
    refl

-- and none for that of a pair at whose place no frame with its handle holds
fails_is_free : (bytes : List ℕ) (pairs : List Pair) (number : ℕ) (pair : Pair) → AreBytes bytes → IsAt number pair pairs → ((end : ℕ) → FrameHolds bytes pair.place pair.handle end → ⊥)
    → is_kept_pair (mapped_frames bytes pairs) number ≡ false
fails_is_free bytes pairs number pair are at fails = (free_reported (mapped_frames bytes pairs) number).1 (λ one is its. never one is its)
  where
    of_candidate : (one : Frame) (other : ℕ) (named : Pair) → one.pair ≡ Some number → IsAt other named pairs → candidate bytes other named ≡ Some one → ⊥
    of_candidate one other named its there found =
        let is : one ≡ frame_of other named one.end = candidate_is bytes other named one found in
        let count : other ≡ number = same_Some other number (sym (ap (λ (frame : Frame). frame.pair) is) ∙ its) in
        let same : named ≡ pair = same_at number named pair pairs (subst (λ n. IsAt n named pairs) count there) at in
        fails one.end
        (subst (λ (pair : Pair). FrameHolds bytes pair.place pair.handle one.end) same (((candidates_hold held_frame) bytes other named one.end are).1 (found ∙ ap Some is)).1)

    never : (one : Frame) → IsOneOf one (mapped_frames bytes pairs) → one.pair ≡ Some number → ⊥
    never one is its =
        let from = (candidates_are_of_pairs bytes pairs one).0 (ordered_is_one (length bytes) (candidates bytes 0 pairs) one (mapped_are_candidates bytes pairs one is)) in
        of_candidate one from.0 from.1 its from.2 from.3

-- so the pair of the frame is lost alone
one_pair_lost : (carried : Carried) (drawing : Contents) (bytes : List ℕ) (earlier : List PairFrame) (frame : PairFrame) (later : List PairFrame) → IsButOneFrame carried drawing bytes earlier frame later
    → lost_pairs (mapped_frames bytes (pairs_framed (canonical_frames_with carried drawing))) 0 (pairs_framed (canonical_frames_with carried drawing)) ≡ Object frame.pair.handle frame.pair.place ∷ []
one_pair_lost carried drawing bytes earlier frame later but =
    ap (lost_pairs kept 0) split ∙ one_lost kept 0 (pairs_framed earlier) frame.pair (pairs_framed later) before free after
  where
    pairs : List Pair
    pairs = pairs_framed (canonical_frames_with carried drawing)

    kept : List Frame
    kept = mapped_frames bytes pairs

    split : pairs ≡ pairs_framed earlier ++ frame.pair ∷ pairs_framed later
    split = pairs_split carried drawing earlier frame later but.whole

    from_zero : (n : ℕ) → 0 + n ≡ n
    from_zero n = omega arith

    named : (number : ℕ) (pair : Pair) (one : PairFrame) → IsOneOf one earlier ⊎ IsOneOf one later → pair ≡ one.pair → IsAt number pair (pairs_framed earlier ++ frame.pair ∷ pairs_framed later)
        → is_kept_pair kept number ≡ true
    named number pair one is same at =
        other_is_kept carried drawing bytes earlier frame later number one but is
        (subst (λ (pair : Pair). IsAt number pair pairs) same (subst (IsAt number pair) (sym split) at))

    before : AllKept kept 0 (pairs_framed earlier)
    before index pair at =
        let from = mapped_from (λ (frame : PairFrame). frame.pair) pair earlier (one_at index pair (pairs_framed earlier) at) in
        ap (is_kept_pair kept) (from_zero index)
        ∙ named index pair from.one (inl from.is) from.same (at_prefix index pair (pairs_framed earlier) (frame.pair ∷ pairs_framed later) at)

    here : IsAt (length (pairs_framed earlier)) frame.pair pairs
    here = record { split = record { before = pairs_framed earlier; after = pairs_framed later; whole = split }; far = refl }

    free : is_kept_pair kept (0 + length (pairs_framed earlier)) ≡ false
    free = ap (is_kept_pair kept) (from_zero (length (pairs_framed earlier))) ∙ fails_is_free bytes pairs (length (pairs_framed earlier)) frame.pair but.are here but.fails

    after : AllKept kept (0 + length (pairs_framed earlier) + 1) (pairs_framed later)
    after index pair at =
        let from = mapped_from (λ (frame : PairFrame). frame.pair) pair later (one_at index pair (pairs_framed later) at) in
        let count : 0 + length (pairs_framed earlier) + 1 + index ≡ length (pairs_framed earlier) + (index + 1) = omega arith in
        ap (is_kept_pair kept) count
        ∙ named (length (pairs_framed earlier) + (index + 1)) pair from.one (inr from.is) from.same
        (at_back (index + 1) pair (pairs_framed earlier) (frame.pair ∷ pairs_framed later) (at_next index pair frame.pair (pairs_framed later) at))

-- unknown sections that stand one after the other in an input don't pass its end
none_cut : (bytes : List ℕ) (others : List OtherValue) (place : ℕ) → place + length (others_bytes others) ≤ length bytes → lost_sections bytes (others_located place others) ≡ []
none_cut bytes [] place fits = refl
none_cut bytes (other ∷ others) place fits =
    let long : length (others_bytes (other ∷ others)) ≡ length other.bytes + length (others_bytes others) = length-append other.bytes (others_bytes others) in
    let here : place + length other.bytes ≤ length bytes = omega (arith, fits, long) in
    let rest : List Loss = lost_sections bytes (others_located (place + length other.bytes) others) in
    ap (λ (cut : Bool). if cut then Section other.number place ∷ rest else rest) (uncut other.number place (length other.bytes) here)
    ∙ none_cut bytes others (place + length other.bytes) (omega (arith, fits, long))
  where
    uncut : (number at size : ℕ) → at + size ≤ length bytes → is_cut bytes (record { number = number; place = at; size = size }) ≡ false
    uncut number at size within = grind (arith, nat_tests, within)

-- where nothing is lost before the pairs, the losses are those of the pairs
pairs_alone : (header variables classes sections pages end pairs : List Loss) → header ≡ [] → variables ≡ [] → classes ≡ [] → sections ≡ [] → pages ≡ [] → end ≡ []
    → header ++ variables ++ classes ++ sections ++ pages ++ end ++ pairs ≡ pairs
pairs_alone header variables classes sections pages end pairs a b c d e f =
    ap (λ (some : List Loss). some ++ variables ++ classes ++ sections ++ pages ++ end ++ pairs) a
    ∙ ap (λ (some : List Loss). some ++ classes ++ sections ++ pages ++ end ++ pairs) b
    ∙ ap (λ (some : List Loss). some ++ sections ++ pages ++ end ++ pairs) c
    ∙ ap (λ (some : List Loss). some ++ pages ++ end ++ pairs) d
    ∙ ap (λ (some : List Loss). some ++ end ++ pairs) e
    ∙ ap (λ (some : List Loss). some ++ pairs) f

-- what is found isn't lost
found_not_lost : {A : Type 0} (found : Option A) (one : A) (loss : Loss) → found ≡ Some one → lost_if (is_none found) loss ≡ []
found_not_lost {A} found one loss is = ap (λ (found : Option A). lost_if (is_none found) loss) is

-- so of such an input the object of the frame is lost alone
one_object_lost : SectionLaws → (carried : Carried) (drawing : Contents) (bytes : List ℕ) (earlier : List PairFrame) (frame : PairFrame) (later : List PairFrame) → IsButOneFrame carried drawing bytes earlier frame later
    → losses_of bytes ≡ Object frame.pair.handle frame.pair.place ∷ []
unfolding losses_of frames_mapped
one_object_lost laws carried drawing bytes earlier frame later but =
    pairs_alone (lost_if (is_none (header_of bytes)) Header) (lost_if (is_none (section_found framed.Variables bytes)) Variables) (lost_if (is_none (section_found framed.Classes bytes)) Classes)
    (lost_sections bytes (locators_of (header_of bytes))) (lost_pages bytes 0 (walk_of bytes).pages) (lost_end (walk_of bytes).lost) (lost_pairs (mapped_frames bytes (pairs_read bytes)) 0 (pairs_read bytes))
    (found_not_lost (header_of bytes) (header_with carried drawing) Header header)
    (found_not_lost (section_found framed.Variables bytes) (variables_place drawing) Variables variables)
    (found_not_lost (section_found framed.Classes bytes) (classes_place drawing) Classes classes)
    (ap (λ (found : Option FileHeader). lost_sections bytes (locators_of found)) header ∙ none_cut bytes drawing.others (others_place_with carried drawing) fits)
    walk.held (ap lost_end walk.ends)
    ∙ ap (λ (pairs : List Pair). lost_pairs (mapped_frames bytes pairs) 0 pairs) walk.read ∙ one_pair_lost carried drawing bytes earlier frame later but
  where
    intact : IsPartlyIntact carried drawing bytes
    intact = is_partly_intact carried drawing bytes earlier frame later but

    parts : IntactParts carried drawing bytes
    parts = parts_are_intact carried drawing bytes but.kept but.valid but.small intact

    header : header_of bytes ≡ Some (header_with carried drawing)
    header = header_is_found laws.header_complete bytes (header_with carried drawing) parts.begins

    variables : section_found framed.Variables bytes ≡ Some (variables_place drawing)
    variables =
        variables_are_found laws bytes (header_with carried drawing) (variables_place drawing) drawing.variables but.are header refl
        (variables_are_intact carried drawing bytes but.kept but.valid but.small intact but.same.variables)

    classes : section_found framed.Classes bytes ≡ Some (classes_place drawing)
    classes =
        class_section_is_found laws bytes (header_with carried drawing) (classes_place drawing) (class_content drawing.classes) drawing.classes but.are header refl
        (classes_are_intact carried drawing bytes but.kept but.valid but.small intact but.same.classes) (content_is_classes drawing.classes but.valid.classes)

    walk : IsWholeWalk bytes (pairs_framed (canonical_frames_with carried drawing))
    walk = map_is_walked bytes (header_with carried drawing) (map_place_with carried drawing) (pairs_framed (canonical_frames_with carried drawing)) header refl parts.mapped

    fits : others_place_with carried drawing + length (others_bytes drawing.others) ≤ length bytes
    fits = omega (arith, but.same.long, (carrying_is_counted carried drawing but.kept but.valid but.small).0)

-- so it costs that object alone
pub short_damage_costs_one : SectionLaws → ShortDamageIsRefused → DamagedFrameFails → AllElseIsSame → ShortDamageCostsOneObject
unfolding recovered_damaged
short_damage_costs_one laws refused fails same carried drawing bytes earlier frame later kept is small are whole damaged = record {
  refusal = sym (ap (λ (value : RecoveredValue). value.refusal) answered) ∙ first;
  losses = sym (ap (λ (value : RecoveredValue). value.losses) answered) ∙ one_object_lost laws carried drawing bytes earlier frame later but;
  others = λ other one. of_other other (other_frame carried drawing bytes earlier frame later but other (of_joined other earlier later one));
}
  where
    but : IsButOneFrame carried drawing bytes earlier frame later
    but = record {
      are = are;
      kept = kept;
      valid = is;
      small = small;
      whole = whole;
      same = same carried drawing bytes earlier frame later kept is small whole damaged;
      fails = fails carried drawing bytes earlier frame later kept is small are whole damaged;
    }

    first : first_fault ALL_LINES bytes ≡ Some (frame_refusal 30 (length earlier) frame.pair.place)
    first = refused carried drawing bytes earlier frame later kept is small are whole damaged

    answered : recovered_damaged bytes ≡ recovered bytes
    answered = recovered_of_damaged bytes (frame_refusal 30 (length earlier) frame.pair.place) first

    of_other : (other : PairFrame) → IsOtherFrame carried drawing bytes other → IsOneOf other.object (recovered bytes).drawing.objects
    of_other other known =
        (intact_objects_are_kept laws carried drawing bytes other kept is small are (is_partly_intact carried drawing bytes earlier frame later but) known.among known.has).1 but.same.classes
