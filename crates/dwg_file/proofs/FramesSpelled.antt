-- The frames that are found are those that are spelled, with the objects that their bodies are read as. A rule of this project.
use Rattle.std.proofs.Common.{◌≡◌, refl, sym, ◌∙◌, ap, ap₂, subst, ℕ, suc, Bool, true, false, List, [], ◌∷◌, ◌++◌, inl, inr, arith}
use Rattle.dwg_base.specs.Versions.{version_at}
use Rattle.dwg_base.specs.declared.version.Version.{Version}
use Rattle.std.specs.Prelude.{◌&&◌, ◌||◌, nat_lt, map, AllPairs}
use Rattle.std.specs.List.{AllByRecursion}
use Rattle.std.proofs.lemmas.Bool.Decides.{nat_tests}
use Rattle.std.proofs.lemmas.List.Elements.{All-from_recursion, recursion_from_All}
use Rattle.std.proofs.lemmas.List.Kept.{AllPairs-cons}
use Rattle.dwg_bits.specs.Bits.{bits}
use Rattle.dwg_classes.specs.declared.class.Class.{Class}
use Rattle.dwg_object.specs.Objects.{HeadParts, ObjectValue, handle_of}
use Rattle.dwg_object.specs.Forms.{FormOf}
use Rattle.dwg_object.specs.Heads.{HasHead}
use Rattle.dwg_object.proofs.FormLaws.{forms_same, head_of_form}
use Rattle.dwg_object.proofs.HeadLemmas.{heads_same}
use Rattle.dwg_object.proofs.FrameLaws.{span_of_frame}
use Rattle.dwg_object.specs.FrameLines.{span_body}
use Rattle.dwg_objmap.specs.declared.pair.Pair.{Pair}
use Rattle.dwg_file.specs.FileLines.{FoundFrame, touches}
use Rattle.dwg_file.specs.ReadAs.{AreFormsOf}
use Rattle.dwg_file.specs.Spelled.{PairFrame, IsFrameOfPair, AreApart}
use Rattle.dwg_file.proofs.FramesFound.{IsFound, AreFound}

-- neither of two tests passes where one or the other doesn't
neither : (one other : Bool) → (one || other) ≡ false → (one ≡ false) × (other ≡ false)
neither false false none = (refl, refl)
neither false true none = absurd cc
neither true false none = absurd cc
neither true true none = absurd cc

-- bytes from a place to another share one with a frame
abbrev meets : FoundFrame → ℕ → ℕ → Bool
meets found from end = nat_lt from found.0.end && nat_lt found.0.from end

-- what shares no byte with some frames and another shares none with those, and none with that
touches_each : (earlier : List FoundFrame) (found : FoundFrame) (from end : ℕ) → touches (earlier ++ found ∷ []) from end ≡ false → (touches earlier from end ≡ false) × (meets found from end ≡ false)
touches_each [] found from end none = (refl, (neither (meets found from end) false none).0)
touches_each (one ∷ earlier) found from end none =
    let both = neither (meets one from end) (touches (earlier ++ found ∷ []) from end) none in
    let more = touches_each earlier found from end both.1 in
    (ap₂ (λ a b. a || b) both.0 more.0, more.1)

-- and the other way round
touches_both : (earlier : List FoundFrame) (found : FoundFrame) (from end : ℕ) → touches earlier from end ≡ false → meets found from end ≡ false → touches (earlier ++ found ∷ []) from end ≡ false
touches_both [] found from end none here = ap (λ a. a || false) here
touches_both (one ∷ earlier) found from end none here =
    let both = neither (meets one from end) (touches earlier from end) none in
    ap₂ (λ a b. a || b) both.0 (touches_both earlier found from end both.1 here)

-- a frame shares no byte with earlier ones
abbrev pub IsFree : List FoundFrame → PairFrame → Type 0
IsFree earlier frame = touches earlier frame.pair.place frame.end ≡ false

-- a frame that was found, and another that shares no byte with it, are apart
apart_of_free : (found : FoundFrame) (one other : PairFrame) → found.0.from ≡ one.pair.place → found.0.end ≡ one.end → meets found other.pair.place other.end ≡ false → AreApart one other
apart_of_free found one other from end free = of_tests (nat_lt other.pair.place found.0.end) refl (nat_lt found.0.from other.end) refl
  where
    both : nat_lt other.pair.place found.0.end ≡ true → nat_lt found.0.from other.end ≡ true → ⊥
    both before after = let met : true ≡ false = sym (ap₂ (λ a b. a && b) before after) ∙ free in cc

    of_tests : (before : Bool) → nat_lt other.pair.place found.0.end ≡ before → (after : Bool) → nat_lt found.0.from other.end ≡ after → AreApart one other
    of_tests false before test after = inl (grind (arith, nat_tests))
    of_tests true before false after = inr (grind (arith, nat_tests))
    of_tests true before true after = absurd (both before after)

-- and frames that are apart share none
free_of_apart : (found : FoundFrame) (one other : PairFrame) → found.0.from ≡ one.pair.place → found.0.end ≡ one.end → AreApart one other → meets found other.pair.place other.end ≡ false
free_of_apart found one other from end apart = of_tests (nat_lt other.pair.place found.0.end) refl (nat_lt found.0.from other.end) refl apart
  where
    of_tests : (before : Bool) → nat_lt other.pair.place found.0.end ≡ before → (after : Bool) → nat_lt found.0.from other.end ≡ after → AreApart one other → (before && after) ≡ false
    of_tests false before test after either = refl
    of_tests true before false after either = refl
    of_tests true before true after (inl past) = absurd (grind (arith, nat_tests))
    of_tests true before true after (inr past) = absurd (grind (arith, nat_tests))

-- frames that share no byte with earlier ones and with one that was found are free of the earlier ones
free_of_more : (earlier : List FoundFrame) (found : FoundFrame) (frames : List PairFrame) → AllByRecursion (IsFree (earlier ++ found ∷ [])) frames → AllByRecursion (IsFree earlier) frames
free_of_more earlier found [] free = tt
free_of_more earlier found (frame ∷ frames) free = ((touches_each earlier found frame.pair.place frame.end free.0).0, free_of_more earlier found frames free.1)

-- and apart from that one
apart_of_more : (earlier : List FoundFrame) (found : FoundFrame) (one : PairFrame) (frames : List PairFrame) → found.0.from ≡ one.pair.place → found.0.end ≡ one.end
    → AllByRecursion (IsFree (earlier ++ found ∷ [])) frames → AllByRecursion (AreApart one) frames
apart_of_more earlier found one [] from end free = tt
apart_of_more earlier found one (frame ∷ frames) from end free =
    (apart_of_free found one frame from end (touches_each earlier found frame.pair.place frame.end free.0).1, apart_of_more earlier found one frames from end free.1)

-- frames that are free of earlier ones and apart from one that was found are free of all
more_of_apart : (earlier : List FoundFrame) (found : FoundFrame) (one : PairFrame) (frames : List PairFrame) → found.0.from ≡ one.pair.place → found.0.end ≡ one.end
    → AllByRecursion (IsFree earlier) frames → AllByRecursion (AreApart one) frames → AllByRecursion (IsFree (earlier ++ found ∷ [])) frames
more_of_apart earlier found one [] from end free apart = tt
more_of_apart earlier found one (frame ∷ frames) from end free apart =
    (touches_both earlier found frame.pair.place frame.end free.0 (free_of_apart found one frame from end apart.0), more_of_apart earlier found one frames from end free.1 apart.1)

-- all frames are free of none
pub free_of_none : (frames : List PairFrame) → AllByRecursion (IsFree []) frames
free_of_none [] = tt
free_of_none (frame ∷ frames) = (refl, free_of_none frames)

-- no two of no frames
none_apart : AllPairs AreApart []
none_apart i j d before within = absurd (omega arith)

-- the frames of pairs, after earlier ones, whose bodies are read as these objects
pub record FramesOf (classes : List Class) (bytes : List ℕ) (earlier : List FoundFrame) (pairs : List Pair) (values : List ObjectValue) : Type 0 where
  pub frames : List PairFrame
  pub framed : pairs ≡ map (λ (frame : PairFrame). frame.pair) frames
  pub stand : AllByRecursion (IsFrameOfPair classes bytes) frames
  pub apart : AllPairs AreApart frames
  pub free : AllByRecursion (IsFree earlier) frames
  pub objects : values ≡ map (λ (frame : PairFrame). frame.object) frames

-- an object that a body is read as has the handle of the body's head
pub own_of_head : (version : Version) (classes : List Class) (body : List ℕ) (object : ObjectValue) (parts : HeadParts) → FormOf version classes body object → HasHead version (bits body) parts → handle_of object ≡ parts.own
own_of_head version classes body object parts form head =
    let reported = head_of_form version classes body object form in
    reported.3 ∙ ap (λ (p : HeadParts). p.own) (heads_same (bits body) reported.0 parts reported.1 head)

-- what is found of pairs, and read, are frames of the pairs
pub frames_of : (classes : List Class) (bytes : List ℕ) (earlier : List FoundFrame) (pairs : List Pair) (founds : List FoundFrame) (values : List ObjectValue)
    → AreFound bytes earlier pairs founds → AreFormsOf classes bytes founds values → FramesOf classes bytes earlier pairs values
frames_of classes bytes earlier [] founds values none forms =
    record { frames = []; framed = refl; stand = tt; apart = none_apart; free = tt; objects = subst (λ (f : List FoundFrame). AreFormsOf classes bytes f values) none forms }
frames_of classes bytes earlier (pair ∷ pairs) founds values (found, after, is, first, more) forms =
    let read = subst (λ (f : List FoundFrame). AreFormsOf classes bytes f values) is forms in
    with_more read (frames_of classes bytes (earlier ++ found ∷ []) pairs after read.1 more read.4)
  where
    with_more : (read : (object : ObjectValue) × (rest : List ObjectValue) × (values ≡ object ∷ rest) × FormOf (version_at bytes) classes (span_body bytes found.0) object × AreFormsOf classes bytes after rest)
        → FramesOf classes bytes (earlier ++ found ∷ []) pairs read.1 → FramesOf classes bytes earlier (pair ∷ pairs) values
    with_more (object, rest, same, form, others) all =
        let frame : PairFrame = record { pair = pair; body = span_body bytes found.0; end = found.0.end; object = object } in
        let stands : IsFrameOfPair classes bytes frame =
        record { stands = first.framed.frame; form = form; own = own_of_head (version_at bytes) classes (span_body bytes found.0) object found.1 form first.head ∙ first.own } in
        record {
          frames = frame ∷ all.frames;
          framed = ap (λ more. pair ∷ more) all.framed;
          stand = (stands, all.stand);
          apart = AllPairs-cons AreApart frame all.frames
              (All-from_recursion (AreApart frame) all.frames (apart_of_more earlier found frame all.frames first.framed.from refl all.free)) all.apart;
          free = (subst (λ n. touches earlier n found.0.end ≡ false) first.framed.from first.free, free_of_more earlier found all.frames all.free);
          objects = same ∙ ap (λ more. object ∷ more) all.objects;
        }

-- what is found of the pairs of frames, and read
pub record FoundOf (classes : List Class) (bytes : List ℕ) (earlier : List FoundFrame) (pairs : List Pair) (values : List ObjectValue) : Type 0 where
  pub founds : List FoundFrame
  pub found : AreFound bytes earlier pairs founds
  pub forms : AreFormsOf classes bytes founds values

-- the frames of pairs are found, and read
pub found_of : (classes : List Class) (bytes : List ℕ) (earlier : List FoundFrame) (frames : List PairFrame) → AllByRecursion (IsFrameOfPair classes bytes) frames
    → AllPairs AreApart frames → AllByRecursion (IsFree earlier) frames
    → FoundOf classes bytes earlier (map (λ (frame : PairFrame). frame.pair) frames) (map (λ (frame : PairFrame). frame.object) frames)
found_of classes bytes earlier [] stand apart free = record { founds = []; found = refl; forms = refl }
found_of classes bytes earlier (frame ∷ frames) stand apart free =
    let span = span_of_frame bytes frame.pair.place frame.body frame.end stand.0.stands in
    let reported = head_of_form (version_at bytes) classes frame.body frame.object stand.0.form in
    let found : FoundFrame = (span.span, reported.0) in
    let others : AllByRecursion (AreApart frame) frames = recursion_from_All (AreApart frame) frames (λ k d within. apart 0 (suc k) d (omega arith) (omega arith)) in
    let more = found_of classes bytes (earlier ++ found ∷ []) frames stand.1 (λ i j d before within. apart (suc i) (suc j) d (omega arith) (omega arith))
    (more_of_apart earlier found frame frames span.framed.from span.same_end free.1 others) in
    let first : IsFound bytes earlier frame.pair found = record {
      framed = span.framed;
      head = subst (λ (b : List ℕ). HasHead (version_at bytes) (bits b) reported.0) (sym span.same_body) reported.1;
      own = sym reported.3 ∙ stand.0.own;
      free = subst (λ n. touches earlier n span.span.end ≡ false) (sym span.framed.from) (subst (λ n. touches earlier frame.pair.place n ≡ false) (sym span.same_end) free.0);
    } in
    record {
      founds = found ∷ more.founds;
      found = (found, more.founds, refl, first, more.found);
      forms = (
        frame.object,
        map (λ (frame : PairFrame). frame.object) frames,
        refl,
        subst (λ (b : List ℕ). FormOf (version_at bytes) classes b frame.object) (sym span.same_body) stand.0.form,
        more.forms,
      );
    }

-- what is found is read as one list of objects
pub forms_once : (classes : List Class) (bytes : List ℕ) (founds : List FoundFrame) (values others : List ObjectValue) → AreFormsOf classes bytes founds values → AreFormsOf classes bytes founds others → values ≡ others
forms_once classes bytes [] values others none also = none ∙ sym also
forms_once classes bytes (found ∷ founds) values others (one, after, same, form, more) (two, rest, also, other, less) =
    same
    ∙ ap₂ (λ first back. first ∷ back) (forms_same (version_at bytes) classes (span_body bytes found.0) one two form other) (forms_once classes bytes founds after rest more less)
    ∙ sym also
