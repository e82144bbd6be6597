-- What stands in a canonical file beside a frame that is damaged: it stands in the damaged input too.
use Rattle.std.proofs.Common.{◌≡◌, refl, sym, ◌∙◌, ap, subst, inl, inr, ℕ, ◌+◌, ◌≤◌, List, [], ◌∷◌, ◌++◌, length, length-append, arith}
use Rattle.dwg_base.specs.declared.version.Version.{Version}
use Rattle.std.specs.Prelude.{map, AllPairs}
use Rattle.std.specs.Int.{w16, to_le_bytes}
use Rattle.std.specs.List.{AllByRecursion}
use Rattle.std.proofs.lemmas.List.{map-append}
use Rattle.dwg_base.specs.Bytes.{StandsAt}
use Rattle.dwg_base.specs.Devices.{MOST_BYTES}
use Rattle.dwg_base.specs.Versions.{version_at}
use Rattle.dwg_check.specs.CheckWord.{CHECK_SEED, check_word}
use Rattle.dwg_classes.specs.declared.class.Class.{Class}
use Rattle.dwg_object.specs.Forms.{FormOf}
use Rattle.dwg_object.specs.Frames.{frame_bytes, framed_body}
use Rattle.dwg_object.proofs.StandingLemmas.{drop_stands}
use Rattle.dwg_object.specs.Objects.{ObjectValue}
use Rattle.dwg_objmap.proofs.FillingLemmas.{map_is_written}
use Rattle.dwg_objmap.specs.Pages.{MapOf}
use Rattle.dwg_sections.specs.declared.framed.Framed.TheVariants.{Variables, Classes}
use Rattle.dwg_sections.specs.FileHeader.{BeginsWithHeader, header_bytes}
use Rattle.dwg_sections.specs.Framed.{FramedAt, framed_bytes}
use Rattle.dwg_sections.proofs.HeaderComplete.{header_gives_version}
use Rattle.dwg_file.specs.Canonical.{Carried, IsCarried, canonical_with, class_content, classes_place, frames_bytes, header_with, map_with, map_place_with, objects_place_with, others_place_with, placed, preview_place, size_with, variables_place}
use Rattle.dwg_file.specs.CanonicalFrames.{canonical_frames_with, frames_from}
use Rattle.dwg_file.proofs.CanonicalFrames.{frames_apart, frames_stand, pairs_of_frames}
use Rattle.dwg_file.proofs.CanonicalHeader.{header_fits}
use Rattle.dwg_file.proofs.CanonicalLaws.{canonical_ascends, carrying_is_counted, canonical_version, header_reaches, parts_stand}
use Rattle.dwg_file.specs.CanonicalBytes.{HasPart}
use Rattle.dwg_file.proofs.CanonicalParts.{length_of_framed}
use Rattle.dwg_file.specs.Contents.{Contents}
use Rattle.dwg_file.specs.ShortDamage.{AllElseIsSame, IsDamagedShortly}
use Rattle.dwg_file.specs.Spelled.{PairFrame, IsFrameOfPair, AreApart}
use Rattle.dwg_file.proofs.Splices.{IsSpliced, same_part, spliced_long, stands_still}
use Rattle.dwg_file.specs.Valid.{IsValid}
use Rattle.dwg_file.proofs.WrittenFrames.{all_of_prefix, lies_among, pairs_of_prefix}

-- the damaged input has in the middle other bytes than the canonical file
abbrev pub damaged_spliced : (carried : Carried) (drawing : Contents) (frame : PairFrame) (bytes : List ℕ) (is : IsDamagedShortly carried drawing frame bytes)
    → IsSpliced (canonical_with carried drawing) bytes (length is.differ.before) (length is.differ.before + length is.differ.here)
damaged_spliced carried drawing frame bytes is =
    let differ = is.differ in record { before = differ.before; here = differ.here; there = differ.there; after = differ.after; first = differ.first; second = differ.second; long = differ.long; begins = refl; ends = refl }

-- places that are in order, the last of them in the file
pub record AreInOrder (most : ℕ) (frame : PairFrame) : Type 0 where
  pub order : frame.pair.place ≤ frame.end
  pub within : frame.end ≤ most

-- each frame of objects one after the other is
frames_in_order : (version : Version) (objects : List ObjectValue) (place most : ℕ) → place + length (frames_bytes version objects) ≤ most → AllByRecursion (AreInOrder most) (frames_from version place objects)
frames_in_order version [] place most fits = tt
frames_in_order version (object ∷ objects) place most fits =
    let long : length (frames_bytes version (object ∷ objects)) ≡ length (frame_bytes version object) + length (frames_bytes version objects) = length-append (frame_bytes version object) (frames_bytes version objects) in
    (record { order = omega arith; within = omega (arith, fits, long) }, frames_in_order version objects (place + length (frame_bytes version object)) most (omega (arith, fits, long)))

-- frames that end before the damage are as they were
before_same : (carried : Carried) (drawing : Contents) (bytes : List ℕ) (from to : ℕ) → IsSpliced (canonical_with carried drawing) bytes from to → (limit : ℕ) → limit ≤ from → (frames : List PairFrame)
    → AllByRecursion (AreInOrder (length (canonical_with carried drawing))) frames → AllByRecursion (λ (one : PairFrame). one.end ≤ limit) frames
    → AllByRecursion (λ (one : PairFrame). HasPart carried drawing bytes one.pair.place one.end) frames
before_same carried drawing bytes from to is limit ahead [] are end = tt
before_same carried drawing bytes from to is limit ahead (one ∷ frames) are end = (
  same_part (canonical_with carried drawing) bytes from to is one.pair.place one.end are.0.order are.0.within (inl (omega (arith, ahead, end.0))),
  before_same carried drawing bytes from to is limit ahead frames are.1 end.1,
)

-- so are those that begin after it
after_same : (carried : Carried) (drawing : Contents) (bytes : List ℕ) (from to : ℕ) → IsSpliced (canonical_with carried drawing) bytes from to → (limit : ℕ) → to ≤ limit → (frames : List PairFrame)
    → AllByRecursion (AreInOrder (length (canonical_with carried drawing))) frames → AllByRecursion (λ (one : PairFrame). limit ≤ one.pair.place) frames
    → AllByRecursion (λ (one : PairFrame). HasPart carried drawing bytes one.pair.place one.end) frames
after_same carried drawing bytes from to is limit past [] are begin = tt
after_same carried drawing bytes from to is limit past (one ∷ frames) are begin = (
  same_part (canonical_with carried drawing) bytes from to is one.pair.place one.end are.0.order are.0.within (inr (omega (arith, past, begin.0))),
  after_same carried drawing bytes from to is limit past frames are.1 begin.1,
)

-- so it has
pub else_is_same : AllElseIsSame
else_is_same carried drawing bytes earlier frame later kept is small whole damaged =
    let splice = damaged_spliced carried drawing frame bytes damaged in
    let from : ℕ = length damaged.differ.before in
    let to : ℕ = length damaged.differ.before + length damaged.differ.here in
    let among = lies_among drawing.version drawing.objects (objects_place_with carried drawing) earlier frame later whole in
    let size : length (canonical_with carried drawing) ≡ size_with carried drawing = (carrying_is_counted carried drawing kept is small).0 in
    let ahead : frame.pair.place ≤ from = omega (arith, damaged.from) in
    let past : to ≤ frame.end = damaged.to in
    let stays = same_part (canonical_with carried drawing) bytes from to splice in
    let orders = all_of_prefix (AreInOrder (length (canonical_with carried drawing))) earlier (frame ∷ later)
    (subst (AllByRecursion (AreInOrder (length (canonical_with carried drawing)))) whole
    (frames_in_order drawing.version drawing.objects (objects_place_with carried drawing) (length (canonical_with carried drawing)) (omega (arith, size)))) in
    record {
      long = spliced_long (canonical_with carried drawing) bytes from to splice;
      header = stays 0 (variables_place drawing) (omega arith) (omega (arith, size)) (inl (omega (arith, ahead, among.from)));
      variables = stays (variables_place drawing) (classes_place drawing) (omega arith) (omega (arith, size)) (inl (omega (arith, ahead, among.from)));
      classes = stays (classes_place drawing) (preview_place drawing) (omega arith) (omega (arith, size)) (inl (omega (arith, ahead, among.from)));
      preview = stays (preview_place drawing) (objects_place_with carried drawing) (omega arith) (omega (arith, size)) (inl (omega (arith, ahead, among.from)));
      mapped = stays (map_place_with carried drawing) (others_place_with carried drawing) (omega arith) (omega (arith, size)) (inr (omega (arith, past, among.to)));
      others = stays (others_place_with carried drawing) (size_with carried drawing) (omega arith) (omega (arith, size)) (inr (omega (arith, past, among.to)));
      before = before_same carried drawing bytes from to splice frame.pair.place ahead earlier orders.0 among.before;
      after = after_same carried drawing bytes from to splice frame.end past later orders.1.1 among.after;
    }

-- so header, framed sections and map stand in the damaged input
pub record DamagedStands (carried : Carried) (drawing : Contents) (bytes : List ℕ) : Type 0 where
  pub begins : BeginsWithHeader bytes (header_with carried drawing)
  pub variables : FramedAt bytes (variables_place drawing) Variables drawing.variables
  pub classes : FramedAt bytes (classes_place drawing) Classes (class_content drawing.classes)
  pub mapped : MapOf bytes (map_place_with carried drawing) (placed drawing.version (objects_place_with carried drawing) drawing.objects)

pub damaged_stands : (carried : Carried) (drawing : Contents) (bytes : List ℕ) (earlier : List PairFrame) (frame : PairFrame) (later : List PairFrame) → IsCarried carried → IsValid drawing → size_with carried drawing ≤ MOST_BYTES
    → canonical_frames_with carried drawing ≡ earlier ++ frame ∷ later → IsDamagedShortly carried drawing frame bytes → DamagedStands carried drawing bytes
damaged_stands carried drawing bytes earlier frame later kept is small whole damaged =
    let fits = header_fits carried drawing is small in
    let stand = parts_stand carried drawing kept small fits in
    let from : ℕ = length damaged.differ.before in
    let to : ℕ = length damaged.differ.before + length damaged.differ.here in
    let among = lies_among drawing.version drawing.objects (objects_place_with carried drawing) earlier frame later whole in
    let ahead : objects_place_with carried drawing ≤ from = omega (arith, damaged.from, among.from) in
    let past : to ≤ map_place_with carried drawing = omega (arith, damaged.to, among.to) in
    let still = stands_still (canonical_with carried drawing) bytes from to (damaged_spliced carried drawing frame bytes damaged) in
    let header : List ℕ = header_bytes (header_with carried drawing) in
    let variables : List ℕ = framed_bytes Variables drawing.variables in
    let classes : List ℕ = framed_bytes Classes (class_content drawing.classes) in
    let first : StandsAt (canonical_with carried drawing) 0 header = record { before = []; after = stand.begins.0; whole = stand.begins.1; far = refl } in
    let prefix : StandsAt bytes 0 header = still 0 header first (inl (omega (arith, ahead, header_reaches carried drawing fits))) in
    record {
      begins = record { in_range = fits; stands = (prefix.after, drop_stands bytes 0 header prefix) };
      variables = record {
        size = omega arith;
        stands = still (variables_place drawing) variables stand.variables (inl (omega (arith, ahead, length_of_framed Variables drawing.variables)));
      };
      classes = record {
        size = omega arith;
        stands = still (classes_place drawing) classes stand.classes (inl (omega (arith, ahead, length_of_framed Classes (class_content drawing.classes))));
      };
      mapped =
          map_is_written (map_place_with carried drawing) bytes (placed drawing.version (objects_place_with carried drawing) drawing.objects) (canonical_ascends carried drawing kept is)
          (still (map_place_with carried drawing) (map_with carried drawing) stand.mapped (inr past));
    }

-- a frame that ends before the damage stands there still, where the version is as it was
frame_still : (classes : List Class) (one other : List ℕ) (from to : ℕ) → version_at one ≡ version_at other → IsSpliced one other from to → (frame : PairFrame) → frame.end ≤ from → IsFrameOfPair classes one frame
    → IsFrameOfPair classes other frame
frame_still classes one other from to same splice frame ahead is =
    let piece : List ℕ = framed_body is.stands.size frame.body in
    let prefix : List ℕ = is.stands.size ++ frame.body in
    let long : length piece ≡ length is.stands.size + length frame.body + 2 =
    length-append prefix (to_le_bytes w16 (check_word CHECK_SEED prefix)) ∙ ap (λ n. n + 2) (length-append is.stands.size frame.body) in
    record {
      stands = record {
        size = is.stands.size;
        spelled = is.stands.spelled;
        stands = stands_still one other from to splice frame.pair.place piece is.stands.stands (inl (omega (arith, long, ahead, is.stands.ends)));
        ends = is.stands.ends;
      };
      form = subst (λ (v : Version). FormOf v classes frame.body frame.object) same is.form;
      own = is.own;
    }

-- so do all that do
frames_still : (classes : List Class) (one other : List ℕ) (from to : ℕ) → version_at one ≡ version_at other → IsSpliced one other from to → (limit : ℕ) → limit ≤ from → (frames : List PairFrame)
    → AllByRecursion (λ (frame : PairFrame). frame.end ≤ limit) frames → AllByRecursion (IsFrameOfPair classes one) frames → AllByRecursion (IsFrameOfPair classes other) frames
frames_still classes one other from to same splice limit ahead [] end are = tt
frames_still classes one other from to same splice limit ahead (frame ∷ frames) end are = (
  frame_still classes one other from to same splice frame (omega (arith, ahead, end.0)) are.0,
  frames_still classes one other from to same splice limit ahead frames end.1 are.1,
)

-- the earlier frames stand in the damaged input, share no byte, and end before the damaged one
pub record EarlierStand (carried : Carried) (drawing : Contents) (bytes : List ℕ) (earlier : List PairFrame) (frame : PairFrame) (later : List PairFrame) : Type 0 where
  pub stand : AllByRecursion (IsFrameOfPair drawing.classes bytes) earlier
  pub apart : AllPairs AreApart earlier
  pub before : AllByRecursion (λ (one : PairFrame). one.end ≤ frame.pair.place) earlier
  pub whole : placed drawing.version (objects_place_with carried drawing) drawing.objects ≡ map (λ (one : PairFrame). one.pair) earlier ++ frame.pair ∷ map (λ (one : PairFrame). one.pair) later

pub earlier_stand : (carried : Carried) (drawing : Contents) (bytes : List ℕ) (earlier : List PairFrame) (frame : PairFrame) (later : List PairFrame) → IsCarried carried → IsValid drawing → size_with carried drawing ≤ MOST_BYTES
    → canonical_frames_with carried drawing ≡ earlier ++ frame ∷ later → IsDamagedShortly carried drawing frame bytes → EarlierStand carried drawing bytes earlier frame later
earlier_stand carried drawing bytes earlier frame later kept is small whole damaged =
    let fits = header_fits carried drawing is small in
    let stand = parts_stand carried drawing kept small fits in
    let among = lies_among drawing.version drawing.objects (objects_place_with carried drawing) earlier frame later whole in
    let own = canonical_version carried drawing kept small fits in
    let same : version_at (canonical_with carried drawing) ≡ version_at bytes =
    sym own ∙ header_gives_version bytes (header_with carried drawing) (damaged_stands carried drawing bytes earlier frame later kept is small whole damaged).begins in
    let all = frames_stand drawing.version drawing.classes (canonical_with carried drawing) drawing.objects (objects_place_with carried drawing) own is.objects stand.frames in
    let to : ℕ = length damaged.differ.before + length damaged.differ.here in
    record {
      stand =
          frames_still drawing.classes (canonical_with carried drawing) bytes (length damaged.differ.before) to same (damaged_spliced carried drawing frame bytes damaged) frame.pair.place (omega (arith, damaged.from)) earlier
          among.before
          (all_of_prefix (IsFrameOfPair drawing.classes (canonical_with carried drawing)) earlier (frame ∷ later)
          (subst (AllByRecursion (IsFrameOfPair drawing.classes (canonical_with carried drawing))) whole all)).0;
      apart = pairs_of_prefix AreApart earlier (frame ∷ later) (subst (AllPairs AreApart) whole (frames_apart drawing.version drawing.objects (objects_place_with carried drawing)));
      before = among.before;
      whole =
          pairs_of_frames drawing.version drawing.objects (objects_place_with carried drawing) ∙ ap (map (λ (one : PairFrame). one.pair)) whole
          ∙ map-append (λ (one : PairFrame). one.pair) earlier (frame ∷ later);
    }
