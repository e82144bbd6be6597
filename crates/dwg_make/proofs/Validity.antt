-- What is made is valid.
use Rattle.std.proofs.Common.{◌≡◌, refl, ℕ, ◌+◌, ◌*◌, ◌^◌, ◌≤◌, ◌<◌, List, [], ◌∷◌, ◌++◌, length, arith}
use Rattle.dwg_base.specs.declared.version.Version.TheVariants.{Ac1015}
use Rattle.std.specs.Prelude.{map}
use Rattle.std.specs.List.{AllByRecursion, range_with_len}
use Rattle.std.proofs.lemmas.List.{length-append}
use Rattle.std.proofs.lemmas.List.FromFn.{length-map-range_with_len}
use Rattle.dwg_base.specs.Devices.{MOST_BYTES}
use Rattle.dwg_bits.specs.WholeBytes.{whole_bytes}
use Rattle.dwg_object.proofs.FormLaws.{length_of_frame}
use Rattle.dwg_object.specs.Frames.{frame_bytes}
use Rattle.dwg_object.specs.Objects.{ObjectValue}
use Rattle.dwg_object.specs.Written.{body_bytes}
use Rattle.dwg_file.specs.Canonical.{class_content, frames_bytes, placed, objects_place, size_of}
use Rattle.dwg_file.proofs.MapSize.{map_short}
use Rattle.dwg_file.proofs.ObjectSize.{IsSmall, small_valid, size_short, length_of_placed}
use Rattle.dwg_file.specs.Valid.{IsValid}
use Rattle.dwg_make.specs.Fixed.{controls, dictionaries, table_entries, model_space, paper_space, tag_block, tag_insert, fixed_objects}
use Rattle.dwg_make.specs.RandomEntities.{further_entity}
use Rattle.dwg_make.specs.Made.{made}
use Rattle.dwg_make.proofs.ObjectsMade.{BODY_BYTES}
use Rattle.dwg_make.proofs.Ascending.{all_ascend}
use Rattle.dwg_make.proofs.FixedBlocks.{model_space_small, paper_space_small, tag_block_small, tag_insert_small}
use Rattle.dwg_make.proofs.FixedObjects.{controls_small, dictionaries_small, entries_small}
use Rattle.dwg_make.proofs.FurtherObjects.{all_further}
use Rattle.dwg_make.proofs.FurtherSizes.{further_frames_short}
use Rattle.dwg_make.proofs.TablesMade.{zeros_are_bytes}

-- small objects after small objects
joined_small : (prefix back : List ObjectValue) → AllByRecursion (IsSmall Ac1015 [] BODY_BYTES) prefix → AllByRecursion (IsSmall Ac1015 [] BODY_BYTES) back → AllByRecursion (IsSmall Ac1015 [] BODY_BYTES) (prefix ++ back)
joined_small [] back small others = others
joined_small (object ∷ prefix) back small others = (small.0, joined_small prefix back small.1 others)

-- the fixed objects, and all objects
fixed_small : (count : ℕ) → count < 2 ^ 20 → AllByRecursion (IsSmall Ac1015 [] BODY_BYTES) (fixed_objects count)
unfolding fixed_objects
fixed_small count few =
    joined_small _ tag_insert
    (joined_small _ tag_block
    (joined_small _ paper_space
    (joined_small _ (model_space count)
    (joined_small _ table_entries (joined_small controls dictionaries controls_small dictionaries_small) entries_small) (model_space_small count few))
    paper_space_small) tag_block_small) tag_insert_small

fixed_count : (count : ℕ) → length (fixed_objects count) ≡ 29
unfolding fixed_objects controls dictionaries table_entries model_space paper_space tag_block tag_insert
fixed_count count = refl

-- no classes have no content
no_content : length (class_content []) ≡ 0
unfolding whole_bytes
no_content = refl

-- the frames of objects after objects
frames_joined : (prefix back : List ObjectValue) → length (frames_bytes Ac1015 (prefix ++ back)) ≡ length (frames_bytes Ac1015 prefix) + length (frames_bytes Ac1015 back)
frames_joined [] back = omega arith
frames_joined (object ∷ prefix) back =
    omega (
      arith,
      length-append (frame_bytes Ac1015 object) (frames_bytes Ac1015 (prefix ++ back)),
      length-append (frame_bytes Ac1015 object) (frames_bytes Ac1015 prefix),
      frames_joined prefix back,
    )

-- the frames of made objects
frames_short : (objects : List ObjectValue) → AllByRecursion (IsSmall Ac1015 [] BODY_BYTES) objects → length (frames_bytes Ac1015 objects) ≤ 32790 * length objects
frames_short [] small = omega arith
frames_short (object ∷ objects) small =
    omega (
      arith,
      small.0.few,
      length_of_frame Ac1015 object,
      size_short (length (body_bytes Ac1015 object)) (omega (arith, small.0.few)),
      length-append (frame_bytes Ac1015 object) (frames_bytes Ac1015 objects),
      frames_short objects small.1,
    )

-- the size of what is made is within the limit
pub made_within : (count seed : ℕ) → count ≤ 200000 → size_of (made count seed) ≤ MOST_BYTES
unfolding made
made_within count seed few =
    let objects : List ObjectValue = fixed_objects count ++ map (further_entity count seed) (range_with_len 1 count) in
    let pairs = placed Ac1015 (objects_place (made count seed)) objects in
    omega (
      arith,
      length-append (fixed_objects count) (map (further_entity count seed) (range_with_len 1 count)),
      fixed_count count,
      length-map-range_with_len (further_entity count seed) 1 count,
      no_content,
      frames_joined (fixed_objects count) (map (further_entity count seed) (range_with_len 1 count)),
      frames_short (fixed_objects count) (fixed_small count (omega arith)),
      further_frames_short count seed 1 count (omega arith),
      map_short pairs,
      length_of_placed Ac1015 (objects_place (made count seed)) objects,
    )

-- so it is valid
pub made_is_valid : (count seed : ℕ) → 0 < count → count ≤ 200000 → seed < 2 ^ 32 → IsValid (made count seed)
unfolding made
made_is_valid count seed some few low =
    let objects : List ObjectValue = fixed_objects count ++ map (further_entity count seed) (range_with_len 1 count) in
    let small : AllByRecursion (IsSmall Ac1015 [] BODY_BYTES) objects =
    joined_small (fixed_objects count) _ (fixed_small count (omega arith)) (all_further count seed 1 count low (omega arith)) in
    record {
      lead = (refl, zeros_are_bytes 7);
      mark = (refl, zeros_are_bytes 2);
      code_page = omega arith;
      variables = tt;
      classes = tt;
      few = omega arith;
      others = tt;
      distinct = λ i j d less within. absurd (omega arith);
      objects = small_valid Ac1015 [] BODY_BYTES objects small;
      ascending = all_ascend count seed;
      size = omega (arith, made_within count seed few);
    }
