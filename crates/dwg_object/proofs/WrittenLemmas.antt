-- Objects as they are written by their parts: by no more bytes than they were read from, and so that they are cut into these parts again.
use Rattle.std.proofs.Common.{◌≡◌, refl, sym, ◌∙◌, ap, subst, ℕ, ◌+◌, ◌*◌, ◌%◌, ◌^◌, ◌<◌, ◌≤◌, Bool, List, ◌++◌, length, arith}
use Rattle.dwg_base.specs.declared.version.Version.{Version}
use Rattle.dwg_base.specs.declared.version.Version.TheVariants.{Ac1014, Ac1015}
use Rattle.dwg_common.specs.CommonLaws.{entity_narrower, object_narrower, entity_sizes_alike, object_sizes_alike}
use Rattle.dwg_common.specs.declared.bit_layout.Layout.{Layout}
use Rattle.dwg_object.specs.declared.common.Common.TheVariants.{Entity, Object}
use Rattle.std.proofs.lemmas.List.{append_assoc, length-append}
use Rattle.dwg_bits.specs.Bits.{bits}
use Rattle.dwg_bits.proofs.BitLaws.{length_of_bits}
use Rattle.dwg_bits.proofs.PaddingLaw.{padding_fills}
use Rattle.dwg_bits.specs.Sink.{padding}
use Rattle.dwg_bits.specs.WholeBytes.{whole_bytes}
use Rattle.dwg_bits.proofs.WholeBytes.{bits_of_whole, length_of_whole}
use Rattle.dwg_classes.specs.declared.class.Class.{Class}
use Rattle.dwg_grammar.specs.Codes.{bs}
use Rattle.dwg_grammar.proofs.NumberLemmas.{length_of_rl}
use Rattle.dwg_grammar.specs.ReferenceCodes.{own_handle}
use Rattle.dwg_kinds.specs.Kinds.{is_entity_kind}
use Rattle.dwg_object.specs.declared.common.Common.{Common}
use Rattle.dwg_object.specs.Objects.{is_of_entity}
use Rattle.dwg_object.proofs.CommonForms.{common_is_body, common_of_entity, common_may_follow, fits_of_common, layout_small, size_of_form}
use Rattle.dwg_object.specs.Forms.{CommonForm, kind_under, common_part, layout_in}
use Rattle.dwg_object.specs.Heads.{head, head_size, size_given}
use Rattle.dwg_object.proofs.HeadLemmas.{head_is_code}
use Rattle.dwg_object.specs.Written.{common_main, common_refs, written_size, main_size, written_head, sized_main, prefix_bits, refs_bits, object_bits, object_bytes}

-- a bit size of a head is as long as another
sizes_long : (version : Version) (size other : ℕ) → length ((head_size version).short size) ≡ length ((head_size version).short other)
sizes_long Ac1014 size other = refl
sizes_long Ac1015 size other = length_of_rl size ∙ sym (length_of_rl other)

-- a head is written by as many bits whatever its bit size
pub head_as_long : (version : Version) (number handle size other : ℕ)
    → length ((head version).short (record { number = number; size = size; own = handle })) ≡ length ((head version).short (record { number = number; size = other; own = handle }))
unfolding head
head_as_long version number handle size other =
    omega (
      arith,
      length-append (bs.short number) ((head_size version).short size ++ own_handle.short handle),
      length-append ((head_size version).short size) (own_handle.short handle),
      sizes_long version size other,
      length-append (bs.short number) ((head_size version).short other ++ own_handle.short handle),
      length-append ((head_size version).short other) (own_handle.short handle),
    )

-- a common part takes each bit size alike: it fits by all or by none, and is written by as many main bits and by the same references
pub record IsAlike (version : Version) (size handle : ℕ) (common : Common) : Type 0 where
  pub fits : (common_part (layout_in version 0) (is_of_entity common) handle).Fits common → (common_part (layout_in version size) (is_of_entity common) handle).Fits common
  pub unsized : (common_part (layout_in version size) (is_of_entity common) handle).Fits common → (common_part (layout_in version 0) (is_of_entity common) handle).Fits common
  pub main : length (common_main (layout_in version 0) handle common) ≡ length (common_main (layout_in version size) handle common)
  pub references : common_refs (layout_in version 0) handle common ≡ common_refs (layout_in version size) handle common

pub sizes_alike : (version : Version) (size handle : ℕ) (common : Common) → IsAlike version size handle common
sizes_alike Ac1015 size handle common = record { fits = λ fits. fits; unsized = λ fits. fits; main = refl; references = refl }
sizes_alike Ac1014 size handle (Entity common) = record {
  fits = λ fits. (fits.0, fits.1, (entity_sizes_alike size handle fits.0).fits.0 fits.2);
  unsized = λ fits. (fits.0, fits.1, (entity_sizes_alike size handle fits.0).fits.1 fits.2);
  main = (entity_sizes_alike size handle common).main;
  references = (entity_sizes_alike size handle common).references;
}
sizes_alike Ac1014 size handle (Object common) = record {
  fits = λ fits. (fits.0, fits.1, (object_sizes_alike size handle fits.0).fits.0 fits.2);
  unsized = λ fits. (fits.0, fits.1, (object_sizes_alike size handle fits.0).fits.1 fits.2);
  main = (object_sizes_alike size handle common).main;
  references = (object_sizes_alike size handle common).references;
}

-- so it fits with a bit size, and has as many main bits, as with size 0
pub sized_fits : (version : Version) (size handle : ℕ) (common : Common) → (common_part (layout_in version 0) (is_of_entity common) handle).Fits common
    → (common_part (layout_in version size) (is_of_entity common) handle).Fits common
sized_fits version size handle common fits = (sizes_alike version size handle common).fits fits

pub sized_long : (version : Version) (size handle : ℕ) (common : Common)
    → length (common_main (layout_in version size) handle common) ≡ length (common_main (layout_in version 0) handle common)
sized_long version size handle common = sym (sizes_alike version size handle common).main

-- the head that is written has as many bits as one with size 0
pub head_long_written : (version : Version) (number handle size : ℕ)
    → length ((head version).short (written_head version number handle size)) ≡ length ((head version).short (record { number = number; size = 0; own = handle }))
head_long_written version number handle size = head_as_long version number handle (size_given version size) 0

-- what a common part can be in AC1014 it can be in AC1015
pub common_narrower : (version : Version) (handle : ℕ) (common : Common) → (common_part (layout_in version 0) (is_of_entity common) handle).Fits common
    → (common_part (layout_in Ac1015 0) (is_of_entity common) handle).Fits common
common_narrower Ac1015 handle common fits = fits
common_narrower Ac1014 handle (Entity common) fits = (fits.0, fits.1, entity_narrower handle fits.0 fits.2)
common_narrower Ac1014 handle (Object common) fits = (fits.0, fits.1, object_narrower handle fits.0 fits.2)

-- with a bit size as many bits stand before the references as with another
pub main_long : (version : Version) (size number handle : ℕ) (common : Common) (own : List Bool)
    → length (sized_main version size number handle common own)
    ≡ length ((head version).short (record { number = number; size = 0; own = handle })) + length (common_main (layout_in version 0) handle common) + length own
main_long version size number handle common own =
    omega (
      arith,
      length-append ((head version).short (written_head version number handle size)) (common_main (layout_in version size) handle common ++ own),
      length-append (common_main (layout_in version size) handle common) own,
      head_as_long version number handle (size_given version size) 0,
      (sizes_alike version size handle common).main,
    )

-- how many bits stand before the references: as many as the head says
pub prefix_long : (version : Version) (number handle : ℕ) (common : Common) (own : List Bool)
    → length (prefix_bits version number handle common own)
    ≡ length ((head version).short (record { number = number; size = 0; own = handle })) + length (common_main (layout_in version 0) handle common) + length own
unfolding prefix_bits
prefix_long version number handle common own = main_long version (main_size version number handle common own) number handle common own

-- that is the bit size
pub prefix_sized : (version : Version) (number handle : ℕ) (common : Common) (own : List Bool) → length (prefix_bits version number handle common own) ≡ main_size version number handle common own
unfolding written_size
prefix_sized version number handle common own =
    omega (arith, prefix_long version number handle common own, length-append (common_main (layout_in version 0) handle common) own)

-- how many are the references
pub refs_long : (version : Version) (handle : ℕ) (common : Common) (own_refs : List Bool)
    → length (refs_bits version handle common own_refs) ≡ length (common_refs (layout_in version 0) handle common) + length own_refs
unfolding refs_bits
refs_long version handle common own_refs = length-append (common_refs (layout_in version 0) handle common) own_refs

-- and both
pub object_long : (version : Version) (number handle : ℕ) (common : Common) (own own_refs : List Bool)
    → length (object_bits version number handle common own own_refs) ≡ length (prefix_bits version number handle common own) + length (refs_bits version handle common own_refs)
object_long version number handle common own own_refs = length-append (prefix_bits version number handle common own) (refs_bits version handle common own_refs)

pub length_of_object : (version : Version) (number handle : ℕ) (common : Common) (own own_refs : List Bool)
    → length (object_bits version number handle common own own_refs)
    ≡ length ((head version).short (record { number = number; size = 0; own = handle })) + length (common_main (layout_in version 0) handle common) + length own
    + length (common_refs (layout_in version 0) handle common) + length own_refs
length_of_object version number handle common own own_refs =
    omega (arith, object_long version number handle common own own_refs, prefix_long version number handle common own, refs_long version handle common own_refs)

-- whole bytes hold the bits that fill them and fewer than eight more
pub record IsPadded (count : ℕ) (bytes : List ℕ) : Type 0 where
  pub enough : count ≤ 8 * length bytes
  pub few : 8 * length bytes < count + 8

pub bytes_padded : (letters : List Bool) → IsPadded (length letters) (whole_bytes (letters ++ padding letters))
bytes_padded letters =
    let fills = padding_fills letters in
    let joined : length (letters ++ padding letters) ≡ length letters + length (padding letters) = length-append letters (padding letters) in
    let whole : length (letters ++ padding letters) % 8 ≡ 0 = ap (λ n. n % 8) joined ∙ fills.0 in
    let long = length_of_whole (letters ++ padding letters) whole in
    record { enough = omega (arith, long, joined); few = omega (arith, long, joined, fills.1) }

-- and their bits are these
pub bits_padded : (letters : List Bool) → bits (whole_bytes (letters ++ padding letters)) ≡ letters ++ padding letters
bits_padded letters =
    bits_of_whole (letters ++ padding letters) (ap (λ n. n % 8) (length-append letters (padding letters)) ∙ (padding_fills letters).0)

-- a common part that was read fits, and is an entity's where the kind is; it is written by no more bits
pub record IsFittingCommon (version : Version) (entity : Bool) (handle : ℕ) (common : Common) (main references : List Bool) : Type 0 where
  pub same : is_of_entity common ≡ entity
  pub fits : (common_part (layout_in version 0) (is_of_entity common) handle).Fits common
  pub fewer : length (common_main (layout_in version 0) handle common) ≤ length main
  pub fewer_refs : length (common_refs (layout_in version 0) handle common) ≤ length references

pub common_fits : {version : Version} {classes : List Class} {body : List ℕ} {number handle : ℕ} {common : Common} {own after : List Bool} (is : CommonForm version classes body number handle common own after)
    → IsFittingCommon version (is_entity_kind (kind_under classes number)) handle common is.common_main is.common_refs
common_fits {version} {classes} {number = number} {handle = handle} {common = common} {after = after} is =
    let entity : Bool = is_entity_kind (kind_under classes number) in
    let layout : Layout = layout_in version is.size in
    let part = common_is_body layout entity handle (layout_small version is.size (size_of_form is)) (fits_of_common is).own in
    let over : ℕ = length after in
    let same : is_of_entity common ≡ entity = common_of_entity layout entity handle common is.common_main is.common_refs over is.common_spelled in
    let alike = sizes_alike version is.size handle common in
    let fewer : length (common_main layout handle common) ≤ length is.common_main =
    subst (λ (e : Bool). length ((common_part layout e handle).short_main common) ≤ length is.common_main) (sym same)
    (part.least_main common is.common_main is.common_refs over is.common_spelled) in
    let fewer_refs : length (common_refs layout handle common) ≤ length is.common_refs =
    subst (λ (e : Bool). length ((common_part layout e handle).short_references common) ≤ length is.common_refs) (sym same)
    (part.least_references common is.common_main is.common_refs over is.common_spelled) in
    record {
      same = same;
      fits = alike.unsized (subst (λ (e : Bool). (common_part layout e handle).Fits common) (sym same) (part.value common is.common_main is.common_refs over is.common_spelled));
      fewer = omega (arith, fewer, alike.main);
      fewer_refs = omega (arith, fewer_refs, ap length alike.references);
    }

-- what own bits and own references were read as is written by no more bytes than the body, where they are written by no more bits
pub object_short : {version : Version} {classes : List Class} {body : List ℕ} {number handle : ℕ} {common : Common} {own after : List Bool} (written written_refs : List Bool)
    → CommonForm version classes body number handle common own after → length written ≤ length own → length written_refs ≤ length after
    → length (object_bytes version number handle common written written_refs) ≤ length body
object_short {version} {classes} {body} {number} {handle} {common} {own} {after} written written_refs is fewer fewer_refs =
    let common_fewer = common_fits is in
    let padded = bytes_padded (object_bits version number handle common written written_refs) in
    let bits_fewer : length (object_bits version number handle common written written_refs) ≤ 8 * length body =
    omega (
      arith,
      length_of_object version number handle common written written_refs,
      head_as_long version number handle (size_given version is.size) 0,
      (head_is_code version).least is.head_bits (record { number = number; size = size_given version is.size; own = handle }) is.head_spelled,
      common_fewer.fewer,
      common_fewer.fewer_refs,
      fewer,
      fewer_refs,
      length_of_bits body,
      ap length is.whole,
      length-append (is.head_bits ++ (is.common_main ++ own)) (is.common_refs ++ after),
      length-append is.head_bits (is.common_main ++ own),
      length-append is.common_main own,
      length-append is.common_refs after,
    ) in
    omega (arith, padded.few, bits_fewer)

-- the bits that are written, with those that fill them up, in their parts
written_whole : (version : Version) (number handle : ℕ) (common : Common) (own own_refs fill : List Bool)
    → object_bits version number handle common own own_refs ++ fill
    ≡ sized_main version (main_size version number handle common own) number handle common own ++ (common_refs (layout_in version (main_size version number handle common own)) handle common ++ (own_refs ++ fill))
unfolding prefix_bits refs_bits
written_whole version number handle common own own_refs fill =
    let size : ℕ = main_size version number handle common own in
    let prefix : List Bool = sized_main version size number handle common own in
    append_assoc prefix (common_refs (layout_in version 0) handle common ++ own_refs) fill
    ∙ ap (λ after. prefix ++ after) (append_assoc (common_refs (layout_in version 0) handle common) own_refs fill)
    ∙ ap (λ (names : List Bool). prefix ++ (names ++ (own_refs ++ fill))) (sizes_alike version size handle common).references

-- the head that is written says how many bits stand before the references
written_filled : (version : Version) (number handle : ℕ) (common : Common) (own : List Bool)
    → length (sized_main version (main_size version number handle common own) number handle common own) ≡ main_size version number handle common own
unfolding prefix_bits
written_filled version number handle common own = prefix_sized version number handle common own

-- the parts of an object that is written by them lie in their ranges
pub record AreWritten (version : Version) (number handle : ℕ) (common : Common) : Type 0 where
  pub number_fits : number < 2 ^ 16
  pub positive : 0 < handle
  pub handle_fits : handle < 2 ^ 63
  pub common_fits : (common_part (layout_in version 0) (is_of_entity common) handle).Fits common

-- what is reported of a bit size of an RL is one of a head
reported_value : (version : Version) (size : ℕ) → size < 2 ^ 32 → (head_size version).IsValue (size_given version size)
reported_value Ac1014 size small = refl
reported_value Ac1015 size small = small

-- its bit size is one of an RL
written_small : (version : Version) (number handle : ℕ) (common : Common) (own own_refs : List Bool) → length (object_bits version number handle common own own_refs) < 2 ^ 32
    → main_size version number handle common own < 2 ^ 32
written_small version number handle common own own_refs small = omega (arith, small, object_long version number handle common own own_refs, prefix_sized version number handle common own)

-- its head is spelled
written_spelled : (version : Version) (number handle size : ℕ) → number < 2 ^ 16 → 0 < handle → handle < 2 ^ 63 → size < 2 ^ 32
    → (head version).Spells (written_head version number handle size) ((head version).short (written_head version number handle size))
unfolding head
written_spelled version number handle size few positive own small =
    (head_is_code version).canonical (written_head version number handle size) (record { number = few; size = reported_value version size small; positive = positive; own = own })

-- what is written is cut into these parts, after which the bits stand that fill it up
pub common_form_written : (version : Version) (classes : List Class) (number handle : ℕ) (common : Common) (own own_refs : List Bool) → AreWritten version number handle common
    → is_of_entity common ≡ is_entity_kind (kind_under classes number) → length (object_bytes version number handle common own own_refs) < 2 ^ 29
    → CommonForm version classes (object_bytes version number handle common own own_refs) number handle common own (own_refs ++ padding (object_bits version number handle common own own_refs))
common_form_written version classes number handle common own own_refs is entity small =
    let letters : List Bool = object_bits version number handle common own own_refs in
    let size : ℕ = main_size version number handle common own in
    let layout : Layout = layout_in version size in
    let padded = bytes_padded letters in
    let few = written_small version number handle common own own_refs (omega (arith, padded.enough, small)) in
    let part = common_is_body layout (is_of_entity common) handle (layout_small version size few) is.handle_fits in
    let over : ℕ = length (own_refs ++ padding letters) in
    record {
      size = size;
      head_bits = (head version).short (written_head version number handle size);
      common_main = common_main layout handle common;
      common_refs = common_refs layout handle common;
      whole = bits_padded letters ∙ written_whole version number handle common own own_refs (padding letters);
      head_spelled = written_spelled version number handle size is.number_fits is.positive is.handle_fits few;
      common_spelled =
          subst (λ (e : Bool). (common_part layout e handle).Spells common (common_main layout handle common) (common_refs layout handle common) over) entity
          (part.canonical common over ((sizes_alike version size handle common).fits is.common_fits) (common_may_follow layout (is_of_entity common) handle over));
      filled = written_filled version number handle common own;
    }
