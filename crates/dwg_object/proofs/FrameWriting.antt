-- Writing a frame: its length, its body and its check word.
use Rattle.std.proofs.Common.{◌≡◌, sym, ◌∙◌, ap, subst, ℕ, ◌+◌, ◌*◌, ◌/◌, ◌%◌, ◌<◌, ◌≤◌, ◌^◌, Bool, false, List, ◌++◌, length, drop, arith}
use Rattle.dwg_base.specs.declared.version.Version.{Version}
use Rattle.std.specs.Prelude.{replicate}
use Rattle.std.specs.Int.{w16, to_le_bytes}
use Rattle.std.proofs.lemmas.List.{length-append, drop_at}
use Rattle.dwg_base.specs.Bytes.{AreBytes}
use Rattle.dwg_bits.specs.Bits.{bits}
use Rattle.dwg_bits.proofs.BitLaws.{bits_joined, length_of_bits}
use Rattle.dwg_bits.specs.Sink.{Written, Extends, padding, missing_bits}
use Rattle.dwg_bits.proofs.SinkLemmas.{extends_by_both}
use Rattle.dwg_bits.specs.WholeBytes.{whole_bytes}
use Rattle.dwg_bits.proofs.WholeBytes.{whole_joined, whole_of_bits, length_of_whole}
use Rattle.dwg_check.specs.CheckWord.{CHECK_SEED, check_word}
use Rattle.dwg_grammar.specs.ModularCodes.{ms}
use Rattle.dwg_object.specs.declared.common.Common.{Common}
use Rattle.dwg_object.specs.Forms.{layout_in}
use Rattle.dwg_object.specs.Heads.{head}
use Rattle.dwg_object.specs.Frames.{frame_bytes, sized}
use Rattle.dwg_object.proofs.FormLaws.{length_of_frame}
use Rattle.dwg_object.proofs.LengthLemmas.{bytes_joined, length_is_bytes}
use Rattle.dwg_object.specs.Objects.{ObjectValue}
use Rattle.dwg_object.proofs.WrittenLemmas.{prefix_sized, object_long, bytes_padded, bits_padded}
use Rattle.dwg_object.specs.Written.{common_main, common_refs, written_head, sized_main, prefix_bits, refs_bits, object_bits, object_bytes, body_bytes}

-- bytes that were written one after the other
both_written : (first second third : Written) (some others : List ℕ) → Extends first second (bits some) → Extends second third (bits others) → Extends first third (bits (some ++ others))
both_written first second third some others by_some by_others =
    subst (Extends first third) (sym (bits_joined some others)) (extends_by_both first second third (bits some) (bits others) by_some by_others)

-- the bytes of an object whose bits were counted before the references and of these
pub object_counted : (version : Version) (number handle : ℕ) (common : Common) (own own_refs : List Bool) (prefix names : ℕ) → prefix ≡ length (prefix_bits version number handle common own)
    → names ≡ length (refs_bits version handle common own_refs) → (prefix + names + 7) / 8 ≡ length (object_bytes version number handle common own own_refs)
object_counted version number handle common own own_refs prefix names before_it after =
    let padded = bytes_padded (object_bits version number handle common own own_refs) in
    omega (arith, padded.enough, padded.few, object_long version number handle common own own_refs, before_it, after)

-- after whole bytes, bits are filled up as they are alone
pub padding_after : (prefix letters : List Bool) → length prefix % 8 ≡ 0 → padding (prefix ++ letters) ≡ padding letters
padding_after prefix letters whole =
    ap (λ (n : ℕ). replicate n false) (missing_after (length prefix) (length letters) (length (prefix ++ letters)) whole (length-append prefix letters))
  where
    missing_after : (a b all : ℕ) → a % 8 ≡ 0 → all ≡ a + b → missing_bits all ≡ missing_bits b
    missing_after a b all whole same = omega (arith, whole, same)

-- the bytes of a sink are those of its bits
pub sink_bytes : (bytes : List ℕ) (letters : List Bool) → AreBytes bytes → bits bytes ≡ letters → bytes ≡ whole_bytes letters
sink_bytes bytes letters are same = sym (whole_of_bits bytes are) ∙ ap whole_bytes same

-- and after those that were there before stand those that were written
pub written_after : (old new : Written) (bytes : List ℕ) (from : ℕ) → length old.written % 8 ≡ 0 → from ≡ length old.written / 8 → AreBytes bytes → Extends old new (bits bytes)
    → drop from (whole_bytes new.written) ≡ bytes
written_after old new bytes from whole far are grew =
    let place : length (whole_bytes old.written) ≡ from = omega (arith, far, length_of_whole old.written whole) in
    ap (λ (letters : List Bool). drop from (whole_bytes letters)) grew.bits ∙ ap (drop from) (whole_joined old.written bytes whole are) ∙ drop_at (whole_bytes old.written) bytes from place

-- bytes after their length take the room of both
pub sized_room : (bytes : List ℕ) → 8 * length (sized bytes) ≡ length (bits (ms.short (length bytes))) + 8 * length bytes
sized_room bytes = omega (arith, length-append (ms.short (length bytes)) bytes, length_of_bits (ms.short (length bytes)))

-- so after their length there is room for them
pub room_after_size : (first second : Written) (count : ℕ) (bytes : List ℕ) → count ≡ length bytes → 8 * length (sized bytes) ≤ first.spare → Extends first second (bits (ms.short count))
    → 8 * length bytes ≤ second.spare
room_after_size first second count bytes same room by_size = omega (arith, room, sized_room bytes, by_size.spare, ap (λ (n : ℕ). length (bits (ms.short n))) same)

-- they are what is written of their length and of them, one after the other
pub sized_written : (first second third : Written) (count : ℕ) (bytes : List ℕ) → count ≡ length bytes → Extends first second (bits (ms.short count)) → Extends second third (bits bytes)
    → Extends first third (bits (sized bytes))
sized_written first second third count bytes same by_size by_bytes =
    both_written first second third (ms.short (length bytes)) bytes (subst (λ (n : ℕ). Extends first second (bits (ms.short n))) same by_size) by_bytes

-- their length is bytes too
pub sized_are_bytes : (content : List ℕ) → AreBytes content → length content < 2 ^ 29 → AreBytes (sized content)
sized_are_bytes content are small = bytes_joined (ms.short (length content)) content (length_is_bytes (length content) (omega (arith, small))) are

-- a length, a body and a check word that were written are the frame
pub frame_written : (first third fourth : Written) (version : Version) (value : ObjectValue) (word_bytes : List ℕ) (word : ℕ) → word ≡ check_word CHECK_SEED (sized (body_bytes version value))
    → word_bytes ≡ to_le_bytes w16 word → Extends first third (bits (sized (body_bytes version value))) → Extends third fourth (bits word_bytes) → Extends first fourth (bits (frame_bytes version value))
unfolding frame_bytes
frame_written first third fourth version value word_bytes word checked spelled by_both by_word =
    let both : List ℕ = sized (body_bytes version value) in
    both_written first third fourth both (to_le_bytes w16 (check_word CHECK_SEED both)) by_both
    (subst (λ (b : List ℕ). Extends third fourth (bits b)) (spelled ∙ ap (to_le_bytes w16) checked) by_word)

-- the room of a frame is that of its length, its body and its check word
pub frame_room : (version : Version) (value : ObjectValue) → 8 * length (frame_bytes version value) ≡ 8 * length (sized (body_bytes version value)) + 16
frame_room version value = omega (arith, length_of_frame version value, length-append (ms.short (length (body_bytes version value))) (body_bytes version value))

-- what is written one after the other before the references, with as many bits as they are, is the prefix of an object
pub prefix_written : (first second third fourth : Written) (version : Version) (number size handle : ℕ) (common : Common) (own : List Bool) → size ≡ length (prefix_bits version number handle common own)
    → Extends first second ((head version).short (written_head version number handle size)) → Extends second third (common_main (layout_in version size) handle common) → Extends third fourth own
    → Extends first fourth (prefix_bits version number handle common own)
unfolding prefix_bits
prefix_written first second third fourth version number size handle common own same by_head by_main by_own =
    let after = extends_by_both second third fourth (common_main (layout_in version size) handle common) own by_main by_own in
    subst (λ (n : ℕ). Extends first fourth (sized_main version n number handle common own)) (same ∙ prefix_sized version number handle common own)
    (extends_by_both first second fourth ((head version).short (written_head version number handle size)) (common_main (layout_in version size) handle common ++ own) by_head after)

-- and what is written one after the other of the references is these
pub refs_written : (first second third : Written) (version : Version) (handle : ℕ) (common : Common) (own_refs : List Bool)
    → Extends first second (common_refs (layout_in version 0) handle common) → Extends second third own_refs → Extends first third (refs_bits version handle common own_refs)
unfolding refs_bits
refs_written first second third version handle common own_refs by_common by_own = extends_by_both first second third (common_refs (layout_in version 0) handle common) own_refs by_common by_own

-- both, filled up at whole bytes, are the bytes of an object
pub object_written : (first second third fourth : Written) (version : Version) (number handle : ℕ) (common : Common) (own own_refs : List Bool) → length first.written % 8 ≡ 0
    → Extends first second (prefix_bits version number handle common own) → Extends second third (refs_bits version handle common own_refs) → Extends third fourth (padding third.written)
    → Extends first fourth (bits (object_bytes version number handle common own own_refs))
object_written first second third fourth version number handle common own own_refs whole by_prefix by_names by_fill =
    let letters : List Bool = object_bits version number handle common own own_refs in
    let both = extends_by_both first second third (prefix_bits version number handle common own) (refs_bits version handle common own_refs) by_prefix by_names in
    let fill : padding third.written ≡ padding letters = ap padding both.bits ∙ padding_after first.written letters whole in
    subst (Extends first fourth) (sym (bits_padded letters)) (extends_by_both first third fourth letters (padding letters) both (subst (Extends third fourth) fill by_fill))

-- how much is filled up after an object
pub fill_long : (first third : Written) (letters : List Bool) → length first.written % 8 ≡ 0 → Extends first third letters → length (padding third.written) ≡ length (padding letters)
fill_long first third letters whole by = ap length (ap padding by.bits ∙ padding_after first.written letters whole)

-- the bits of an object below 2^29 bytes are below 2^32
pub object_small : (version : Version) (number handle : ℕ) (common : Common) (own own_refs : List Bool) → length (object_bytes version number handle common own own_refs) < 2 ^ 29
    → length (object_bits version number handle common own own_refs) < 2 ^ 32
object_small version number handle common own own_refs small = let padded = bytes_padded (object_bits version number handle common own own_refs) in omega (arith, padded.enough, small)

-- before the references, of these, and filled up after them, they are those of its bytes
pub object_whole : (version : Version) (number handle : ℕ) (common : Common) (own own_refs : List Bool)
    → length (prefix_bits version number handle common own) + length (refs_bits version handle common own_refs) + length (padding (object_bits version number handle common own own_refs))
    ≡ 8 * length (object_bytes version number handle common own own_refs)
object_whole version number handle common own own_refs =
    let letters : List Bool = object_bits version number handle common own own_refs in
    omega (
      arith,
      ap length (bits_padded letters),
      length_of_bits (object_bytes version number handle common own own_refs),
      length-append letters (padding letters),
      object_long version number handle common own own_refs,
    )

-- after their length they take the room of both
pub object_room : (version : Version) (number handle : ℕ) (common : Common) (own own_refs : List Bool)
    → 8 * length (sized (object_bytes version number handle common own own_refs))
    ≡ length (bits (ms.short (length (object_bytes version number handle common own own_refs))))
    + (length (prefix_bits version number handle common own) + length (refs_bits version handle common own_refs) + length (padding (object_bits version number handle common own own_refs)))
object_room version number handle common own own_refs =
    omega (arith, sized_room (object_bytes version number handle common own own_refs), object_whole version number handle common own own_refs)

-- after whole bytes, bytes end at a whole byte
pub aligned_after : (old new : Written) (bytes : List ℕ) → length old.written % 8 ≡ 0 → Extends old new (bits bytes) → length new.written % 8 ≡ 0
aligned_after old new bytes whole grew = omega (arith, whole, ap length grew.bits, length-append old.written (bits bytes), length_of_bits bytes)
