-- A preview section that is written piece by piece.
use Rattle.std.proofs.Common.{◌≡◌, ℕ, zero, suc, ◌+◌, ◌*◌, ◌^◌, ◌<◌, List, [], ◌∷◌, ◌++◌, length, take, sym, ap, ap₂, subst, ◌∙◌, w32, arith, append_assoc, append-nil}
use Rattle.std.specs.Prelude.{slice_index}
use Rattle.std.specs.Int.{to_le_bytes}
use Rattle.dwg_bits.specs.Bits.{bits}
use Rattle.dwg_bits.specs.Sink.{Written, Extends}
use Rattle.dwg_bits.proofs.BitLaws.{bits_joined}
use Rattle.dwg_bits.proofs.SinkLemmas.{extends_by_both}
use Rattle.dwg_sections.specs.Framed.{complemented}
use Rattle.dwg_sections.specs.Writing.{Puts}
use Rattle.dwg_sections.proofs.BytePuts.{puts_none, puts_both}
use Rattle.dwg_preview.specs.Previews.{Entry, IsContent, PREVIEW_SENTINEL, WITHOUT_CONTENT, entries_moved, entry_at, entry_bytes, prefix_bytes, further_bytes, moved, moved_entry, preview_bytes}
use Rattle.dwg_preview.proofs.Contents.{first_byte}
use Rattle.dwg_preview.proofs.Moving.{section_is_pieces}

-- a sink that grew by the code, the place and the size grew by the entry
pub entry_written : (first second third fourth : Written) (entry : Entry) (place size : List ℕ) → place ≡ to_le_bytes w32 entry.place → size ≡ to_le_bytes w32 entry.size
    → Puts first second (entry.code ∷ []) → Puts second third place → Puts third fourth size
    → Puts first fourth (entry_bytes entry)
entry_written first second third fourth entry place size at_place at_size one two three =
    let after = puts_both second third fourth place size two three in
    subst (Puts first fourth) (ap (λ bytes. entry.code ∷ bytes) (ap₂ ◌++◌ at_place at_size))
    (puts_both first second fourth (entry.code ∷ []) (place ++ size) one after)

-- before the first entry none is written
pub no_entry_written : (sink : Written) (from to : ℕ) (content : List ℕ) (place : ℕ) → Puts sink sink (entries_moved from to 0 content place)
unfolding entries_moved
no_entry_written sink from to content place = puts_none sink

-- one entry more stands after the others
entries_moved_more : (from to count : ℕ) (content : List ℕ) (place : ℕ) → entries_moved from to (count + 1) content place ≡ entries_moved from to count content place ++ entry_bytes (moved_entry from to (entry_at content (place + 9 * count)))
unfolding entries_moved
entries_moved_more from to zero content place =
    let here : place ≡ place + 9 * 0 = omega arith in
    append-nil (entry_bytes (moved_entry from to (entry_at content place))) ∙ ap (λ p. entry_bytes (moved_entry from to (entry_at content p))) here
entries_moved_more from to (suc count) content place =
    let first = entry_bytes (moved_entry from to (entry_at content place)) in
    let further : place + 9 + 9 * count ≡ place + 9 * suc count = omega arith in
    let one : suc count + 1 ≡ suc (count + 1) = omega arith in
    ap (λ n. entries_moved from to n content place) one ∙ ap (λ rest. first ++ rest) (entries_moved_more from to count content (place + 9))
    ∙ sym (append_assoc first (entries_moved from to count content (place + 9)) _)
    ∙ ap (λ p. first ++ entries_moved from to count content (place + 9) ++ entry_bytes (moved_entry from to (entry_at content p))) further

-- with one entry more, one more is written
pub one_entry_written : (old mid new : Written) (from to i : ℕ) (content : List ℕ) → Puts old mid (entries_moved from to i content 1) → Puts mid new (entry_bytes (moved_entry from to (entry_at content (1 + 9 * i))))
    → Puts old new (entries_moved from to (i + 1) content 1)
one_entry_written old mid new from to i content so_far next =
    subst (Puts old new) (sym (entries_moved_more from to i content 1)) (puts_both old mid new (entries_moved from to i content 1) _ so_far next)

-- a sink that grew by the begin sentinel, the size, the count and the entries grew by what stands before the further bytes
pub prefix_written : (first second third fourth fifth : Written) (from to count : ℕ) (content begin size : List ℕ) → begin ≡ PREVIEW_SENTINEL → size ≡ to_le_bytes w32 (length content) → count ≡ slice_index content 0 → 0 < length content
    → Puts first second begin → Puts second third size → Puts third fourth (count ∷ []) → Puts fourth fifth (entries_moved from to count content 1)
    → Extends first fifth (bits (prefix_bytes from to content))
prefix_written first second third fourth fifth from to count content begin size begins sized counted some one two three four =
    let to_count = puts_both first second third begin size one two in
    let after = puts_both third fourth fifth (count ∷ []) (entries_moved from to count content 1) three four in
    let all = puts_both first third fifth (begin ++ size) (count ∷ [] ++ entries_moved from to count content 1) to_count after in
    let head : count ∷ [] ≡ take 1 content = ap (λ n. n ∷ []) counted ∙ sym (first_byte content some) in
    let entries = ap (λ n. entries_moved from to n content 1) counted in
    subst (λ bytes. Extends first fifth (bits bytes)) (ap₂ ◌++◌ (ap₂ ◌++◌ begins sized) (ap₂ ◌++◌ head entries)) all.written

-- a sink that grew by the pieces of a section grew by the section
pub preview_written : (first second third fourth : Written) (from to : ℕ) (content further end : List ℕ) → IsContent from content → to + WITHOUT_CONTENT + length content < 2 ^ 32
    → further ≡ further_bytes content → end ≡ complemented PREVIEW_SENTINEL
    → Extends first second (bits (prefix_bytes from to content)) → Puts second third further → Puts third fourth end
    → Extends first fourth (bits (preview_bytes (moved from to content)))
preview_written first second third fourth from to content further end is below after ends one two three =
    let prefix = prefix_bytes from to content in
    let to_end = extends_by_both first second third (bits prefix) (bits further) one two.written in
    let all = extends_by_both first third fourth (bits prefix ++ bits further) (bits end) to_end three.written in
    let joined = ap (λ some. some ++ bits end) (sym (bits_joined prefix further)) ∙ sym (bits_joined (prefix ++ further) end) in
    let pieces = ap₂ (λ further end. prefix ++ further ++ end) after ends ∙ section_is_pieces from to content is below in
    subst (Extends first fourth) (joined ∙ ap bits pieces) all
