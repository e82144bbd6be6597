-- How the open page takes a pair, and how a page is closed.
use Rattle.std.proofs.Common.{◌≡◌, sym, ◌∙◌, ap, ℕ, ◌+◌, ◌*◌, ◌%◌, ◌<◌, ◌≤◌, true, List, [], ◌++◌, length, drop, length-drop, arith}
use Rattle.std.specs.Prelude.{nat_le}
use Rattle.dwg_base.specs.Bytes.{AreBytes}
use Rattle.dwg_bits.specs.Bits.{bits}
use Rattle.dwg_bits.proofs.BitLaws.{length_of_bits}
use Rattle.dwg_bits.specs.Sink.{Written, Extends}
use Rattle.dwg_bits.specs.WholeBytes.{whole_bytes}
use Rattle.dwg_bits.proofs.WholeBytes.{whole_of_bits}
use Rattle.dwg_objmap.specs.declared.pair.Pair.{Pair}
use Rattle.dwg_objmap.specs.Pairs.{IsPair, pair_after}
use Rattle.dwg_objmap.specs.Writing.{MOST_PAGE, reported_after, has_room, added}
use Rattle.dwg_objmap.proofs.FillingLemmas.{pair_few, pair_written}
use Rattle.dwg_objmap.specs.PageFilling.{page_of, HasPairRoom}

-- the page's size with a pair
pub room_reported : (bytes : List ℕ) (last before pair : Pair) (more : ℕ) → 2 ≤ length bytes → before ≡ reported_after (drop 2 bytes) last → more ≡ length ((pair_after before).short pair)
    → nat_le (length bytes + more) MOST_PAGE ≡ has_room (page_of bytes last true) pair
room_reported bytes last before pair more least reported long =
    let size : length bytes + more ≡ 2 + length (drop 2 bytes) + length (added (page_of bytes last true) pair) =
    omega (arith, least, long, length-drop 2 bytes, ap (λ (from : Pair). length ((pair_after from).short pair)) reported) in
    ap (λ n. nat_le n MOST_PAGE) size

-- what is written of a pair are bytes, at most twenty
pub short_few : (before pair : Pair) → IsPair before → IsPair pair → before.handle < pair.handle
    → AreBytes ((pair_after before).short pair) × (length ((pair_after before).short pair) ≤ 20)
short_few before pair fits_before fits above =
    let few = pair_few before pair ((pair_after before).short pair) (pair_written before pair fits_before fits (omega (arith, above))) in (few.are_bytes, few.few)

-- so the room of a pair is enough
pub pair_has_room : (old cleared : Written) (before pair : Pair) → IsPair before → IsPair pair → before.handle < pair.handle → HasPairRoom old → old.spare + length old.written ≤ cleared.spare
    → 8 * length ((pair_after before).short pair) ≤ cleared.spare
pair_has_room old cleared before pair fits_before fits above room spare = omega (arith, room, spare, (short_few before pair fits_before fits above).1)

-- a pair is written by whole bytes
pub pair_is_whole : (cleared spelled : Written) (before pair : Pair) → cleared.written ≡ [] → Extends cleared spelled (bits ((pair_after before).short pair)) → length spelled.written % 8 ≡ 0
pair_is_whole cleared spelled before pair none extends =
    let is : spelled.written ≡ bits ((pair_after before).short pair) = extends.bits ∙ ap (λ prefix. prefix ++ bits ((pair_after before).short pair)) none in
    omega (arith, ap length is, length_of_bits ((pair_after before).short pair))

-- and they are its bytes
pub pair_spelled : (cleared spelled : Written) (before pair : Pair) (bytes same : List ℕ) → IsPair before → IsPair pair → before.handle < pair.handle → cleared.written ≡ []
    → Extends cleared spelled (bits ((pair_after before).short pair)) → same ≡ bytes → AreBytes bytes → bits bytes ≡ spelled.written → same ≡ (pair_after before).short pair
pair_spelled cleared spelled before pair bytes same fits_before fits above none extends is all reported =
    let whole : bits bytes ≡ bits ((pair_after before).short pair) = reported ∙ extends.bits ∙ ap (λ prefix. prefix ++ bits ((pair_after before).short pair)) none in
    is ∙ sym (whole_of_bits bytes all) ∙ ap whole_bytes whole ∙ whole_of_bits ((pair_after before).short pair) (short_few before pair fits_before fits above).0

-- the room of a pair stays
pub pair_room_stays : (old cleared spelled : Written) (before pair : Pair) → HasPairRoom old → old.spare + length old.written ≤ cleared.spare → cleared.written ≡ []
    → Extends cleared spelled (bits ((pair_after before).short pair)) → HasPairRoom spelled
pair_room_stays old cleared spelled before pair room spare none extends =
    let is : spelled.written ≡ bits ((pair_after before).short pair) = extends.bits ∙ ap (λ prefix. prefix ++ bits ((pair_after before).short pair)) none in
    omega (arith, room, spare, extends.spare, ap length is)
