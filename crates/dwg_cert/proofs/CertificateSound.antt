-- Bytes in which no line on a certificate fails begin with the certificate that is read.
use Rattle.std.proofs.Common.{◌≡◌, refl, sym, ◌∙◌, ap, ap₂, subst, ℕ, zero, suc, ◌+◌, ◌*◌, ◌<◌, ◌≤◌, List, ◌++◌, false, None, length, take, drop, map, get_or, w64, arith, drop-drop, take-append-drop}
use Rattle.std.specs.Prelude.{Ok}
use Rattle.std.specs.List.{flat_map, range_with_len}
use Rattle.std.specs.Int.{to_le_bytes}
use Rattle.dwg_base.specs.Bytes.{AreBytes}
use Rattle.dwg_base.proofs.ByteLists.{are_bytes}
use Rattle.dwg_cert.specs.declared.entry.Entry.{Entry}
use Rattle.dwg_cert.specs.Certificates.{IsCertificate, HaveHandles}
use Rattle.dwg_cert.specs.WrittenForm.{MAGIC, BeginsWithCertificate, entry_bytes, certificate_bytes, size_of}
use Rattle.dwg_cert.specs.CertificateLines.{count_at, stored_handle_at, stored_rank_at, stored_chain_at, entry_stated_at, entry_fails, entries_at, first_failing, tried_certificate, after_certificate}
use Rattle.dwg_cert.specs.CertificateLaws.{PassingBytesBeginWithCertificate, ReadEntriesAreCertificate}
use Rattle.dwg_cert.proofs.EntryOrder.{certificate_of_passing, handles_of_passing}
use Rattle.dwg_cert.proofs.EntryReading.{none_of_tried, length_of_read}
use Rattle.dwg_cert.proofs.EntryTests.{passes_from_test}
use Rattle.dwg_cert.proofs.NumberPieces.{prefix_more, number_back}
use Rattle.dwg_cert.proofs.PassingLines.{HasRoom, room_from_none}
use Rattle.dwg_base.proofs.RangeSearch.{each_fails}
use Rattle.dwg_cert.proofs.StoredNumbers.{stored_again}

-- 24 bytes are an entry
entry_back : (bytes : List ℕ) (index : ℕ) → AreBytes bytes → size_of index + 24 ≤ length bytes → take 24 (drop (size_of index) bytes) ≡ entry_bytes (entry_stated_at bytes index)
unfolding entry_bytes entry_stated_at
entry_back bytes index all within =
    let place = size_of index in
    let here = drop place bytes in
    let rank : take 8 (drop 8 here) ≡ to_le_bytes w64 (stored_rank_at bytes index) = ap (take 8) (drop-drop 8 place bytes) ∙ number_back bytes (place + 8) all (omega arith) in
    let chain : take 8 (drop 16 here) ≡ to_le_bytes w64 (stored_chain_at bytes index) = ap (take 8) (drop-drop 16 place bytes) ∙ number_back bytes (place + 16) all (omega arith) in
    let two = prefix_more here (to_le_bytes w64 (stored_handle_at bytes index)) _ 8 8 (number_back bytes place all (omega arith)) rank in
    prefix_more here _ _ 16 8 two chain
    ∙ ap₂ (λ r c. to_le_bytes w64 (stored_handle_at bytes index) ++ to_le_bytes w64 r ++ to_le_bytes w64 c) (sym (stored_again (stored_rank_at bytes index))) (sym (stored_again (stored_chain_at bytes index)))

-- 24 bytes for each of so many entries are these entries
entries_back : (bytes : List ℕ) (count index : ℕ) → AreBytes bytes → size_of index + 24 * count ≤ length bytes
    → take (24 * count) (drop (size_of index) bytes) ≡ flat_map entry_bytes (map (entry_stated_at bytes) (range_with_len index count))
entries_back bytes zero index all within = refl
entries_back bytes (suc count) index all within =
    let wide : 24 * suc count ≡ 24 + 24 * count = omega arith in
    let next : size_of index + 24 ≡ size_of (index + 1) = omega arith in
    ap (λ n. take n (drop (size_of index) bytes)) wide
    ∙ prefix_more (drop (size_of index) bytes) (entry_bytes (entry_stated_at bytes index)) _ 24 (24 * count) (entry_back bytes index all (omega arith))
    (ap (take (24 * count)) (drop-drop 24 (size_of index) bytes ∙ ap (λ place. drop place bytes) next) ∙ entries_back bytes count (index + 1) all (omega arith))

-- the begin, the count and the entries are the form of a certificate
form_back : (bytes : List ℕ) → AreBytes bytes → HasRoom bytes → length (entries_at bytes) ≡ count_at bytes → take (size_of (count_at bytes)) bytes ≡ certificate_bytes (entries_at bytes)
unfolding certificate_bytes entries_at count_at
form_back bytes all room counted =
    let long = room.long in
    let whole = room.whole in
    let prefix = prefix_more bytes MAGIC _ 8 8 room.magic (number_back bytes 8 all (omega arith) ∙ ap (to_le_bytes w64) (sym counted)) in
    prefix_more bytes _ _ 16 (24 * count_at bytes) prefix (entries_back bytes (count_at bytes) 0 all (omega arith))

-- entries of which none fails pass
passing : (bytes : List ℕ) → first_failing bytes ≡ None → (k : ℕ) → k < count_at bytes → entry_fails bytes k ≡ false
unfolding first_failing
passing bytes none k inside = each_fails (entry_fails bytes) 0 (count_at bytes) none k (omega arith) (omega arith)

-- entries that are read are those of a certificate
pub read_are_certificate : ReadEntriesAreCertificate
unfolding entries_at
read_are_certificate bytes entries tried =
    let parts = none_of_tried bytes entries tried in
    let all = λ (k : ℕ) (inside : k < count_at bytes). passes_from_test bytes k (passing bytes parts.0 k inside) in
    (subst IsCertificate parts.1 (certificate_of_passing bytes (count_at bytes) all), subst HaveHandles parts.1 (handles_of_passing bytes (count_at bytes) all))

-- bytes with room in which entries are read begin with their certificate
pub begins_with_room : (bytes : List ℕ) (entries : List Entry) → AreBytes bytes → HasRoom bytes → tried_certificate bytes ≡ Ok entries → BeginsWithCertificate bytes entries (after_certificate entries bytes)
begins_with_room bytes entries all room tried =
    let is = read_are_certificate bytes entries tried in
    let counted : length entries ≡ count_at bytes = length_of_read bytes entries tried in
    let listed : entries_at bytes ≡ entries = (none_of_tried bytes entries tried).1 in
    let form : take (size_of (length entries)) bytes ≡ certificate_bytes entries =
    ap (λ n. take (size_of n) bytes) counted ∙ (form_back bytes all room (ap length listed ∙ counted) ∙ ap certificate_bytes listed) in
    record {
      certificate = is.0;
      handles = is.1;
      whole = sym (take-append-drop (size_of (length entries)) bytes) ∙ ap (λ prefix. prefix ++ after_certificate entries bytes) form;
    }

-- so do bytes in which no line fails
pub begins_with_certificate : PassingBytesBeginWithCertificate
begins_with_certificate bytes entries all none tried = begins_with_room bytes entries all (room_from_none bytes none).0 tried

-- the same of bytes by their places, with the place after the certificate
pub begins_with_read : (bytes : List ℕ) (entries certificate : List Entry) (end : ℕ) → ((i : ℕ) → get_or bytes i 0 < 256) → HasRoom bytes → tried_certificate bytes ≡ Ok entries → certificate ≡ entries
    → end ≡ count_at bytes → BeginsWithCertificate bytes certificate (drop (size_of end) bytes)
begins_with_read bytes entries certificate end small room tried same counted =
    let given : tried_certificate bytes ≡ Ok certificate = tried ∙ ap (λ (list : List Entry). Ok list) (sym same) in
    subst (λ n. BeginsWithCertificate bytes certificate (drop (size_of n) bytes)) (length_of_read bytes certificate given ∙ sym counted)
    (begins_with_room bytes certificate (are_bytes bytes small) room given)
