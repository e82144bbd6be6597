-- Where bytes begin with the form of a certificate, no line on it fails, and it is the one that is read.
use Rattle.std.proofs.Common.{◌≡◌, refl, sym, ◌∙◌, ap, ap₂, subst, ℕ, ◌+◌, ◌^◌, ◌<◌, ◌≤◌, List, [], ◌∷◌, ◌++◌, Option, None, length, take, drop, map, w64, arith, append_assoc, length-append, take_at, drop_at}
use Rattle.std.specs.Prelude.{Ok}
use Rattle.std.specs.List.{AllByRecursion, flat_map, range_with_len}
use Rattle.std.specs.Int.{to_le_bytes}
use Rattle.dwg_cert.specs.declared.entry.Entry.{Entry}
use Rattle.dwg_cert.specs.Certificates.{IsSmallEntry, IsCertificate, HaveHandles}
use Rattle.dwg_cert.specs.WrittenForm.{MAGIC, BeginsWithCertificate, stored, entry_bytes, certificate_bytes, size_of}
use Rattle.dwg_cert.specs.CertificateLines.{count_at, stored_rank_at, stored_chain_at, unstored, entry_stated_at, entry_fails, entries_at, first_failing, tried_certificate}
use Rattle.dwg_cert.specs.CertificateLaws.{LinesAreExact, CertificateIsRead, CertificateIsUnique, WrittenIsRead}
use Rattle.dwg_cert.proofs.CertificateSound.{begins_with_certificate}
use Rattle.dwg_cert.proofs.EntryOrder.{entries_are_few, first_entries, passing_of_certificate}
use Rattle.dwg_cert.proofs.EntryReading.{tried_of_none}
use Rattle.dwg_cert.proofs.EntryTests.{test_from_passes}
use Rattle.dwg_cert.proofs.FormBytes.{length_of_entry, certificate_is_counted}
use Rattle.dwg_cert.proofs.NumberPieces.{number_there}
use Rattle.dwg_cert.proofs.PassingLines.{HasRoom, room_from_none, entries_decide, none_of_read, read_of_none}
use Rattle.dwg_base.proofs.RangeSearch.{none_found}
use Rattle.dwg_cert.proofs.StoredNumbers.{stored_small, unstored_again}

-- the entry of these parts
abbrev entry_of : ℕ → Option ℕ → Option ℕ → Entry
entry_of handle rank chain = record { handle = handle; rank = rank; chain = chain }

-- two entries with the same parts are one
same_entry : (a b : Entry) → a.handle ≡ b.handle → a.rank ≡ b.rank → a.chain ≡ b.chain → a ≡ b
same_entry a b handle rank chain =
    ap (λ h. entry_of h a.rank a.chain) handle ∙ (ap (λ r. entry_of b.handle r a.chain) rank ∙ ap (λ c. entry_of b.handle b.rank c) chain)

-- an entry is read where it stands
entry_there : (entry : Entry) (bytes prefix rest : List ℕ) (index : ℕ) → bytes ≡ prefix ++ (entry_bytes entry ++ rest) → length prefix ≡ size_of index → IsSmallEntry entry → entry.handle < 2 ^ 63
    → entry ≡ entry_stated_at bytes index
unfolding entry_bytes entry_stated_at
entry_there entry bytes prefix rest index whole far small in_range =
    let handle = to_le_bytes w64 entry.handle in
    let rank = to_le_bytes w64 (stored entry.rank) in
    let chain = to_le_bytes w64 (stored entry.chain) in
    let one : bytes ≡ prefix ++ (handle ++ (rank ++ (chain ++ rest))) = whole ∙ ap (λ after. prefix ++ after) (append_assoc (handle ++ rank) chain rest ∙ append_assoc handle rank (chain ++ rest)) in
    let two : bytes ≡ (prefix ++ handle) ++ (rank ++ (chain ++ rest)) = one ∙ sym (append_assoc prefix handle (rank ++ (chain ++ rest))) in
    let three : bytes ≡ (prefix ++ handle ++ rank) ++ (chain ++ rest) = two ∙ sym (append_assoc (prefix ++ handle) rank (chain ++ rest)) in
    let to_rank : length (prefix ++ handle) ≡ size_of index + 8 = length-append prefix handle ∙ ap (λ n. n + 8) far in
    let to_chain : length (prefix ++ handle ++ rank) ≡ size_of index + 16 = length-append (prefix ++ handle) rank ∙ (ap (λ n. n + 8) to_rank ∙ omega arith) in
    let rank_read : stored_rank_at bytes index ≡ stored entry.rank =
    number_there bytes (prefix ++ handle) (chain ++ rest) (stored entry.rank) (size_of index + 8) (omega (arith, stored_small entry.rank small.rank)) two to_rank in
    let chain_read : stored_chain_at bytes index ≡ stored entry.chain =
    number_there bytes (prefix ++ handle ++ rank) rest (stored entry.chain) (size_of index + 16) (omega (arith, stored_small entry.chain small.chain)) three to_chain in
    same_entry entry (entry_stated_at bytes index)
    (sym (number_there bytes prefix (rank ++ (chain ++ rest)) entry.handle (size_of index) (omega arith) one far))
    (sym (ap unstored rank_read ∙ unstored_again entry.rank))
    (sym (ap unstored chain_read ∙ unstored_again entry.chain))

-- entries are read where they stand
entries_there : (entries : List Entry) (bytes prefix rest : List ℕ) (index : ℕ) → bytes ≡ prefix ++ (flat_map entry_bytes entries ++ rest) → length prefix ≡ size_of index → AllByRecursion IsSmallEntry entries → HaveHandles entries
    → entries ≡ map (entry_stated_at bytes) (range_with_len index (length entries))
entries_there [] bytes prefix rest index whole far small have = refl
entries_there (entry ∷ entries) bytes prefix rest index whole far small have =
    let here = entry_bytes entry in
    let further = flat_map entry_bytes entries in
    let first : bytes ≡ prefix ++ (here ++ (further ++ rest)) = whole ∙ ap (λ after. prefix ++ after) (append_assoc here further rest) in
    let other : bytes ≡ (prefix ++ here) ++ (further ++ rest) = first ∙ sym (append_assoc prefix here (further ++ rest)) in
    let far_more : length (prefix ++ here) ≡ size_of (index + 1) = omega (arith, length-append prefix here, length_of_entry entry) in
    ap₂ ◌∷◌ (entry_there entry bytes prefix (further ++ rest) index first far small.0 have.0) (entries_there entries bytes (prefix ++ here) rest (index + 1) other far_more small.1 have.1)

-- what an input has that begins with the form of a certificate
record Reads (bytes : List ℕ) (entries : List Entry) (rest : List ℕ) : Type 0 where
  room : HasRoom bytes
  counted : count_at bytes ≡ length entries
  listed : entries ≡ first_entries bytes (length entries)
  after : drop (size_of (length entries)) bytes ≡ rest

-- where bytes begin with the form of a certificate, its parts are read where they stand
parts_there : (bytes : List ℕ) (entries : List Entry) (rest : List ℕ) → BeginsWithCertificate bytes entries rest → Reads bytes entries rest
unfolding certificate_bytes count_at
parts_there bytes entries rest begins =
    let count = to_le_bytes w64 (length entries) in
    let further = flat_map entry_bytes entries in
    let entries_stand : bytes ≡ (MAGIC ++ count) ++ (further ++ rest) = begins.whole ∙ append_assoc (MAGIC ++ count) further rest in
    let count_stands : bytes ≡ MAGIC ++ (count ++ (further ++ rest)) = entries_stand ∙ append_assoc MAGIC count (further ++ rest) in
    let few : length entries ≤ 2 ^ 63 = entries_are_few entries begins.certificate.ascending begins.handles in
    let counted : count_at bytes ≡ length entries = number_there bytes MAGIC (further ++ rest) (length entries) 8 (omega arith) count_stands refl in
    let form = certificate_is_counted entries in
    let long : length bytes ≡ size_of (length entries) + length rest =
    ap length begins.whole ∙ (length-append (certificate_bytes entries) rest ∙ ap (λ n. n + length rest) form) in
    record {
      room = record {
        long = omega arith;
        magic = ap (take 8) count_stands ∙ take_at MAGIC (count ++ (further ++ rest)) 8 refl;
        whole = omega arith;
      };
      counted = counted;
      listed = entries_there entries bytes (MAGIC ++ count) rest 0 entries_stand refl begins.certificate.small begins.handles;
      after = ap (drop (size_of (length entries))) begins.whole ∙ drop_at (certificate_bytes entries) rest (size_of (length entries)) form;
    }

-- so they are read
read_there : (bytes : List ℕ) (entries : List Entry) (rest : List ℕ) → BeginsWithCertificate bytes entries rest → Reads bytes entries rest → tried_certificate bytes ≡ Ok entries
unfolding entries_at first_failing
read_there bytes entries rest begins reads =
    let all : first_entries bytes (count_at bytes) ≡ entries = ap (first_entries bytes) reads.counted ∙ sym reads.listed in
    let passing = passing_of_certificate bytes (count_at bytes) (subst IsCertificate (sym all) begins.certificate) (subst HaveHandles (sym all) begins.handles) in
    let none : first_failing bytes ≡ None = none_found (entry_fails bytes) 0 (count_at bytes) (λ k least below. test_from_passes bytes k (passing k (omega arith))) in
    tried_of_none bytes none ∙ ap (λ (list : List Entry). Ok list) all

-- where an input begins with the form of a certificate, no line fails, that certificate is read, and the rest is what stands after it
pub certificate_is_read : CertificateIsRead
certificate_is_read bytes entries rest begins =
    let reads = parts_there bytes entries rest begins in
    let tried = read_there bytes entries rest begins reads in
    (entries_decide bytes reads.room ∙ none_of_read bytes entries tried, tried, reads.after)

-- an input begins with the form of at most one certificate
pub certificate_is_unique : CertificateIsUnique
certificate_is_unique bytes entries others rest more one other =
    let first = certificate_is_read bytes entries rest one in
    let second = certificate_is_read bytes others more other in
    let same : entries ≡ others = let a = first.1 in let b = second.1 in cc in
    (same, sym first.2 ∙ (ap (λ (list : List Entry). drop (size_of (length list)) bytes) same ∙ second.2))

-- what is written is read back
pub written_is_read : WrittenIsRead
written_is_read entries rest is have =
    let read = certificate_is_read (certificate_bytes entries ++ rest) entries rest (record { certificate = is; handles = have; whole = refl }) in
    (read.0, read.1)

-- no line fails exactly where bytes begin with the form of a certificate
pub lines_are_exact : LinesAreExact
lines_are_exact bytes all = (
  λ none. let read = read_of_none bytes (room_from_none bytes none).1 in (read.0, _, begins_with_certificate bytes read.0 all none read.1),
  λ has. (certificate_is_read bytes has.0 has.1 has.2).0,
)
