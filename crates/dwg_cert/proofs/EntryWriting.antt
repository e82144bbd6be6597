-- Bytes that are appended to a sink piece by piece, and entries that are.
use Rattle.std.proofs.Common.{◌≡◌, sym, ◌∙◌, ap, ap₂, subst, inl, inr, ℕ, suc, ◌+◌, ◌^◌, ◌<◌, List, [], ◌∷◌, ◌++◌, length, take, get_or, w64, arith, append-nil}
use Rattle.std.specs.List.{flat_map}
use Rattle.std.specs.Int.{to_le_bytes}
use Rattle.std.proofs.lemmas.Bool.{cases_eq}
use Rattle.std.proofs.lemmas.List.{take_more, get_or_default}
use Rattle.std.proofs.lemmas.List.Concat.{flat_map-append}
use Rattle.dwg_bits.specs.Bits.{bits}
use Rattle.dwg_bits.specs.Sink.{Written, Extends}
use Rattle.dwg_bits.proofs.BitLaws.{bits_joined}
use Rattle.dwg_bits.proofs.SinkLemmas.{extends_by_none, extends_by_both}
use Rattle.dwg_cert.specs.declared.entry.Entry.{Entry}
use Rattle.dwg_cert.specs.Certificates.{HaveHandles}
use Rattle.dwg_cert.specs.WrittenForm.{MAGIC, stored, entry_bytes, certificate_bytes}

-- a sink that grew by some bytes and then by others grew by both
put_both : (first second third : Written) (some others : List ℕ) → Extends first second (bits some) → Extends second third (bits others) → Extends first third (bits (some ++ others))
put_both first second third some others one two =
    subst (Extends first third) (sym (bits_joined some others)) (extends_by_both first second third (bits some) (bits others) one two)

-- a sink that grew by the three numbers of an entry grew by the entry
pub entry_put : (s0 s1 s2 s3 : Written) (entry : Entry) (handle rank chain : ℕ) → handle ≡ entry.handle → rank ≡ stored entry.rank → chain ≡ stored entry.chain
    → Extends s0 s1 (bits (to_le_bytes w64 handle)) → Extends s1 s2 (bits (to_le_bytes w64 rank)) → Extends s2 s3 (bits (to_le_bytes w64 chain))
    → Extends s0 s3 (bits (entry_bytes entry))
unfolding entry_bytes
entry_put s0 s1 s2 s3 entry handle rank chain of_handle of_rank of_chain one two three =
    let prefix = to_le_bytes w64 handle ++ to_le_bytes w64 rank in
    let all = put_both s0 s2 s3 prefix (to_le_bytes w64 chain) (put_both s0 s1 s2 (to_le_bytes w64 handle) (to_le_bytes w64 rank) one two) three in
    let same : prefix ++ to_le_bytes w64 chain ≡ to_le_bytes w64 entry.handle ++ to_le_bytes w64 (stored entry.rank) ++ to_le_bytes w64 (stored entry.chain) =
    ap₂ ◌++◌ (ap₂ (λ a b. to_le_bytes w64 a ++ to_le_bytes w64 b) of_handle of_rank) (ap (to_le_bytes w64) of_chain) in
    subst (λ bytes. Extends s0 s3 (bits bytes)) same all

-- before the first entry none is written
pub no_entry_put : (sink : Written) (entries : List Entry) → Extends sink sink (bits (flat_map entry_bytes (take 0 entries)))
unfolding bits
no_entry_put sink entries = extends_by_none sink

-- with one entry more, one more is written
pub one_entry_put : (old mid new : Written) (entries : List Entry) (i : ℕ) (entry d : Entry) → i < length entries → entry ≡ get_or entries i d
    → Extends old mid (bits (flat_map entry_bytes (take i entries))) → Extends mid new (bits (entry_bytes entry)) → Extends old new (bits (flat_map entry_bytes (take (i + 1) entries)))
one_entry_put old mid new entries i entry d inside here so_far next =
    let more : take (i + 1) entries ≡ take i entries ++ entry ∷ [] = take_more entries i d inside ∙ ap (λ one. take i entries ++ one ∷ []) (sym here) in
    let one : flat_map entry_bytes (entry ∷ []) ≡ entry_bytes entry = append-nil (entry_bytes entry) in
    let all : flat_map entry_bytes (take (i + 1) entries) ≡ flat_map entry_bytes (take i entries) ++ entry_bytes entry =
    ap (flat_map entry_bytes) more ∙ flat_map-append entry_bytes (take i entries) (entry ∷ []) ∙ ap (λ last. flat_map entry_bytes (take i entries) ++ last) one in
    subst (λ bytes. Extends old new (bits bytes)) (sym all) (put_both old mid new (flat_map entry_bytes (take i entries)) (entry_bytes entry) so_far next)

-- with one handle more in range, one more is
pub one_handle_more : (entries : List Entry) (i : ℕ) (entry d : Entry) → i < length entries → entry ≡ get_or entries i d → entry.handle < 2 ^ 63
    → ((k : ℕ) (e : Entry) → k < i → (get_or entries k e).handle < 2 ^ 63) → (k : ℕ) (e : Entry) → k < i + 1 → (get_or entries k e).handle < 2 ^ 63
one_handle_more entries i entry d inside here small so_far k e below =
    elim (cases_eq k i) [
      | inl same ↦
          let read : get_or entries k e ≡ entry = ap (λ n. get_or entries n e) same ∙ (get_or_default entries i e d inside ∙ sym here) in
          subst (λ (one : Entry). one.handle < 2 ^ 63) (sym read) small
      | inr other ↦ so_far k e (omega arith)
    ]

-- where each handle is in range, the entries have handles
pub have_handles : (entries : List Entry) → ((k : ℕ) (d : Entry) → k < length entries → (get_or entries k d).handle < 2 ^ 63) → HaveHandles entries
have_handles [] small = tt
have_handles (entry ∷ entries) small = (small 0 entry (omega arith), have_handles entries (λ k d below. small (suc k) d (omega arith)))

-- a sink that grew by the begin, the count and the entries grew by the certificate
pub certificate_put : (s0 s1 s2 s3 : Written) (entries certificate : List Entry) → entries ≡ certificate → Extends s0 s1 (bits MAGIC) → Extends s1 s2 (bits (to_le_bytes w64 (length entries)))
    → Extends s2 s3 (bits (flat_map entry_bytes entries)) → Extends s0 s3 (bits (certificate_bytes certificate))
unfolding certificate_bytes
certificate_put s0 s1 s2 s3 entries certificate listed one two three =
    let to_count = put_both s0 s1 s2 MAGIC (to_le_bytes w64 (length entries)) one two in
    let all = put_both s0 s2 s3 (MAGIC ++ to_le_bytes w64 (length entries)) (flat_map entry_bytes entries) to_count three in
    subst (λ list. Extends s0 s3 (bits (MAGIC ++ to_le_bytes w64 (length list) ++ flat_map entry_bytes list))) listed all
