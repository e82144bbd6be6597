-- Entries in turn are those of a certificate exactly where none of them fails.
use Rattle.std.proofs.Common.{◌≡◌, refl, sym, ◌∙◌, ap, subst, inl, inr, ℕ, zero, suc, ◌+◌, ◌^◌, ◌<◌, ◌≤◌, List, [], ◌∷◌, length, get_or, map, arith}
use Rattle.std.specs.List.{range_with_len}
use Rattle.std.proofs.lemmas.Bool.{cases_eq}
use Rattle.std.proofs.lemmas.List.FromFn.{length-map-range_with_len, get_or-map-range_with_len}
use Rattle.dwg_cert.specs.declared.entry.Entry.{Entry}
use Rattle.dwg_cert.specs.Certificates.{IsSmallEntry, HandlesAscend, IsCertificate, HaveHandles}
use Rattle.dwg_cert.specs.CertificateLines.{stored_handle_at, least_handle, entry_stated_at}
use Rattle.dwg_cert.proofs.EntryTests.{Passes, least_first, least_after}
use Rattle.dwg_base.proofs.RangeSearch.{all_in_turn, each_in_turn}
use Rattle.dwg_cert.proofs.StoredNumbers.{small_unstored, unstored_small}

-- the first so many entries that the bytes say
abbrev pub first_entries : List ℕ → ℕ → List Entry
first_entries bytes count = map (entry_stated_at bytes) (range_with_len 0 count)

-- the handle of an entry is the one that is stored
pub handle_of_entry : (bytes : List ℕ) (index : ℕ) → (entry_stated_at bytes index).handle ≡ stored_handle_at bytes index
unfolding entry_stated_at
handle_of_entry bytes index = refl

-- an entry that passes is small
small_of_passing : (bytes : List ℕ) (index : ℕ) → Passes bytes index → IsSmallEntry (entry_stated_at bytes index)
unfolding entry_stated_at
small_of_passing bytes index passes = record { rank = small_unstored _ passes.rank; chain = small_unstored _ passes.chain }

-- handles climb where each entry passes
climbs : (bytes : List ℕ) (count : ℕ) → ((k : ℕ) → k < count → Passes bytes k) → (i j : ℕ) → i < j → j < count → stored_handle_at bytes i < stored_handle_at bytes j
climbs bytes count passes i zero before inside = absurd (omega arith)
climbs bytes count passes i (suc j) before inside =
    let next : j + 1 ≡ suc j = omega arith in
    let least : least_handle bytes (suc j) ≤ stored_handle_at bytes (suc j) = (passes (suc j) inside).least in
    let step : stored_handle_at bytes j < stored_handle_at bytes (suc j) = omega (arith, least_after bytes j, ap (least_handle bytes) next) in
    elim (cases_eq i j) [
      | inl same ↦ subst (λ n. stored_handle_at bytes n < stored_handle_at bytes (suc j)) (sym same) step
      | inr other ↦ omega (arith, climbs bytes count passes i j (omega arith) (omega arith))
    ]

-- entries in turn stand where they are read
pub entry_in_turn : (bytes : List ℕ) (count index : ℕ) (d : Entry) → index < count → get_or (first_entries bytes count) index d ≡ entry_stated_at bytes index
entry_in_turn bytes count index d inside = get_or-map-range_with_len (entry_stated_at bytes) 0 count index index d inside (omega arith)

-- so their handles ascend
ascending_of_passing : (bytes : List ℕ) (count : ℕ) → ((k : ℕ) → k < count → Passes bytes k) → HandlesAscend (first_entries bytes count)
ascending_of_passing bytes count passes i j d before inside =
    let counted : length (first_entries bytes count) ≡ count = length-map-range_with_len (entry_stated_at bytes) 0 count in
    let within : j < count = omega arith in
    let one : (get_or (first_entries bytes count) i d).handle ≡ stored_handle_at bytes i =
    ap (λ (entry : Entry). entry.handle) (entry_in_turn bytes count i d (omega arith)) ∙ handle_of_entry bytes i in
    let other : (get_or (first_entries bytes count) j d).handle ≡ stored_handle_at bytes j =
    ap (λ (entry : Entry). entry.handle) (entry_in_turn bytes count j d within) ∙ handle_of_entry bytes j in
    omega (arith, climbs bytes count passes i j before within)

-- entries that pass are those of a certificate
pub certificate_of_passing : (bytes : List ℕ) (count : ℕ) → ((k : ℕ) → k < count → Passes bytes k) → IsCertificate (first_entries bytes count)
certificate_of_passing bytes count passes = record {
  ascending = ascending_of_passing bytes count passes;
  small = all_in_turn IsSmallEntry (entry_stated_at bytes) 0 count (λ k least below. small_of_passing bytes k (passes k (omega arith)));
}

-- and their handles lie in their range
pub handles_of_passing : (bytes : List ℕ) (count : ℕ) → ((k : ℕ) → k < count → Passes bytes k) → HaveHandles (first_entries bytes count)
handles_of_passing bytes count passes =
    all_in_turn (λ (entry : Entry). entry.handle < 2 ^ 63) (entry_stated_at bytes) 0 count (λ k least below. omega (arith, handle_of_entry bytes k, (passes k (omega arith)).handle))

-- of a certificate each entry has a handle that it may have
least_of_certificate : (bytes : List ℕ) (count : ℕ) → HandlesAscend (first_entries bytes count) → (k : ℕ) → k < count → least_handle bytes k ≤ stored_handle_at bytes k
least_of_certificate bytes count ascend zero inside = omega (arith, least_first bytes)
least_of_certificate bytes count ascend (suc k) inside =
    let counted : length (first_entries bytes count) ≡ count = length-map-range_with_len (entry_stated_at bytes) 0 count in
    let next : k + 1 ≡ suc k = omega arith in
    let d = entry_stated_at bytes 0 in
    let one : (get_or (first_entries bytes count) k d).handle ≡ stored_handle_at bytes k =
    ap (λ (entry : Entry). entry.handle) (entry_in_turn bytes count k d (omega arith)) ∙ handle_of_entry bytes k in
    let other : (get_or (first_entries bytes count) (suc k) d).handle ≡ stored_handle_at bytes (suc k) =
    ap (λ (entry : Entry). entry.handle) (entry_in_turn bytes count (suc k) d inside) ∙ handle_of_entry bytes (suc k) in
    let climb : (get_or (first_entries bytes count) k d).handle < (get_or (first_entries bytes count) (suc k) d).handle = ascend k (suc k) d (omega arith) (omega arith) in
    omega (arith, least_after bytes k, ap (least_handle bytes) next)

-- so each passes
pub passing_of_certificate : (bytes : List ℕ) (count : ℕ) → IsCertificate (first_entries bytes count) → HaveHandles (first_entries bytes count) → (k : ℕ) → k < count → Passes bytes k
unfolding entry_stated_at
passing_of_certificate bytes count is have k inside =
    let small = each_in_turn IsSmallEntry (entry_stated_at bytes) 0 count is.small k (omega arith) (omega arith) in
    record {
      least = least_of_certificate bytes count is.ascending k inside;
      handle = each_in_turn (λ (entry : Entry). entry.handle < 2 ^ 63) (entry_stated_at bytes) 0 count have k (omega arith) (omega arith);
      rank = unstored_small _ small.rank;
      chain = unstored_small _ small.chain;
    }

-- each handle that ascends is at least the index that it stands at
index_below : (entries : List Entry) → HandlesAscend entries → (k : ℕ) (d : Entry) → k < length entries → k ≤ (get_or entries k d).handle
index_below entries ascend zero d inside = omega arith
index_below entries ascend (suc k) d inside = omega (arith, index_below entries ascend k d (omega arith), ascend k (suc k) d (omega arith) inside)

-- a handle in its range, by its index
handle_in_range : (entries : List Entry) → HaveHandles entries → (k : ℕ) (d : Entry) → k < length entries → (get_or entries k d).handle < 2 ^ 63
handle_in_range [] have k d inside = absurd (omega arith)
handle_in_range (entry ∷ entries) have zero d inside = have.0
handle_in_range (entry ∷ entries) have (suc k) d inside = handle_in_range entries have.1 k d (omega arith)

-- so a certificate has at most 2^63 entries
pub entries_are_few : (entries : List Entry) → HandlesAscend entries → HaveHandles entries → length entries ≤ 2 ^ 63
entries_are_few [] ascend have = omega arith
entries_are_few (entry ∷ entries) ascend have =
    let last : length entries < length (entry ∷ entries) = omega arith in
    omega (arith, index_below (entry ∷ entries) ascend (length entries) entry last, handle_in_range (entry ∷ entries) have (length entries) entry last)
