-- Entries read one by one.
use Rattle.std.proofs.Common.{◌≡◌, refl, sym, ◌∙◌, ap, ap₂, ℕ, ◌+◌, ◌-◌, ◌<◌, true, false, List, [], ◌∷◌, ◌++◌, Option, Some, None, length, arith}
use Rattle.std.specs.Prelude.{Ok, Err, map, find}
use Rattle.std.specs.List.{range_with_len}
use Rattle.std.proofs.lemmas.List.FromFn.{length-map-range_with_len, map-range_with_len_more}
use Rattle.dwg_base.specs.Refusal.{Refusal}
use Rattle.dwg_cert.specs.declared.entry.Entry.{Entry}
use Rattle.dwg_cert.specs.CertificateLines.{count_at, entry_stated_at, entry_fails, entry_refusal, entries_at, first_failing, least_handle, tried_entries, tried_certificate}
use Rattle.dwg_cert.proofs.EntryTests.{least_after}
use Rattle.dwg_base.proofs.RangeSearch.{found_here, found_after, found_nowhere}

-- where none fails, the entries are given
pub tried_of_none : (bytes : List ℕ) → first_failing bytes ≡ None → tried_certificate bytes ≡ Ok (entries_at bytes)
unfolding tried_certificate
tried_of_none bytes none = ap (tried_entries (entries_at bytes)) none

-- where one is the first that fails, its refusal is
pub tried_of_some : (bytes : List ℕ) (index : ℕ) → first_failing bytes ≡ Some index → tried_certificate bytes ≡ Err (entry_refusal index)
unfolding tried_certificate
tried_of_some bytes index some = ap (tried_entries (entries_at bytes)) some

-- entries that are given: none of them fails
pub none_of_tried : (bytes : List ℕ) (entries : List Entry) → tried_certificate bytes ≡ Ok entries → (first_failing bytes ≡ None) × (entries_at bytes ≡ entries)
unfolding tried_certificate
none_of_tried bytes entries tried = given (first_failing bytes) refl tried
  where
    given : (found : Option ℕ) → first_failing bytes ≡ found → tried_entries (entries_at bytes) found ≡ Ok entries → (first_failing bytes ≡ None) × (entries_at bytes ≡ entries)
    given None same tried = (same, cc)
    given (Some index) same tried = absurd cc

-- a refusal that is given: it is that of the first that fails
pub some_of_tried : (bytes : List ℕ) (refusal : Refusal) → tried_certificate bytes ≡ Err refusal → (index : ℕ) × (first_failing bytes ≡ Some index) × (refusal ≡ entry_refusal index)
unfolding tried_certificate
some_of_tried bytes refusal tried = given (first_failing bytes) refl tried
  where
    given : (found : Option ℕ) → first_failing bytes ≡ found → tried_entries (entries_at bytes) found ≡ Err refusal → (index : ℕ) × (first_failing bytes ≡ Some index) × (refusal ≡ entry_refusal index)
    given None same tried = absurd cc
    given (Some index) same tried = (index, same, cc)

-- as many entries as the input says
pub length_of_read : (bytes : List ℕ) (entries : List Entry) → tried_certificate bytes ≡ Ok entries → length entries ≡ count_at bytes
unfolding entries_at
length_of_read bytes entries tried = ap length (sym (none_of_tried bytes entries tried).1) ∙ length-map-range_with_len (entry_stated_at bytes) 0 (count_at bytes)

-- the entry after others that pass fails: it is refused
pub entry_refused : (bytes : List ℕ) (index count : ℕ) → count ≡ count_at bytes → index < count → entry_fails bytes index ≡ true
    → find (entry_fails bytes) (range_with_len index (count - index)) ≡ find (entry_fails bytes) (range_with_len 0 count) → tried_certificate bytes ≡ Err (entry_refusal index)
unfolding first_failing
entry_refused bytes index count counted inside fails left =
    tried_of_some bytes index
    (ap (λ n. find (entry_fails bytes) (range_with_len 0 n)) (sym counted) ∙ (sym left ∙ found_here (entry_fails bytes) index count inside fails))

-- with one entry more, one more is read
pub entry_read : (bytes : List ℕ) (old new : List Entry) (index : ℕ) (entry : Entry) → old ≡ map (entry_stated_at bytes) (range_with_len 0 index) → entry ≡ entry_stated_at bytes index → new ≡ old ++ entry ∷ []
    → new ≡ map (entry_stated_at bytes) (range_with_len 0 (index + 1))
entry_read bytes old new index entry so_far same grew =
    grew ∙ ap₂ (λ (prefix : List Entry) (last : Entry). prefix ++ last ∷ []) so_far same ∙ sym (map-range_with_len_more (entry_stated_at bytes) 0 index index (omega arith))

-- the least handle after it is one above its own
pub least_read : (bytes : List ℕ) (index : ℕ) (entry : Entry) (handle : ℕ) → entry ≡ entry_stated_at bytes index → handle ≡ entry.handle → handle + 1 ≡ least_handle bytes (index + 1)
unfolding entry_stated_at
least_read bytes index entry handle same read =
    ap (λ n. n + 1) (read ∙ ap (λ (one : Entry). one.handle) same) ∙ sym (least_after bytes index)

-- and the search goes on after it
pub search_goes_on : (bytes : List ℕ) (index count : ℕ) → index < count → entry_fails bytes index ≡ false
    → find (entry_fails bytes) (range_with_len index (count - index)) ≡ find (entry_fails bytes) (range_with_len 0 count)
    → find (entry_fails bytes) (range_with_len (index + 1) (count - (index + 1))) ≡ find (entry_fails bytes) (range_with_len 0 count)
search_goes_on bytes index count inside holds left = found_after (entry_fails bytes) index count inside holds ∙ left

-- where no entry is left, all are given
pub entries_read : (bytes : List ℕ) (items entries : List Entry) (index count : ℕ) → count ≡ count_at bytes → index ≡ count → items ≡ map (entry_stated_at bytes) (range_with_len 0 index)
    → find (entry_fails bytes) (range_with_len index (count - index)) ≡ find (entry_fails bytes) (range_with_len 0 count) → entries ≡ items → tried_certificate bytes ≡ Ok entries
unfolding first_failing entries_at
entries_read bytes items entries index count counted last read left same =
    let none : first_failing bytes ≡ None =
    ap (λ n. find (entry_fails bytes) (range_with_len 0 n)) (sym counted) ∙ (sym left ∙ found_nowhere (entry_fails bytes) index count (omega arith)) in
    let all : entries ≡ entries_at bytes = same ∙ (read ∙ ap (λ n. map (entry_stated_at bytes) (range_with_len 0 n)) (last ∙ counted)) in
    tried_of_none bytes none ∙ ap (λ (list : List Entry). Ok list) (sym all)
