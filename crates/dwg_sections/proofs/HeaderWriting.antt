-- A file header that is written piece by piece.
use Rattle.std.proofs.Common.{◌≡◌, ℕ, ◌+◌, ◌<◌, List, [], ◌∷◌, ◌++◌, length, take, get_or, sym, ap, ap₂, subst, ◌∙◌, w16, w32, append-nil}
use Rattle.std.specs.List.{flat_map}
use Rattle.std.specs.Int.{to_le_bytes}
use Rattle.std.proofs.lemmas.List.{take_more}
use Rattle.std.proofs.lemmas.List.Concat.{flat_map-append}
use Rattle.dwg_base.specs.Versions.{version_bytes}
use Rattle.dwg_bits.specs.Bits.{bits}
use Rattle.dwg_bits.specs.Sink.{Written, Extends}
use Rattle.dwg_check.specs.CheckWord.{header_check_word}
use Rattle.dwg_sections.specs.declared.header.Locator.{Locator}
use Rattle.dwg_sections.specs.declared.header.FileHeader.{FileHeader}
use Rattle.dwg_sections.specs.FileHeader.{HEADER_SENTINEL, locator_bytes, header_prefix, header_bytes}
use Rattle.dwg_sections.specs.Writing.{Puts}
use Rattle.dwg_sections.proofs.BytePuts.{puts_none, puts_both}

-- a sink that grew by the number, the place and the size grew by the locator
pub locator_written : (first second third fourth : Written) (locator : Locator) (place size : List ℕ) → place ≡ to_le_bytes w32 locator.place → size ≡ to_le_bytes w32 locator.size
    → Puts first second (locator.number ∷ []) → Puts second third place → Puts third fourth size
    → Puts first fourth (locator_bytes locator)
locator_written first second third fourth locator place size at_place at_size one two three =
    let after = puts_both second third fourth place size two three in
    subst (Puts first fourth) (ap (λ bytes. locator.number ∷ bytes) (ap₂ ◌++◌ at_place at_size))
    (puts_both first second fourth (locator.number ∷ []) (place ++ size) one after)

-- before the first locator none is written
pub no_locator_written : (sink : Written) (locators : List Locator) → Puts sink sink (flat_map locator_bytes (take 0 locators))
no_locator_written sink locators = puts_none sink

-- with one locator more, one more is written
pub one_locator_written : (old mid new : Written) (locators : List Locator) (i : ℕ) (locator d : Locator) → i < length locators → locator ≡ get_or locators i d
    → Puts old mid (flat_map locator_bytes (take i locators)) → Puts mid new (locator_bytes locator) → Puts old new (flat_map locator_bytes (take (i + 1) locators))
one_locator_written old mid new locators i locator d inside here so_far next =
    let more : take (i + 1) locators ≡ take i locators ++ locator ∷ [] = take_more locators i d inside ∙ ap (λ one. take i locators ++ one ∷ []) (sym here) in
    let one : flat_map locator_bytes (locator ∷ []) ≡ locator_bytes locator = append-nil (locator_bytes locator) in
    let all : flat_map locator_bytes (take (i + 1) locators) ≡ flat_map locator_bytes (take i locators) ++ locator_bytes locator =
    ap (flat_map locator_bytes) more ∙ flat_map-append locator_bytes (take i locators) (locator ∷ []) ∙ ap (λ last. flat_map locator_bytes (take i locators) ++ last) one in
    subst (Puts old new) (sym all) (puts_both old mid new (flat_map locator_bytes (take i locators)) (locator_bytes locator) so_far next)

-- a sink that grew by one field after the other grew by the prefix
pub prefix_written : (s0 s1 s2 s3 s4 s5 s6 s7 : Written) (header : FileHeader) (version preview code_page count : List ℕ) (locators : List Locator)
    → version ≡ version_bytes header.version → locators ≡ header.locators → preview ≡ to_le_bytes w32 header.preview → code_page ≡ to_le_bytes w16 header.code_page → count ≡ to_le_bytes w32 (length locators)
    → Puts s0 s1 version → Puts s1 s2 header.lead → Puts s2 s3 preview → Puts s3 s4 header.mark → Puts s4 s5 code_page → Puts s5 s6 count → Puts s6 s7 (flat_map locator_bytes locators)
    → Puts s0 s7 (header_prefix header)
prefix_written s0 s1 s2 s3 s4 s5 s6 s7 header version preview code_page count locators versioned listed previewed paged counted one two three four five six seven =
    let to_lead = puts_both s0 s1 s2 version header.lead one two in
    let to_preview = puts_both s0 s2 s3 (version ++ header.lead) preview to_lead three in
    let to_mark = puts_both s0 s3 s4 (version ++ header.lead ++ preview) header.mark to_preview four in
    let to_code_page = puts_both s0 s4 s5 (version ++ header.lead ++ preview ++ header.mark) code_page to_mark five in
    let to_count = puts_both s0 s5 s6 (version ++ header.lead ++ preview ++ header.mark ++ code_page) count to_code_page six in
    let all = puts_both s0 s6 s7 (version ++ header.lead ++ preview ++ header.mark ++ code_page ++ count) (flat_map locator_bytes locators) to_count seven in
    let to_13 = ap₂ (λ begin field. begin ++ header.lead ++ field) versioned previewed in
    let to_21 = ap₂ (λ prefix field. prefix ++ header.mark ++ field) to_13 paged in
    let to_25 = ap₂ ◌++◌ to_21 (counted ∙ ap (λ list. to_le_bytes w32 (length list)) listed) in
    subst (Puts s0 s7) (ap₂ ◌++◌ to_25 (ap (flat_map locator_bytes) listed)) all

-- a sink that grew by the prefix, the check word and the sentinel grew by the header
pub header_written : (first second third fourth : Written) (header : FileHeader) (held check : List ℕ) (locators : List Locator) (word : ℕ)
    → locators ≡ header.locators → held ≡ header_prefix header → word ≡ header_check_word (length locators) held → check ≡ to_le_bytes w16 word
    → Puts first second (header_prefix header) → Puts second third check → Puts third fourth HEADER_SENTINEL
    → Extends first fourth (bits (header_bytes header))
header_written first second third fourth header held check locators word listed same checked spelled one two three =
    let to_check = puts_both first second third (header_prefix header) check one two in
    let all = puts_both first third fourth (header_prefix header ++ check) HEADER_SENTINEL to_check three in
    let right : check ≡ to_le_bytes w16 (header_check_word (length header.locators) (header_prefix header)) =
    spelled ∙ ap (to_le_bytes w16) (checked ∙ ap₂ header_check_word (ap length listed) same) in
    subst (λ bytes. Extends first fourth (bits bytes)) (ap (λ piece. header_prefix header ++ piece ++ HEADER_SENTINEL) right) all.written
