-- Reading and writing six bytes of a word against a default.
use Rattle.std.proofs.Common.{◌≡◌, refl, ℕ, ◌+◌, ◌*◌, ◌/◌, ◌^◌, Bool, List, ◌++◌, length, Option, Some, None, arith}
use Rattle.std.proofs.lemmas.List.{length-append}
use Rattle.dwg_grammar.specs.Grammar.{Grammar, BeginsWith, Reads}
use Rattle.dwg_grammar.specs.Combinators.{seq}
use Rattle.dwg_grammar.specs.Codes.{rc, rl, dd_by}
use Rattle.dwg_grammar.proofs.NumberLemmas.{rc_is_code, length_of_rc, length_of_rl}
use Rattle.dwg_codes.proofs.SeqReading.{unread_through, seq_read, first_unread, second_unread}

-- the sixth byte and then the four low ones
abbrev sixth_and_low : Grammar Bool (ℕ × ℕ)
sixth_and_low = seq rc (λ sixth. rl)

-- the fifth byte and then those
abbrev six_bytes : Grammar Bool (ℕ × (ℕ × ℕ))
six_bytes = seq rc (λ fifth. sixth_and_low)

-- six bytes that were read give a word
pub six_read : (default fifth sixth low value : ℕ) (old after_fifth after_sixth new : List Bool) → value ≡ default / 2 ^ 48 * 2 ^ 48 + sixth * 2 ^ 40 + fifth * 2 ^ 32 + low
    → Reads rc (Some fifth) old after_fifth → Reads rc (Some sixth) after_fifth after_sixth → Reads rl (Some low) after_sixth new → Reads (dd_by default 2) (Some value) old new
six_read default fifth sixth low value old after_fifth after_sixth new same one two three =
    let others = seq_read rc (λ sixth. rl) sixth low after_fifth after_sixth new two three in
    let all = seq_read rc (λ fifth. sixth_and_low) fifth (sixth, low) old after_fifth new one others in
    (all.0, ((fifth, (sixth, low)), same, all.1), all.2)

-- where there aren't six bytes, there is no word
none_read : (default : ℕ) (result : Option ℕ) (old : List Bool) → result ≡ None → (BeginsWith six_bytes old → ⊥) → Reads (dd_by default 2) result old old
none_read default result old none unread = unread_through six_bytes (dd_by default 2) result old old (λ value prefix spelled. (spelled.0, spelled.2)) none unread refl

-- there is no fifth byte
pub fifth_unread : (default : ℕ) (result : Option ℕ) (old left : List Bool) → result ≡ None → Reads rc None old left → Reads (dd_by default 2) result old old
fifth_unread default result old left none one = none_read default result old none (first_unread rc (λ fifth. sixth_and_low) old one.0)

-- there is no sixth byte after the fifth
pub sixth_unread : (default fifth : ℕ) (result : Option ℕ) (old after_fifth left : List Bool) → result ≡ None
    → Reads rc (Some fifth) old after_fifth → Reads rc None after_fifth left → Reads (dd_by default 2) result old old
sixth_unread default fifth result old after_fifth left none one two =
    none_read default result old none
    (second_unread rc (λ fifth. sixth_and_low) fifth old after_fifth rc_is_code one (first_unread rc (λ sixth. rl) after_fifth two.0))

-- there are no four bytes after these
pub low_unread : (default fifth sixth : ℕ) (result : Option ℕ) (old after_fifth after_sixth left : List Bool) → result ≡ None
    → Reads rc (Some fifth) old after_fifth → Reads rc (Some sixth) after_fifth after_sixth → Reads rl None after_sixth left → Reads (dd_by default 2) result old old
low_unread default fifth sixth result old after_fifth after_sixth left none one two three =
    none_read default result old none
    (second_unread rc (λ fifth. sixth_and_low) fifth old after_fifth rc_is_code one
    (second_unread rc (λ sixth. rl) sixth after_fifth after_sixth rc_is_code two three.0))

-- six bytes are written by 48 bits
pub six_counted : (fifth sixth low : ℕ) → length (rc.short fifth ++ (rc.short sixth ++ rl.short low)) ≡ 48
six_counted fifth sixth low =
    omega (arith, length-append (rc.short fifth) (rc.short sixth ++ rl.short low), length-append (rc.short sixth) (rl.short low), length_of_rc fifth, length_of_rc sixth, length_of_rl low)
