-- Values read at the begin of bytes.
use Rattle.std.proofs.Common.{◌≡◌, sym, ◌∙◌, ap, subst, ℕ, ◌^◌, ◌<◌, ◌≤◌, Bool, true, false, List, take, drop, length, get_or, Option, Some, None, arith}
use Rattle.std.specs.Prelude.{IfNone, nat_lt, if◌then◌else◌}
use Rattle.std.specs.Option.{option_and_then}
use Rattle.std.proofs.lemmas.Bool.Decides.{nat_tests}
use Rattle.std.proofs.lemmas.List.{take-append-drop, append_cancel_right}
use Rattle.dwg_base.specs.Bytes.{AreBytes}
use Rattle.dwg_base.proofs.ByteLists.{are_bytes}
use Rattle.dwg_grammar.specs.Grammar.{Grammar, IsCode, ReadsPrefix}
use Rattle.dwg_grammar.specs.Combinators.{restrict}
use Rattle.dwg_grammar.proofs.CodeLemmas.{reads_none}
use Rattle.dwg_grammar.specs.ModularCodes.{mc_within, mc}
use Rattle.dwg_grammar.proofs.ModularLemmas.{mc_is_code}

-- what holds anyway holds of no result
pub if_none : {X : Type 0} (result : Option X) (P : Type 0) → P → IfNone result P
if_none (Some x) P holds = tt
if_none None P holds = holds

-- a parse that leaves what is after some bytes read these bytes
pub prefix_read : {V : Type 0} (code : Grammar ℕ V) (bytes : List ℕ) (value : V) (used : ℕ) → IsCode AreBytes code → ((i : ℕ) → get_or bytes i 0 < 256)
    → used ≤ length bytes → code.parse bytes ≡ Some (value, drop used bytes) → ReadsPrefix code (Some (value, used)) bytes
prefix_read {V} code bytes value used is small within found =
    let prefix = is.sound bytes (drop used bytes) value (are_bytes bytes small) found in
    let same : prefix.0 ≡ take used bytes = append_cancel_right prefix.0 (take used bytes) (drop used bytes) (sym prefix.2 ∙ sym (take-append-drop used bytes)) in
    (within, subst (code.Spells value) same prefix.1)

-- a parse that doesn't answer read nothing
pub prefix_unread : {V : Type 0} (code : Grammar ℕ V) (bytes : List ℕ) → IsCode AreBytes code → code.parse bytes ≡ None → ReadsPrefix code None bytes
prefix_unread code bytes is none = (reads_none AreBytes code bytes is none).0

-- a value that passes the test is parsed
pub passed : {V : Type 0} (test : V → Bool) (code : Grammar ℕ V) (bytes rest : List ℕ) (value : V) → test value ≡ true
    → code.parse bytes ≡ Some (value, rest) → (restrict test code).parse bytes ≡ Some (value, rest)
passed {V} test code bytes rest value passes found =
    let kept : Bool → Option (V × List ℕ) = λ pass. if pass then Some (value, rest) else None in
    ap (option_and_then (λ (one : V × List ℕ). if test one.0 then Some one else None)) found ∙ ap kept passes

-- and one that doesn't pass is not
pub refused : {V : Type 0} (test : V → Bool) (code : Grammar ℕ V) (bytes rest : List ℕ) (value : V) → test value ≡ false
    → code.parse bytes ≡ Some (value, rest) → (restrict test code).parse bytes ≡ None
refused {V} test code bytes rest value fails found =
    let kept : Bool → Option (V × List ℕ) = λ pass. if pass then Some (value, rest) else None in
    ap (option_and_then (λ (one : V × List ℕ). if test one.0 then Some one else None)) found ∙ ap kept fails

-- nor is anything where nothing was
pub missing : {V : Type 0} (test : V → Bool) (code : Grammar ℕ V) (bytes : List ℕ) → code.parse bytes ≡ None → (restrict test code).parse bytes ≡ None
missing {V} test code bytes none = ap (option_and_then (λ (one : V × List ℕ). if test one.0 then Some one else None)) none

-- groups below 2^63 are an MC
pub mc_read : (bytes : List ℕ) (value used : ℕ) → ((i : ℕ) → get_or bytes i 0 < 256) → value < 2 ^ 63 → used ≤ length bytes
    → (mc_within 10).parse bytes ≡ Some (value, drop used bytes) → ReadsPrefix mc (Some (value, used)) bytes
mc_read bytes value used small below within found =
    prefix_read mc bytes value used mc_is_code small within
    (passed (λ value. nat_lt value (2 ^ 63)) (mc_within 10) bytes (drop used bytes) value (grind (arith, nat_tests)) found)

-- greater ones are none
pub mc_large : (bytes rest : List ℕ) (value : ℕ) → 2 ^ 63 ≤ value → (mc_within 10).parse bytes ≡ Some (value, rest) → ReadsPrefix mc None bytes
mc_large bytes rest value large found =
    prefix_unread mc bytes mc_is_code (refused (λ value. nat_lt value (2 ^ 63)) (mc_within 10) bytes rest value (grind (arith, nat_tests)) found)

-- and where there are no groups there is none
pub mc_missing : (bytes : List ℕ) → (mc_within 10).parse bytes ≡ None → ReadsPrefix mc None bytes
mc_missing bytes none = prefix_unread mc bytes mc_is_code (missing (λ value. nat_lt value (2 ^ 63)) (mc_within 10) bytes none)
