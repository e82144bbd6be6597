-- A pair read at the begin of bytes.
use Rattle.std.proofs.Common.{◌≡◌, sym, ◌∙◌, ap, ℕ, ◌+◌, ◌<◌, List, take, drop, get_or, Option, Some, None, arith}
use Rattle.std.specs.Prelude.{ℤ, option_map, option_and_then}
use Rattle.std.proofs.lemmas.List.{take-append-drop, drop-drop, get_or-drop}
use Rattle.dwg_base.specs.Bytes.{AreBytes}
use Rattle.dwg_base.proofs.ByteLists.{are_bytes}
use Rattle.dwg_grammar.specs.Grammar.{Grammar, IsCode, ReadsPrefix}
use Rattle.dwg_grammar.specs.ModularCodes.{mc, signed_mc}
use Rattle.dwg_grammar.proofs.ModularLemmas.{mc_is_code}
use Rattle.dwg_grammar.proofs.SignedLemmas.{signed_mc_is_code}
use Rattle.dwg_objmap.specs.declared.pair.Pair.{Pair}
use Rattle.dwg_objmap.specs.Pairs.{pair_at_steps, pair_after}
use Rattle.dwg_objmap.proofs.PairsTried.{none_parsed}

-- what is read at the begin is parsed
prefix_parsed : {V : Type 0} (code : Grammar ℕ V) (bytes : List ℕ) (value : V) (used : ℕ) → IsCode AreBytes code → ReadsPrefix code (Some (value, used)) bytes
    → code.parse bytes ≡ Some (value, drop used bytes)
prefix_parsed code bytes value used is reads =
    ap code.parse (sym (take-append-drop used bytes)) ∙ is.complete (take used bytes) (drop used bytes) value reads.1

-- and where nothing is read there, nothing is
prefix_missing : {V : Type 0} (code : Grammar ℕ V) (bytes : List ℕ) → IsCode AreBytes code → ((i : ℕ) → get_or bytes i 0 < 256) → ReadsPrefix code None bytes → code.parse bytes ≡ None
prefix_missing code bytes is small reads = none_parsed AreBytes code bytes is (are_bytes bytes small) reads

-- how a pair is parsed of its steps
then_pair : Pair → ℕ → ℤ × List ℕ → Option (Pair × List ℕ)
then_pair before step two = option_map (λ (pair : Pair). (pair, two.1)) (pair_at_steps before step two.0)

then_move : Pair → ℕ × List ℕ → Option (Pair × List ℕ)
then_move before one = option_and_then (then_pair before one.0) (signed_mc.parse one.1)

-- no step of the handle is spelled
pub no_step : (before : Pair) (bytes : List ℕ) → ReadsPrefix mc None bytes → ((i : ℕ) → get_or bytes i 0 < 256) → (pair_after before).parse bytes ≡ None
unfolding pair_after then_move then_pair
no_step before bytes reads small = ap (option_and_then (then_move before)) (prefix_missing mc bytes mc_is_code small reads)

-- no step of the place is spelled after it
pub no_move : (before : Pair) (bytes rest : List ℕ) (step prefix : ℕ) → ReadsPrefix mc (Some (step, prefix)) bytes → rest ≡ drop prefix bytes → ReadsPrefix signed_mc None rest
    → ((i : ℕ) → get_or bytes i 0 < 256) → (pair_after before).parse bytes ≡ None
unfolding pair_after then_move then_pair
no_move before bytes rest step prefix reads after none small =
    ap (option_and_then (then_move before)) (prefix_parsed mc bytes step prefix mc_is_code reads)
    ∙ ap (option_and_then (then_pair before step)) (ap signed_mc.parse (sym after) ∙ prefix_missing signed_mc rest signed_mc_is_code small_rest none)
  where
    small_rest : (i : ℕ) → get_or rest i 0 < 256
    small_rest i = let here = ap (λ left. get_or left i 0) after ∙ get_or-drop prefix bytes i 0 in omega (arith, small (prefix + i))

-- what the steps of a pair lead to
steps_parsed : (before : Pair) (bytes rest : List ℕ) (step prefix : ℕ) (move : ℤ) (back : ℕ) → ReadsPrefix mc (Some (step, prefix)) bytes → rest ≡ drop prefix bytes
    → ReadsPrefix signed_mc (Some (move, back)) rest → (pair_after before).parse bytes ≡ option_map (λ (pair : Pair). (pair, drop (prefix + back) bytes)) (pair_at_steps before step move)
unfolding pair_after then_move then_pair
steps_parsed before bytes rest step prefix move back reads after reads_move =
    ap (option_and_then (then_move before)) (prefix_parsed mc bytes step prefix mc_is_code reads)
    ∙ ap (option_and_then (then_pair before step)) (ap signed_mc.parse (sym after) ∙ prefix_parsed signed_mc rest move back signed_mc_is_code reads_move)
    ∙ ap (λ (left : List ℕ). option_map (λ (pair : Pair). (pair, left)) (pair_at_steps before step move)) (ap (drop back) after ∙ drop-drop back prefix bytes)

-- the steps lead out of the ranges
pub out_of_range : (before : Pair) (bytes rest : List ℕ) (step prefix : ℕ) (move : ℤ) (back : ℕ) → ReadsPrefix mc (Some (step, prefix)) bytes → rest ≡ drop prefix bytes
    → ReadsPrefix signed_mc (Some (move, back)) rest → pair_at_steps before step move ≡ None → (pair_after before).parse bytes ≡ None
out_of_range before bytes rest step prefix move back reads after reads_move none =
    steps_parsed before bytes rest step prefix move back reads after reads_move ∙ ap (option_map (λ (pair : Pair). (pair, drop (prefix + back) bytes))) none

-- the steps lead to a pair
pub pair_found : (before pair : Pair) (bytes rest : List ℕ) (step prefix : ℕ) (move : ℤ) (back : ℕ) → ReadsPrefix mc (Some (step, prefix)) bytes → rest ≡ drop prefix bytes
    → ReadsPrefix signed_mc (Some (move, back)) rest → pair_at_steps before step move ≡ Some pair → (pair_after before).parse bytes ≡ Some (pair, drop (prefix + back) bytes)
pair_found before pair bytes rest step prefix move back reads after reads_move found =
    steps_parsed before bytes rest step prefix move back reads after reads_move ∙ ap (option_map (λ (pair : Pair). (pair, drop (prefix + back) bytes))) found
