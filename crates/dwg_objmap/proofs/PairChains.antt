-- The pairs of a page as they are tried, pair by pair, and as they are spelled.
use Rattle.std.proofs.Common.{◌≡◌, refl, sym, ◌∙◌, ap, ap₂, ℕ, zero, suc, ◌+◌, ◌-◌, ◌<◌, Bool, true, false, List, [], ◌∷◌, ◌++◌, length, Some, None, arith, append_assoc, length-append}
use Rattle.std.specs.Prelude.{◌==◌, Ok, Err, if◌then◌else◌}
use Rattle.std.proofs.lemmas.Bool.Decides.{nat_tests}
use Rattle.std.proofs.lemmas.List.{append-nil}
use Rattle.dwg_base.specs.Refusals.{Tried}
use Rattle.dwg_grammar.specs.Combinators.{SpellsChain}
use Rattle.dwg_grammar.specs.ModularCodes.{mc_within, mc}
use Rattle.dwg_objmap.specs.declared.pair.Pair.{Pair}
use Rattle.dwg_objmap.specs.Pairs.{IsPair, ORIGIN, PairSpells, pair_after}
use Rattle.dwg_objmap.specs.Pages.{PairsSpell, AreHandles, handles_of}
use Rattle.dwg_objmap.specs.MapLines.{map_refusal, last_of, has_handle, with_pair, pairs_after, FailsAtPair}

-- pairs after a pair, one after the other
abbrev pub SpellAfter : Pair → List Pair → List ℕ → Type 0
SpellAfter before pairs bytes = SpellsChain pair_after (λ pair. pair) before pairs bytes

-- the first pair of a page is written from a pair
pub origin_is_pair : IsPair ORIGIN
origin_is_pair = record { handle = omega arith; place = omega arith }

-- what is spelled after a pair is a pair
pub spelled_is_pair : (before pair : Pair) (bytes : List ℕ) → (pair_after before).Spells pair bytes → IsPair pair
unfolding pair_after
spelled_is_pair before pair bytes spelled = spelled.in_range

-- what is written from a pair is spelled after it
pub spells_pair : (before pair : Pair) (bytes : List ℕ) → PairSpells before pair bytes → (pair_after before).Spells pair bytes
unfolding pair_after
spells_pair before pair bytes spelled = spelled

-- the last of pairs that are spelled is a pair
pub last_is_pair : (pairs : List Pair) (before : Pair) (bytes : List ℕ) → IsPair before → SpellAfter before pairs bytes → IsPair (last_of before pairs)
last_is_pair [] before bytes fits spelled = fits
last_is_pair (pair ∷ pairs) before bytes fits (prefix, back, first, others, same) = last_is_pair pairs pair back (spelled_is_pair before pair prefix first) others

-- the last of pairs and one more is this one
pub last_of_more : (pairs : List Pair) (before pair : Pair) → last_of before (pairs ++ pair ∷ []) ≡ pair
last_of_more [] before pair = refl
last_of_more (other ∷ pairs) before pair = last_of_more pairs other pair

-- pairs, and then one more after the last of them
pub spell_more : (pairs : List Pair) (before pair : Pair) (prefix spelling : List ℕ) → SpellAfter before pairs prefix → (pair_after (last_of before pairs)).Spells pair spelling
    → SpellAfter before (pairs ++ pair ∷ []) (prefix ++ spelling)
spell_more [] before pair prefix spelling spelled one = (spelling, [], one, refl, ap (λ first. first ++ spelling) spelled ∙ sym (append-nil spelling))
spell_more (other ∷ pairs) before pair prefix spelling (first, rest, one_spelled, others, same) one = (
  first,
  rest ++ spelling,
  one_spelled,
  spell_more pairs other pair rest spelling others one,
  ap (λ all. all ++ spelling) same ∙ append_assoc first rest spelling,
)

-- an MC isn't spelled by no bytes
mc_has_bytes : (value : ℕ) (bytes : List ℕ) → mc.Spells value bytes → 0 < length bytes
unfolding mc_within
mc_has_bytes value bytes spelled = omega (arith, ap length spelled.1.5, ap length spelled.1.3.1, length-append spelled.1.1 spelled.1.2)

-- so neither is a pair
pub pair_has_bytes : (before pair : Pair) (bytes : List ℕ) → (pair_after before).Spells pair bytes → 0 < length bytes
unfolding pair_after
pair_has_bytes before pair bytes spelled =
    omega (arith, mc_has_bytes spelled.step spelled.prefix spelled.step_spelled, ap length spelled.whole, length-append spelled.prefix spelled.back)

-- where no bytes are left, the pairs seen are all
pub pairs_end : (fuel index place : ℕ) (seen : List Pair) (last : Pair) → pairs_after fuel index seen last place [] ≡ Ok seen
unfolding pairs_after
pairs_end zero index place seen last = refl
pairs_end (suc fuel) index place seen last = refl

-- where bytes are left, a parse says how it goes on
pairs_go_on : (fuel index place : ℕ) (seen : List Pair) (last : Pair) (bytes : List ℕ) → 0 < length bytes
    → pairs_after (suc fuel) index seen last place bytes
    ≡ with_pair index seen place (λ pair rest. pairs_after fuel index (seen ++ pair ∷ []) pair (place + (length bytes - length rest)) rest) ((pair_after last).parse bytes)
unfolding pairs_after
pairs_go_on fuel index place seen last [] some = absurd (omega arith)
pairs_go_on fuel index place seen last (byte ∷ bytes) some = refl

-- what is left begins with no pair
pub no_pair : (fuel index place : ℕ) (seen : List Pair) (last : Pair) (bytes : List ℕ) → 0 < length bytes → (pair_after last).parse bytes ≡ None
    → pairs_after (suc fuel) index seen last place bytes ≡ Err (map_refusal 24 index place)
no_pair fuel index place seen last bytes some none =
    pairs_go_on fuel index place seen last bytes some
    ∙ ap (with_pair index seen place (λ pair rest. pairs_after fuel index (seen ++ pair ∷ []) pair (place + (length bytes - length rest)) rest)) none

-- the next pair has the null handle
pub null_pair : (fuel index place : ℕ) (seen : List Pair) (last pair : Pair) (bytes rest : List ℕ) → 0 < length bytes → (pair_after last).parse bytes ≡ Some (pair, rest) → pair.handle ≡ 0
    → pairs_after (suc fuel) index seen last place bytes ≡ Err (map_refusal 25 index place)
null_pair fuel index place seen last pair bytes rest some found null =
    let is : (pair.handle == 0) ≡ true = grind (arith, nat_tests) in
    pairs_go_on fuel index place seen last bytes some
    ∙ ap (with_pair index seen place (λ pair rest. pairs_after fuel index (seen ++ pair ∷ []) pair (place + (length bytes - length rest)) rest)) found
    ∙ ap (λ (test : Bool). if test then Err (map_refusal 25 index place) else (if has_handle seen pair.handle then Err (map_refusal 26 index place)
    else pairs_after fuel index (seen ++ pair ∷ []) pair (place + (length bytes - length rest)) rest)) is

-- an earlier pair has the next pair's handle
pub pair_again : (fuel index place : ℕ) (seen : List Pair) (last pair : Pair) (bytes rest : List ℕ) → 0 < length bytes → (pair_after last).parse bytes ≡ Some (pair, rest) → 0 < pair.handle
    → has_handle seen pair.handle ≡ true → pairs_after (suc fuel) index seen last place bytes ≡ Err (map_refusal 26 index place)
pair_again fuel index place seen last pair bytes rest some found positive again =
    let is : (pair.handle == 0) ≡ false = grind (arith, nat_tests) in
    pairs_go_on fuel index place seen last bytes some
    ∙ ap (with_pair index seen place (λ pair rest. pairs_after fuel index (seen ++ pair ∷ []) pair (place + (length bytes - length rest)) rest)) found
    ∙ ap₂ (λ (null twice : Bool). if null then Err (map_refusal 25 index place) else (if twice then Err (map_refusal 26 index place)
    else pairs_after fuel index (seen ++ pair ∷ []) pair (place + (length bytes - length rest)) rest)) is again

-- the next pair is positive and new
pub one_pair : (fuel index place : ℕ) (seen : List Pair) (last pair : Pair) (bytes rest : List ℕ) → 0 < length bytes → (pair_after last).parse bytes ≡ Some (pair, rest) → 0 < pair.handle
    → has_handle seen pair.handle ≡ false
    → pairs_after (suc fuel) index seen last place bytes ≡ pairs_after fuel index (seen ++ pair ∷ []) pair (place + (length bytes - length rest)) rest
one_pair fuel index place seen last pair bytes rest some found positive new =
    let is : (pair.handle == 0) ≡ false = grind (arith, nat_tests) in
    pairs_go_on fuel index place seen last bytes some
    ∙ ap (with_pair index seen place (λ pair rest. pairs_after fuel index (seen ++ pair ∷ []) pair (place + (length bytes - length rest)) rest)) found
    ∙ ap₂ (λ (null twice : Bool). if null then Err (map_refusal 25 index place) else (if twice then Err (map_refusal 26 index place)
    else pairs_after fuel index (seen ++ pair ∷ []) pair (place + (length bytes - length rest)) rest)) is new

-- all pairs of a page, after those seen before
pub record PairsAll (seen : List Pair) (body : List ℕ) (all : List Pair) : Type 0 where
  pub pairs : List Pair
  pub spelled : PairsSpell pairs body
  pub whole : all ≡ seen ++ pairs
  pub handles : AreHandles (handles_of all)

-- what trying the pairs of a page reports: all of them, or the first that fails
abbrev pub ReportsPairs : List Pair → ℕ → ℕ → List ℕ → Tried (List Pair) → Type 0
ReportsPairs seen place index body (Ok all) = PairsAll seen body all
ReportsPairs seen place index body (Err refusal) = FailsAtPair seen place index body refusal

-- some pairs of a page are spelled and pass, and some bytes are left
pub record PairsSoFar (seen before : List Pair) (place : ℕ) (prefix rest body : List ℕ) (all : List Pair) (last : Pair) (at : ℕ) : Type 0 where
  pub spelled : PairsSpell before prefix
  pub whole : body ≡ prefix ++ rest
  pub handles : AreHandles (handles_of all)
  pub all_is : all ≡ seen ++ before
  pub last_is : last ≡ last_of ORIGIN before
  pub at_is : at ≡ place + length prefix
