-- One step of reading, said of what is left to try.
use Rattle.std.proofs.Common.{◌≡◌, refl, sym, ◌∙◌, ap, ap₂, subst, ℕ, suc, ◌+◌, ◌-◌, ◌<◌, ◌≤◌, Bool, true, false, List, [], ◌∷◌, ◌++◌, length, drop, Some, None, arith, add-one, length-drop}
use Rattle.std.specs.Prelude.{Ok, Err, not}
use Rattle.std.proofs.lemmas.List.{drop-drop, nil_from_length}
use Rattle.std.specs.Prelude.{IsTrue}
use Rattle.dwg_base.specs.Refusals.{Tried, Answers}
use Rattle.dwg_base.specs.declared.refusal.Fault.{Fault}
use Rattle.dwg_base.specs.declared.refusal.Fault.TheVariants.{NoMemory, Refused}
use Rattle.dwg_objmap.specs.Reading.{GoesOn}
use Rattle.dwg_base.specs.Refusal.{Refusal}
use Rattle.dwg_objmap.specs.declared.pair.Pair.{Pair}
use Rattle.dwg_objmap.specs.Pairs.{pair_after}
use Rattle.dwg_objmap.specs.MapLines.{map_refusal, has_handle, pairs_after, page_after, word_at, HasPage, HasPageWord}
use Rattle.dwg_objmap.proofs.PairChains.{pairs_end, no_pair, null_pair, pair_again, one_pair}
use Rattle.dwg_objmap.proofs.PageLemmas.{page_wrong}

-- so many turns, and one more
more_fuel : (fuel index place : ℕ) (seen : List Pair) (last : Pair) (rest : List ℕ) → pairs_after (fuel + 1) index seen last place rest ≡ pairs_after (suc fuel) index seen last place rest
more_fuel fuel index place seen last rest = ap (λ n. pairs_after n index seen last place rest) (add-one fuel)

-- what is left begins with no pair
pub step_none : (fuel index place : ℕ) (seen : List Pair) (last : Pair) (rest : List ℕ) (refusal : Refusal) → 0 < length rest → (pair_after last).parse rest ≡ None
    → refusal ≡ map_refusal 24 index place → pairs_after (fuel + 1) index seen last place rest ≡ Err refusal
step_none fuel index place seen last rest refusal some none reported =
    more_fuel fuel index place seen last rest ∙ no_pair fuel index place seen last rest some none ∙ ap Err (sym reported)

-- the next pair has the null handle
pub step_null : (fuel index place : ℕ) (seen : List Pair) (last pair : Pair) (rest after : List ℕ) (refusal : Refusal) → 0 < length rest → (pair_after last).parse rest ≡ Some (pair, after)
    → pair.handle ≡ 0 → refusal ≡ map_refusal 25 index place → pairs_after (fuel + 1) index seen last place rest ≡ Err refusal
step_null fuel index place seen last pair rest after refusal some found null reported =
    more_fuel fuel index place seen last rest ∙ null_pair fuel index place seen last pair rest after some found null ∙ ap Err (sym reported)

-- an earlier pair has the next pair's handle
pub step_again : (fuel index place : ℕ) (seen : List Pair) (last pair : Pair) (rest after : List ℕ) (refusal : Refusal) → 0 < length rest → (pair_after last).parse rest ≡ Some (pair, after)
    → 0 < pair.handle → false ≡ not (has_handle seen pair.handle) → refusal ≡ map_refusal 26 index place → pairs_after (fuel + 1) index seen last place rest ≡ Err refusal
step_again fuel index place seen last pair rest after refusal some found positive again reported =
    more_fuel fuel index place seen last rest ∙ pair_again fuel index place seen last pair rest after some found positive (turned (has_handle seen pair.handle) again) ∙ ap Err (sym reported)
  where
    turned : (test : Bool) → false ≡ not test → test ≡ true
    turned true is = refl
    turned false is = absurd (cc)

-- the next pair is positive and new
pub step_on : (fuel index place used : ℕ) (seen more : List Pair) (last pair : Pair) (rest : List ℕ) → 0 < length rest → used ≤ length rest → (pair_after last).parse rest ≡ Some (pair, drop used rest)
    → 0 < pair.handle → true ≡ not (has_handle seen pair.handle) → more ≡ seen ++ pair ∷ []
    → pairs_after (fuel + 1) index seen last place rest ≡ pairs_after fuel index more pair (place + used) (drop used rest)
step_on fuel index place used seen more last pair rest some within found positive new added =
    let long : length rest - length (drop used rest) ≡ used = omega (arith, length-drop used rest) in
    more_fuel fuel index place seen last rest
    ∙ one_pair fuel index place seen last pair rest (drop used rest) some found positive (turned (has_handle seen pair.handle) new)
    ∙ ap₂ (λ all n. pairs_after fuel index all pair (place + n) (drop used rest)) (sym added) long
  where
    turned : (test : Bool) → true ≡ not test → test ≡ false
    turned true is = absurd (cc)
    turned false is = refl

-- a test that fails has no cause to hold
pub not_so : (P : Type 0) (test : Bool) → (P → IsTrue test) → test ≡ false → P → ⊥
not_so P test holds fails so = let both : false ≡ true = subst IsTrue fails (holds so) in absurd (cc)

-- a wrong check word refuses the page
pub refused_word : (seen : List Pair) (place index size : ℕ) (bytes : List ℕ) (refusal : Refusal) → HasPage bytes place → (HasPageWord bytes place → ⊥) → size ≡ word_at bytes place
    → refusal ≡ map_refusal 23 index (place + size) → page_after seen place index bytes ≡ Err refusal
refused_word seen place index size bytes refusal has wrong is reported =
    page_wrong seen place index bytes has wrong ∙ ap Err (ap (λ n. map_refusal 23 index (place + n)) (sym is) ∙ sym reported)

-- where no bytes are left, the pairs so far are all
pub pairs_over : (fuel index place at : ℕ) (seen : List Pair) (last : Pair) (rest body : List ℕ) (all : Tried (List Pair)) → pairs_after fuel index seen last place (drop at body) ≡ all
    → rest ≡ drop at body → length rest ≡ 0 → all ≡ Ok seen
pairs_over fuel index place at seen last rest body all whole after none =
    sym whole ∙ ap (pairs_after fuel index seen last place) (sym after ∙ nil_from_length rest none) ∙ pairs_end fuel index place seen last

-- and so they are after as many turns as there were bytes
pub pairs_out : (fuel index place : ℕ) (seen : List Pair) (last : Pair) (rest : List ℕ) (all : Tried (List Pair)) → pairs_after fuel index seen last place rest ≡ all → fuel ≡ 0 → all ≡ Ok seen
unfolding pairs_after
pairs_out fuel index place seen last rest all whole none = sym whole ∙ ap (λ n. pairs_after n index seen last place rest) none

-- a fault of the next pair is that of the whole
pub fault_of_whole : {S V : Type 0} (fault : Fault) (tried all : Tried V) (after : S → Tried V) → tried ≡ all → GoesOn {S = S} (Err fault) tried after → Answers (Err fault) all
fault_of_whole NoMemory tried all after same goes = tt
fault_of_whole (Refused refusal) tried all after same goes = sym same ∙ goes

-- so many turns are left
pub turns : (left fuel index place at : ℕ) (seen : List Pair) (last : Pair) (rest body : List ℕ) (all : Tried (List Pair)) → left ≡ fuel + 1 → rest ≡ drop at body
    → pairs_after left index seen last place (drop at body) ≡ all → pairs_after (fuel + 1) index seen last place rest ≡ all
turns left fuel index place at seen last rest body all is after whole = ap₂ (λ n bytes. pairs_after n index seen last place bytes) (sym is) after ∙ whole

-- with one more pair, what is left gives the whole
pub turned_on : (fuel less index place at used : ℕ) (more : List Pair) (pair : Pair) (rest body : List ℕ) (tried all : Tried (List Pair)) → less ≡ fuel → rest ≡ drop at body → tried ≡ all
    → tried ≡ pairs_after fuel index more pair (place + at + used) (drop used rest) → pairs_after less index more pair (place + (at + used)) (drop (at + used) body) ≡ all
turned_on fuel less index place at used more pair rest body tried all same after whole goes =
    let there : place + (at + used) ≡ place + at + used = omega arith in
    ap₂ (λ n p. pairs_after n index more pair p (drop (at + used) body)) same there
    ∙ ap (pairs_after fuel index more pair (place + at + used)) (sym (ap (drop used) after ∙ drop-drop used at body)) ∙ sym goes ∙ whole
