-- What trying the pairs of a page reports, and that it reports no other.
use Rattle.std.proofs.Common.{◌≡◌, refl, sym, ◌∙◌, ap, ap₂, subst, ℕ, zero, suc, ◌+◌, ◌-◌, ◌<◌, ◌≤◌, Bool, true, false, List, [], ◌∷◌, ◌++◌, length, Option, Some, None, arith, append_assoc, length-append, inl, inr}
use Rattle.std.specs.Prelude.{◌≢◌, ◌⊎◌, ◌==◌, Ok, Err}
use Rattle.std.proofs.lemmas.Bool.Decides.{nat_tests}
use Rattle.std.proofs.lemmas.List.{append-nil}
use Rattle.dwg_base.specs.Bytes.{AreBytes}
use Rattle.dwg_base.specs.Refusals.{Tried}
use Rattle.dwg_base.specs.Refusal.{Refusal}
use Rattle.dwg_grammar.specs.Grammar.{Grammar, IsCode, BeginsWith}
use Rattle.dwg_grammar.proofs.CombinatorLemmas.{bytes_closed}
use Rattle.dwg_grammar.proofs.CodeLemmas.{reads_none}
use Rattle.dwg_objmap.specs.declared.pair.Pair.{Pair}
use Rattle.dwg_objmap.specs.Pairs.{IsPair, ORIGIN, PairSpells, pair_after}
use Rattle.dwg_objmap.proofs.PairLemmas.{pair_is_code}
use Rattle.dwg_objmap.specs.Pages.{PairsSpell, AreHandles, handles_of}
use Rattle.dwg_objmap.proofs.HandleLemmas.{stands_among, has_among, handles_more, handle_after}
use Rattle.dwg_objmap.specs.MapLines.{map_refusal, last_of, has_handle, pairs_after, IsBadPair, FailsAtPair}
use Rattle.dwg_objmap.proofs.PairChains.{SpellAfter, origin_is_pair, spelled_is_pair, spells_pair, last_is_pair, last_of_more, spell_more, pair_has_bytes, pairs_end, no_pair, null_pair, pair_again, one_pair, PairsAll, ReportsPairs, PairsSoFar}

-- where no bytes are left, all pairs are reported
all_reported : (seen before : List Pair) (place : ℕ) (prefix body : List ℕ) (all : List Pair) (last : Pair) (at : ℕ) → PairsSoFar seen before place prefix [] body all last at → PairsAll seen body all
all_reported seen before place prefix body all last at so_far = record {
  pairs = before;
  spelled = subst (PairsSpell before) (sym (so_far.whole ∙ append-nil prefix)) so_far.spelled;
  whole = so_far.all_is;
  handles = so_far.handles;
}

-- the last pair so far is a pair
last_fits : (seen before : List Pair) (place : ℕ) (prefix rest body : List ℕ) (all : List Pair) (last : Pair) (at : ℕ) → PairsSoFar seen before place prefix rest body all last at → IsPair last
last_fits seen before place prefix rest body all last at so_far = subst IsPair (sym so_far.last_is) (last_is_pair before ORIGIN prefix origin_is_pair so_far.spelled)

-- with one more pair, fewer bytes are left
more_so_far : (seen before : List Pair) (place : ℕ) (prefix rest body : List ℕ) (all : List Pair) (last : Pair) (at : ℕ) (pair : Pair) (spelling after : List ℕ)
    → PairsSoFar seen before place prefix rest body all last at → (pair_after last).Spells pair spelling → rest ≡ spelling ++ after → 0 < pair.handle → has_handle all pair.handle ≡ false
    → PairsSoFar seen (before ++ pair ∷ []) place (prefix ++ spelling) after body (all ++ pair ∷ []) pair (at + (length rest - length after))
more_so_far seen before place prefix rest body all last at pair spelling after so_far spelled same positive new = record {
  spelled = spell_more before ORIGIN pair prefix spelling so_far.spelled (subst (λ (from : Pair). (pair_after from).Spells pair spelling) so_far.last_is spelled);
  whole = so_far.whole ∙ ap (λ others. prefix ++ others) same ∙ sym (append_assoc prefix spelling after);
  handles = handles_more all pair so_far.handles positive new;
  all_is = ap (λ pairs. pairs ++ pair ∷ []) so_far.all_is ∙ append_assoc seen before (pair ∷ []);
  last_is = sym (last_of_more before ORIGIN pair);
  at_is = omega (arith, so_far.at_is, ap length same, length-append spelling after, length-append prefix spelling);
}

-- where the bytes that are left begin with no pair, that is the first pair that fails
none_fails : (seen before : List Pair) (place index : ℕ) (prefix rest body : List ℕ) (all : List Pair) (last : Pair) (at : ℕ) → PairsSoFar seen before place prefix rest body all last at
    → 0 < length rest → (BeginsWith (pair_after last) rest → ⊥) → FailsAtPair seen place index body (map_refusal 24 index at)
none_fails seen before place index prefix rest body all last at so_far some none = record {
  before = before;
  prefix = prefix;
  rest = rest;
  spelled = so_far.spelled;
  whole = so_far.whole;
  more = λ same. let long : length rest ≡ 0 = ap length same in absurd (omega arith);
  handles = subst (λ pairs. AreHandles (handles_of pairs)) so_far.all_is so_far.handles;
  fails = inl (ap (map_refusal 24 index) so_far.at_is, subst (λ (from : Pair). BeginsWith (pair_after from) rest → ⊥) so_far.last_is none);
}

-- where they begin with a bad pair, that is the first that fails
bad_fails : (seen before : List Pair) (place index : ℕ) (prefix rest body : List ℕ) (all : List Pair) (last : Pair) (at : ℕ) (pair : Pair) (spelling after : List ℕ) (refusal : Refusal)
    → PairsSoFar seen before place prefix rest body all last at → 0 < length rest → (pair_after last).Spells pair spelling → rest ≡ spelling ++ after → IsBadPair all pair index at refusal
    → FailsAtPair seen place index body refusal
unfolding pair_after
bad_fails seen before place index prefix rest body all last at pair spelling after refusal so_far some spelled same bad = record {
  before = before;
  prefix = prefix;
  rest = rest;
  spelled = so_far.spelled;
  whole = so_far.whole;
  more = λ none. let long : length rest ≡ 0 = ap length none in absurd (omega arith);
  handles = subst (λ pairs. AreHandles (handles_of pairs)) so_far.all_is so_far.handles;
  fails = inr (
    pair,
    spelling,
    after,
    subst (λ (from : Pair). PairSpells from pair spelling) so_far.last_is spelled,
    same,
    subst (λ (place_of : ℕ). IsBadPair (seen ++ before) pair index place_of refusal) so_far.at_is (subst (λ pairs. IsBadPair pairs pair index at refusal) so_far.all_is bad),
  );
}

-- what trying the pairs of a page from some on reports is so
pub pairs_reported : (fuel : ℕ) (seen before : List Pair) (place index : ℕ) (prefix rest body : List ℕ) (all : List Pair) (last : Pair) (at : ℕ)
    → AreBytes rest → length rest ≤ fuel → PairsSoFar seen before place prefix rest body all last at → ReportsPairs seen place index body (pairs_after fuel index all last at rest)
pairs_reported zero seen before place index prefix [] body all last at text enough so_far =
    subst (ReportsPairs seen place index body) (sym (pairs_end 0 index at all last)) (all_reported seen before place prefix body all last at so_far)
pairs_reported zero seen before place index prefix (byte ∷ bytes) body all last at text enough so_far = absurd (omega arith)
pairs_reported (suc fuel) seen before place index prefix [] body all last at text enough so_far =
    subst (ReportsPairs seen place index body) (sym (pairs_end (suc fuel) index at all last)) (all_reported seen before place prefix body all last at so_far)
pairs_reported (suc fuel) seen before place index prefix (byte ∷ bytes) body all last at text enough so_far =
    by_parse ((pair_after last).parse rest) refl
    (λ pair spelling after more same fewer. pairs_reported fuel seen (before ++ pair ∷ []) place index (prefix ++ spelling) after body (all ++ pair ∷ []) pair (at + (length rest - length after))
    (bytes_closed spelling after (subst AreBytes same text)) fewer more)
  where
    rest : List ℕ
    rest = byte ∷ bytes

    is : IsCode AreBytes (pair_after last)
    is = pair_is_code last (last_fits seen before place prefix (byte ∷ bytes) body all last at so_far)

    Reported : Tried (List Pair) → Type 0
    Reported = ReportsPairs seen place index body

    After : Type 0
    After =
        (pair : Pair) (spelling after : List ℕ)
        → PairsSoFar seen (before ++ pair ∷ []) place (prefix ++ spelling) after body (all ++ pair ∷ []) pair (at + (length (byte ∷ bytes) - length after))
        → byte ∷ bytes ≡ spelling ++ after → length after ≤ fuel
        → Reported (pairs_after fuel index (all ++ pair ∷ []) pair (at + (length (byte ∷ bytes) - length after)) after)

    by_seen : (pair : Pair) (spelling after : List ℕ) → (pair_after last).parse (byte ∷ bytes) ≡ Some (pair, after) → (pair_after last).Spells pair spelling → byte ∷ bytes ≡ spelling ++ after
        → 0 < pair.handle → (test : Bool) → has_handle all pair.handle ≡ test → After → Reported (pairs_after (suc fuel) index all last at (byte ∷ bytes))
    by_seen pair spelling after found spelled same positive true again go_on =
        subst Reported (sym (pair_again fuel index at all last pair (byte ∷ bytes) after (omega arith) found positive again))
        (bad_fails seen before place index prefix (byte ∷ bytes) body all last at pair spelling after (map_refusal 26 index at) so_far (omega arith) spelled same
        (inr (refl, positive, stands_among all pair.handle again)))
    by_seen pair spelling after found spelled same positive false new go_on =
        subst Reported (sym (one_pair fuel index at all last pair (byte ∷ bytes) after (omega arith) found positive new))
        (go_on pair spelling after (more_so_far seen before place prefix (byte ∷ bytes) body all last at pair spelling after so_far spelled same positive new) same
        (omega (arith, enough, ap length same, length-append spelling after, pair_has_bytes last pair spelling spelled)))

    by_handle : (pair : Pair) (spelling after : List ℕ) → (pair_after last).parse (byte ∷ bytes) ≡ Some (pair, after) → (pair_after last).Spells pair spelling → byte ∷ bytes ≡ spelling ++ after
        → (test : Bool) → (pair.handle == 0) ≡ test → After → Reported (pairs_after (suc fuel) index all last at (byte ∷ bytes))
    by_handle pair spelling after found spelled same true is_null go_on =
        let null : pair.handle ≡ 0 = grind (arith, nat_tests) in
        subst Reported (sym (null_pair fuel index at all last pair (byte ∷ bytes) after (omega arith) found null))
        (bad_fails seen before place index prefix (byte ∷ bytes) body all last at pair spelling after (map_refusal 25 index at) so_far (omega arith) spelled same (inl (refl, null)))
    by_handle pair spelling after found spelled same false is_some go_on =
        by_seen pair spelling after found spelled same (grind (arith, nat_tests)) (has_handle all pair.handle) refl go_on

    by_parse : (found : Option (Pair × List ℕ)) → (pair_after last).parse (byte ∷ bytes) ≡ found → After → Reported (pairs_after (suc fuel) index all last at (byte ∷ bytes))
    by_parse None none go_on =
        subst Reported (sym (no_pair fuel index at all last (byte ∷ bytes) (omega arith) none))
        (none_fails seen before place index prefix (byte ∷ bytes) body all last at so_far (omega arith) (reads_none AreBytes (pair_after last) (byte ∷ bytes) is none).0)
    by_parse (Some (pair, after)) found go_on =
        let (spelling, spelled, same) = is.sound (byte ∷ bytes) after pair text found in
        by_handle pair spelling after found spelled same (pair.handle == 0) refl go_on

-- what is left after pairs that pass goes on as it would from there
pub pairs_go : (pairs : List Pair) (fuel index place : ℕ) (seen : List Pair) (last : Pair) (prefix rest : List ℕ) (result : Tried (List Pair)) → IsPair last → SpellAfter last pairs prefix
    → AreHandles (handles_of (seen ++ pairs)) → length (prefix ++ rest) ≤ fuel
    → ((less : ℕ) → length rest ≤ less → pairs_after less index (seen ++ pairs) (last_of last pairs) (place + length prefix) rest ≡ result)
    → pairs_after fuel index seen last place (prefix ++ rest) ≡ result
pairs_go [] fuel index place seen last prefix rest result fits spelled are enough go_on =
    let none : length prefix ≡ 0 = ap length spelled in
    let here : place + length prefix ≡ place = omega arith in
    ap (λ first. pairs_after fuel index seen last place (first ++ rest)) spelled
    ∙ ap₂ (λ all at. pairs_after fuel index all last at rest) (sym (append-nil seen)) (sym here)
    ∙ go_on fuel (omega (arith, length-append prefix rest))
pairs_go (pair ∷ pairs) zero index place seen last prefix rest result fits (first, back, one, others, same) are enough go_on =
    absurd (omega (arith, pair_has_bytes last pair first one, ap length same, length-append first back, length-append prefix rest))
pairs_go (pair ∷ pairs) (suc fuel) index place seen last prefix rest result fits (first, back, one, others, same) are enough go_on =
    one_pair fuel index place seen last pair (prefix ++ rest) (back ++ rest) some found new.0 new.1
    ∙ pairs_go pairs fuel index (place + (length (prefix ++ rest) - length (back ++ rest))) (seen ++ pair ∷ []) pair back rest result (spelled_is_pair last pair first one) others
    (subst (λ all. AreHandles (handles_of all)) (sym (append_assoc seen (pair ∷ []) pairs)) are)
    (omega (arith, some_first, lengths, ap length joined, length-append first (back ++ rest)))
    (λ less long. ap₂ (λ all at. pairs_after less index all (last_of pair pairs) at rest) (append_assoc seen (pair ∷ []) pairs) there ∙ go_on less long)
  where
    joined : prefix ++ rest ≡ first ++ (back ++ rest)
    joined = ap (λ all. all ++ rest) same ∙ append_assoc first back rest

    some_first : 0 < length first
    some_first = pair_has_bytes last pair first one

    lengths : length prefix ≡ length first + length back
    lengths = ap length same ∙ length-append first back

    some : 0 < length (prefix ++ rest)
    some = omega (arith, some_first, ap length joined, length-append first (back ++ rest))

    found : (pair_after last).parse (prefix ++ rest) ≡ Some (pair, back ++ rest)
    found = ap (pair_after last).parse joined ∙ (pair_is_code last fits).complete first (back ++ rest) pair one

    new : (0 < pair.handle) × (has_handle seen pair.handle ≡ false)
    new = handle_after seen pairs pair are

    there : place + (length (prefix ++ rest) - length (back ++ rest)) + length back ≡ place + length prefix
    there = omega (arith, ap length joined, length-append first (back ++ rest), lengths)

-- all pairs of a page that is spelled are reported
pub pairs_all : (pairs seen : List Pair) (index place : ℕ) (body : List ℕ) → PairsSpell pairs body → AreHandles (handles_of (seen ++ pairs))
    → pairs_after (length body) index seen ORIGIN place body ≡ Ok (seen ++ pairs)
pairs_all pairs seen index place body spelled are =
    ap (pairs_after (length body) index seen ORIGIN place) (sym (append-nil body))
    ∙ pairs_go pairs (length body) index place seen ORIGIN body [] (Ok (seen ++ pairs)) origin_is_pair spelled are (omega (arith, length-append body []))
    (λ less long. pairs_end less index (place + length body) (seen ++ pairs) (last_of ORIGIN pairs))

-- where no prefix spells a value, none is parsed
pub none_parsed : {A V : Type 0} (IsText : List A → Type 0) (code : Grammar A V) (letters : List A) → IsCode IsText code → IsText letters → (BeginsWith code letters → ⊥) → code.parse letters ≡ None
none_parsed {A} {V} IsText code letters is text none = by_parse (code.parse letters) refl
  where
    by_parse : (found : Option (V × List A)) → code.parse letters ≡ found → found ≡ None
    by_parse None found = refl
    by_parse (Some (value, rest)) found = let (prefix, spelled, same) = is.sound letters rest value text found in absurd (none (value, prefix, rest, spelled, same))

-- the pair that fails is reported where it is tried
fails_here : (fuel index place : ℕ) (all : List Pair) (last : Pair) (rest : List ℕ) (refusal : Refusal) → IsPair last → AreBytes rest → 0 < length rest → length rest ≤ fuel
    → ((refusal ≡ map_refusal 24 index place) × (BeginsWith (pair_after last) rest → ⊥))
    ⊎ ((pair : Pair) × (spelling : List ℕ) × (after : List ℕ) × PairSpells last pair spelling × (rest ≡ spelling ++ after) × IsBadPair all pair index place refusal)
    → pairs_after fuel index all last place rest ≡ Err refusal
fails_here zero index place all last rest refusal fits text some enough fails = absurd (omega arith)
fails_here (suc fuel) index place all last rest refusal fits text some enough (inl (same, none)) =
    no_pair fuel index place all last rest some (none_parsed AreBytes (pair_after last) rest (pair_is_code last fits) text none) ∙ ap Err (sym same)
fails_here (suc fuel) index place all last rest refusal fits text some enough (inr (pair, spelling, after, spelled, same, bad)) = match_body bad
  where
    found : (pair_after last).parse rest ≡ Some (pair, after)
    found = ap (pair_after last).parse same ∙ (pair_is_code last fits).complete spelling after pair (spells_pair last pair spelling spelled)

    match_body : IsBadPair all pair index place refusal → pairs_after (suc fuel) index all last place rest ≡ Err refusal
    match_body (inl (reported, null)) = null_pair fuel index place all last pair rest after some found null ∙ ap Err (sym reported)
    match_body (inr (reported, positive, again)) = pair_again fuel index place all last pair rest after some found positive (has_among all pair.handle again) ∙ ap Err (sym reported)

-- and the first pair that fails is reported
pub pairs_fail : (seen : List Pair) (index place : ℕ) (body : List ℕ) (refusal : Refusal) → AreBytes body → FailsAtPair seen place index body refusal
    → pairs_after (length body) index seen ORIGIN place body ≡ Err refusal
pairs_fail seen index place body refusal text fails =
    ap (pairs_after (length body) index seen ORIGIN place) fails.whole
    ∙ pairs_go fails.before (length body) index place seen ORIGIN fails.prefix fails.rest (Err refusal) origin_is_pair fails.spelled fails.handles (omega (arith, ap length fails.whole))
    (λ less long. fails_here less index (place + length fails.prefix) (seen ++ fails.before) (last_of ORIGIN fails.before) fails.rest refusal
    (last_is_pair fails.before ORIGIN fails.prefix origin_is_pair fails.spelled) (bytes_closed fails.prefix fails.rest (subst AreBytes fails.whole text)) (some fails.rest fails.more) long fails.fails)
  where
    some : (rest : List ℕ) → rest ≢ [] → 0 < length rest
    some [] more = absurd (more refl)
    some (byte ∷ bytes) more = omega arith
