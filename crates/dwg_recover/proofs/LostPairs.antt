-- Of the pairs of a map one is lost: no frame is kept for its number, and one for the number of each other pair.
use Rattle.std.proofs.Common.{◌≡◌, refl, sym, ◌∙◌, ap, subst, ℕ, ◌+◌, Bool, true, false, List, [], ◌∷◌, ◌++◌, length, Some, arith}
use Rattle.std.specs.Prelude.{if◌then◌else◌}
use Rattle.dwg_objmap.specs.declared.pair.Pair.{Pair}
use Rattle.dwg_recover.specs.declared.frame.Frame.{Frame}
use Rattle.dwg_recover.specs.declared.loss.Loss.{Loss}
use Rattle.dwg_recover.specs.declared.loss.Loss.TheVariants.{Object}
use Rattle.dwg_recover.specs.Frames.{is_kept_pair, lost_pairs}
use Rattle.dwg_recover.specs.ListMembers.{IsAt, IsOneOf}
use Rattle.dwg_recover.proofs.ListMembers.{at_first, at_next}
use Rattle.dwg_recover.proofs.ReportedLosses.{free_reported}

-- a frame that is kept for a pair shows that one is
pub kept_reported : (frames : List Frame) (number : ℕ) (frame : Frame) → IsOneOf frame frames → frame.pair ≡ Some number → is_kept_pair frames number ≡ true
kept_reported frames number frame is its = of_test (is_kept_pair frames number) refl
  where
    of_test : (kept : Bool) → is_kept_pair frames number ≡ kept → kept ≡ true
    of_test true known = refl
    of_test false known = absurd ((free_reported frames number).0 known frame is its)

-- pairs for each of which a frame is kept; the first has this number
abbrev pub AllKept : List Frame → ℕ → List Pair → Type 0
AllKept kept number pairs = (index : ℕ) (pair : Pair) → IsAt index pair pairs → is_kept_pair kept (number + index) ≡ true

-- so the first has one, and those after it have
kept_first : (kept : List Frame) (number : ℕ) (pair : Pair) (pairs : List Pair) → AllKept kept number (pair ∷ pairs) → is_kept_pair kept number ≡ true
kept_first kept number pair pairs all =
    let count : number ≡ number + 0 = omega arith in
    ap (is_kept_pair kept) count ∙ all 0 pair (at_first pair pairs)

kept_after : (kept : List Frame) (number : ℕ) (pair : Pair) (pairs : List Pair) → AllKept kept number (pair ∷ pairs) → AllKept kept (number + 1) pairs
kept_after kept number pair pairs all index one at =
    let count : number + 1 + index ≡ number + (index + 1) = omega arith in
    ap (is_kept_pair kept) count ∙ all (index + 1) one (at_next index one pair pairs at)

-- and none of them is lost
none_lost : (kept : List Frame) (number : ℕ) (pairs : List Pair) → AllKept kept number pairs → lost_pairs kept number pairs ≡ []
unfolding lost_pairs
none_lost kept number [] all = refl
none_lost kept number (pair ∷ pairs) all =
    ap (λ (test : Bool). if test then lost_pairs kept (number + 1) pairs else Object pair.handle pair.place ∷ lost_pairs kept (number + 1) pairs) (kept_first kept number pair pairs all)
    ∙ none_lost kept (number + 1) pairs (kept_after kept number pair pairs all)

-- the one pair between them that no frame is kept for is lost alone
pub one_lost : (kept : List Frame) (number : ℕ) (earlier : List Pair) (pair : Pair) (later : List Pair) → AllKept kept number earlier → is_kept_pair kept (number + length earlier) ≡ false
    → AllKept kept (number + length earlier + 1) later → lost_pairs kept number (earlier ++ pair ∷ later) ≡ Object pair.handle pair.place ∷ []
unfolding lost_pairs
one_lost kept number [] pair later before free after =
    let count : number ≡ number + 0 = omega arith in
    ap (λ (test : Bool). if test then lost_pairs kept (number + 1) later else Object pair.handle pair.place ∷ lost_pairs kept (number + 1) later) (ap (is_kept_pair kept) count ∙ free)
    ∙ ap (λ (rest : List Loss). Object pair.handle pair.place ∷ rest) (none_lost kept (number + 1) later (subst (λ n. AllKept kept (n + 1) later) (sym count) after))
one_lost kept number (first ∷ earlier) pair later before free after =
    let count : number + length (first ∷ earlier) ≡ number + 1 + length earlier = omega arith in
    ap (λ (test : Bool). if test then lost_pairs kept (number + 1) (earlier ++ pair ∷ later) else Object first.handle first.place ∷ lost_pairs kept (number + 1) (earlier ++ pair ∷ later))
    (kept_first kept number first earlier before)
    ∙ one_lost kept (number + 1) earlier pair later (kept_after kept number first earlier before) (sym (ap (is_kept_pair kept) count) ∙ free)
    (subst (λ n. AllKept kept (n + 1) later) count after)
