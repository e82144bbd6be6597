-- The map is sent pair by pair: what went out and what is made of the pairs that are left are the whole.
use Rattle.std.proofs.Common.{◌≡◌, refl, sym, ◌∙◌, ap, ap₂, subst, ℕ, ◌+◌, ◌<◌, ◌≤◌, List, [], ◌++◌, length, drop, get_or, append_assoc}
use Rattle.std.proofs.lemmas.List.{drop_all}
use Rattle.dwg_objmap.specs.declared.pair.Pair.{Pair}
use Rattle.dwg_objmap.specs.Writing.{OpenPage, FRESH, given, filled, closing, map_after, map_bytes, Ascend}
use Rattle.std.proofs.KnownBytes.{Appends-nil, Appends-trans}
use Rattle.std.specs.Prelude.{Option, Result, Err}
use Rattle.std.specs.Io.KnownBytes.{Appends}
use Rattle.dwg_base.specs.Devices.{AppendsPrefix, Sends}
use Rattle.dwg_base.proofs.SendingLemmas.{sends_both, prefix_of_both}
use Rattle.dwg_file.specs.Plans.{IsPut}
use Rattle.dwg_file.proofs.PlanLoops.{left_at}

-- with one more pair put, those after it are left
pub one_put : (pairs : List Pair) (i : ℕ) (pair : Pair) (taken next whole : List ℕ) (page after : OpenPage) → i < length pairs → pair ≡ get_or pairs i pair
    → next ≡ taken ++ given page pair → after ≡ filled page pair → taken ++ map_after page (drop i pairs) ≡ whole → next ++ map_after after (drop (i + 1) pairs) ≡ whole
unfolding map_after
one_put pairs i pair taken next whole page after inside here sent turned same =
    ap₂ (λ (prefix : List ℕ) (open_page : OpenPage). prefix ++ map_after open_page (drop (i + 1) pairs)) sent turned
    ∙ append_assoc taken (given page pair) (map_after (filled page pair) (drop (i + 1) pairs))
    ∙ ap (λ (rest : List Pair). taken ++ map_after page rest) (sym (left_at pairs i pair inside here)) ∙ same

-- the pairs that are left ascend from the one that was put
pub ascends_after : (pairs : List Pair) (i handle : ℕ) (pair last : Pair) → i < length pairs → pair ≡ get_or pairs i pair → last ≡ pair → Ascend handle (drop i pairs) → Ascend last.handle (drop (i + 1) pairs)
ascends_after pairs i handle pair last inside here same ascend =
    subst (λ (from : Pair). Ascend from.handle (drop (i + 1) pairs)) (sym same) (subst (Ascend handle) (left_at pairs i pair inside here) ascend).3

-- so one more pair is put
pub pair_put : (pairs : List Pair) (i : ℕ) (pair : Pair) (old mid new : Option (List ℕ)) (page after : OpenPage) (map : List ℕ) → i < length pairs → pair ≡ get_or pairs i pair
    → Appends mid new (given page pair) → after ≡ filled page pair → IsPut old mid page (drop i pairs) map → IsPut old new after (drop (i + 1) pairs) map
pair_put pairs i pair old mid new page after map inside here sent turned so_far = record {
  sent = so_far.sent ++ given page pair;
  taken = Appends-trans old mid new so_far.sent (given page pair) so_far.taken sent;
  whole = one_put pairs i pair so_far.sent (so_far.sent ++ given page pair) map page after inside here refl turned so_far.whole;
}

-- where what goes out for it is cut off, so is the map
pub pair_cut : (pairs : List Pair) (i : ℕ) (pair : Pair) (old mid new : Option (List ℕ)) (page : OpenPage) (map : List ℕ) → i < length pairs → pair ≡ get_or pairs i pair
    → AppendsPrefix mid new (given page pair) → IsPut old mid page (drop i pairs) map → AppendsPrefix old new map
unfolding map_after
pair_cut pairs i pair old mid new page map inside here cut so_far =
    let after : List ℕ = map_after (filled page pair) (drop (i + 1) pairs) in
    subst (AppendsPrefix old new) (ap (λ (rest : List Pair). so_far.sent ++ map_after page rest) (sym (left_at pairs i pair inside here)) ∙ so_far.whole)
    (sends_both {T = ℕ} {E = ℕ} old mid new so_far.sent (given page pair ++ after) (Err 0) so_far.taken (prefix_of_both mid new (given page pair) after cut))

-- at the begin all pairs are left
pub none_put : (now : Option (List ℕ)) (page : OpenPage) (pairs : List Pair) → IsPut now now page pairs (map_after page pairs)
none_put now page pairs = record { sent = []; taken = Appends-nil now; whole = refl }

-- and where none is left any more, all are put
pub all_put : (pairs : List Pair) (i : ℕ) (old new : Option (List ℕ)) (page : OpenPage) (map : List ℕ) → length pairs ≤ i → IsPut old new page (drop i pairs) map → IsPut old new page [] map
all_put pairs i old new page map past put = subst (λ (left : List Pair). IsPut old new page left map) (drop_all i pairs past) put

-- with what closes it the map is sent
pub map_sent : {T E : Type 0} (pairs : List Pair) (old mid new : Option (List ℕ)) (first last : OpenPage) (result : Result T E) → first ≡ FRESH → IsPut old mid last [] (map_after first pairs)
    → Sends mid new (closing last) result → Sends old new (map_bytes pairs) result
unfolding map_after map_bytes
map_sent pairs old mid new first last result fresh put closes =
    subst (λ (all : List ℕ). Sends old new all result) (put.whole ∙ ap (λ (page : OpenPage). map_after page pairs) fresh)
    (sends_both old mid new put.sent (closing last) result put.taken closes)

-- or cut off
pub map_cut : (pairs : List Pair) (old new : Option (List ℕ)) (first : OpenPage) → first ≡ FRESH → AppendsPrefix old new (map_after first pairs) → AppendsPrefix old new (map_bytes pairs)
unfolding map_bytes
map_cut pairs old new first fresh cut = subst (λ (page : OpenPage). AppendsPrefix old new (map_after page pairs)) fresh cut
