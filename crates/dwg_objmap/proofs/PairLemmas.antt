-- A pair after another is a code over bytes, and so are pairs one after the other.
use Rattle.std.proofs.Common.{◌≡◌, refl, sym, ◌∙◌, ap, ap₂, subst, ℕ, suc, ◌+◌, ◌-◌, ◌^◌, ◌<◌, ◌≤◌, Bool, true, false, List, ◌++◌, length, Option, Some, None, arith}
use Rattle.std.specs.Prelude.{ℤ, pos, negsuc, ◌+ℤ◌, nat_lt, nat_le, option_map, option_and_then, if◌then◌else◌}
use Rattle.std.proofs.lemmas.Bool.Decides.{nat_tests}
use Rattle.std.proofs.lemmas.Int.{ints}
use Rattle.std.proofs.lemmas.List.{append_assoc, length-append}
use Rattle.std.proofs.lemmas.Option.{none-some, same_Some, option_and_then_some}
use Rattle.dwg_base.specs.Bytes.{AreBytes}
use Rattle.dwg_grammar.specs.Grammar.{IsCode}
use Rattle.dwg_grammar.proofs.CombinatorLemmas.{IsFound, option_map_some, if_some, bytes_closed}
use Rattle.dwg_grammar.specs.ModularCodes.{mc, signed_mc, sign_and_magnitude}
use Rattle.dwg_grammar.proofs.ModularLemmas.{mc_is_code, mc_has}
use Rattle.dwg_grammar.proofs.SignedLemmas.{signed_mc_is_code}
use Rattle.dwg_objmap.specs.declared.pair.Pair.{Pair}
use Rattle.dwg_objmap.specs.Pairs.{IsPair, PairSpells, moved, move_between, place_at_step, pair_at_steps, pair_after}

-- what two steps from a pair lead to
pub record StepsLead (before : Pair) (step : ℕ) (move : ℤ) (pair : Pair) : Type 0 where
  pub in_range : IsPair pair
  pub handle : pair.handle ≡ before.handle + step
  pub place : pos pair.place ≡ pos before.place +ℤ move

-- a step leads where it is added to
moved_adds : (place to : ℕ) (move : ℤ) → moved place move ≡ Some to → pos to ≡ pos place +ℤ move
moved_adds place to (pos step) same = ap pos (sym (same_Some (place + step) to same))
moved_adds place to (negsuc less) same =
    if_some (nat_lt less place) (Some (place - suc less)) None to same
    (λ holds made. let known = same_Some (place - suc less) to made in back place to less holds known)
    (λ fails none. absurd (none-some to none))
  where
    back : (place to less : ℕ) → nat_lt less place ≡ true → place - suc less ≡ to → pos to ≡ pos place +ℤ negsuc less
    back place to less holds known = let far : less < place = grind (arith, nat_tests) in omega (arith, ints)

-- and only there
moved_there : (place to : ℕ) (move : ℤ) → pos to ≡ pos place +ℤ move → moved place move ≡ Some to
moved_there place to (pos step) same = let known : place + step ≡ to = omega (arith, ints) in ap Some known
moved_there place to (negsuc less) same =
    let far : less < place = omega (arith, ints) in
    let holds : nat_lt less place ≡ true = grind (arith, nat_tests) in
    let known : place - suc less ≡ to = omega (arith, ints) in
    ap₂ (λ (test : Bool) (n : ℕ). if test then Some n else None) holds known

-- the step from a place to another is the one between them
move_is : (from to : ℕ) (move : ℤ) → pos to ≡ pos from +ℤ move → move ≡ move_between from to
move_is from to (pos step) same =
    let holds : nat_le from to ≡ true = known from to step (omega (arith, ints)) in
    let known : step ≡ to - from = omega (arith, ints) in
    ap pos known ∙ ap (λ (test : Bool). if test then pos (to - from) else negsuc (from - to - 1)) (sym holds)
  where
    known : (from to step : ℕ) → to ≡ from + step → nat_le from to ≡ true
    known from to step same = grind (arith, nat_tests)
move_is from to (negsuc less) same =
    let fails : nat_le from to ≡ false = known from to less (omega (arith, ints)) in
    let known : less ≡ from - to - 1 = omega (arith, ints) in
    ap negsuc known ∙ ap (λ (test : Bool). if test then pos (to - from) else negsuc (from - to - 1)) (sym fails)
  where
    known : (from to less : ℕ) → from ≡ to + suc less → nat_le from to ≡ false
    known from to less same = grind (arith, nat_tests)

-- it leads there
move_leads : (from to : ℕ) → pos to ≡ pos from +ℤ move_between from to
move_leads from to = by_test (nat_le from to) refl
  where
    by_test : (test : Bool) → nat_le from to ≡ test → pos to ≡ pos from +ℤ (if test then pos (to - from) else negsuc (from - to - 1))
    by_test true holds = let far : from ≤ to = grind (arith, nat_tests) in omega (arith, ints)
    by_test false fails = let far : to < from = grind (arith, nat_tests) in omega (arith, ints)

-- and isn't longer than the places allow
pub move_small : (from to : ℕ) → from < 2 ^ 63 → to < 2 ^ 63 → (sign_and_magnitude (move_between from to)).1 < 2 ^ 63
move_small from to small small_to = by_test (nat_le from to) refl
  where
    by_test : (test : Bool) → nat_le from to ≡ test → (sign_and_magnitude (if test then pos (to - from) else negsuc (from - to - 1))).1 < 2 ^ 63
    by_test true holds = omega arith
    by_test false fails = let far : to < from = grind (arith, nat_tests) in omega arith

-- a step leads to a place in range
place_leads : (place to : ℕ) (move : ℤ) → place_at_step place move ≡ Some to → (to < 2 ^ 63) × (pos to ≡ pos place +ℤ move)
place_leads place to move same =
    option_and_then_some (λ (to : ℕ). if nat_lt to (2 ^ 63) then Some to else None) (moved place move) to same
    (λ there was made. if_some (nat_lt there (2 ^ 63)) (Some there) None to made
    (λ holds known. let is : there ≡ to = same_Some there to known in
    (below there to holds is, moved_adds place to move (was ∙ ap Some is)))
    (λ fails none. absurd (none-some to none)))
  where
    below : (there to : ℕ) → nat_lt there (2 ^ 63) ≡ true → there ≡ to → to < 2 ^ 63
    below there to holds is = let small : there < 2 ^ 63 = grind (arith, nat_tests) in omega arith

-- and each place in range is led to
place_there : (place to : ℕ) (move : ℤ) → to < 2 ^ 63 → pos to ≡ pos place +ℤ move → place_at_step place move ≡ Some to
place_there place to move small adds =
    let holds : nat_lt to (2 ^ 63) ≡ true = grind (arith, nat_tests) in
    ap (option_and_then (λ (to : ℕ). if nat_lt to (2 ^ 63) then Some to else None)) (moved_there place to move adds)
    ∙ ap (λ (test : Bool). if test then Some to else None) holds

-- the pair that two steps lead to
steps_lead : (before pair : Pair) (step : ℕ) (move : ℤ) → pair_at_steps before step move ≡ Some pair → StepsLead before step move pair
steps_lead before pair step move same =
    if_some (nat_lt (before.handle + step) (2 ^ 63)) (option_map (λ (place : ℕ). record { handle = before.handle + step; place = place }) (place_at_step before.place move)) None pair same
    (λ holds known. option_map_some (λ (place : ℕ). record { handle = before.handle + step; place = place }) (place_at_step before.place move) pair known
    (λ place was made. subst (StepsLead before step move) made (of_place place (below (before.handle + step) holds) (place_leads before.place place move was))))
    (λ fails none. absurd (none-some pair none))
  where
    below : (handle : ℕ) → nat_lt handle (2 ^ 63) ≡ true → handle < 2 ^ 63
    below handle holds = grind (arith, nat_tests)

    of_place : (place : ℕ) → before.handle + step < 2 ^ 63 → (place < 2 ^ 63) × (pos place ≡ pos before.place +ℤ move)
        → StepsLead before step move (record { handle = before.handle + step; place = place })
    of_place place small leads = record { in_range = record { handle = small; place = leads.0 }; handle = refl; place = leads.1 }

-- and only that
steps_there : (before pair : Pair) (step : ℕ) (move : ℤ) → StepsLead before step move pair → pair_at_steps before step move ≡ Some pair
steps_there before pair step move leads =
    ap₂ (λ (test : Bool) (handle : ℕ). if test then option_map (λ (place : ℕ). record { handle = handle; place = place }) (place_at_step before.place move) else None)
    (passes (before.handle + step) (subst (λ n. n < 2 ^ 63) leads.handle leads.in_range.handle)) (sym leads.handle)
    ∙ ap (option_map (λ (place : ℕ). record { handle = pair.handle; place = place })) (place_there before.place pair.place move leads.in_range.place leads.place)
  where
    passes : (handle : ℕ) → handle < 2 ^ 63 → nat_lt handle (2 ^ 63) ≡ true
    passes handle small = grind (arith, nat_tests)

-- a pair after another is a code
pub pair_is_code : (before : Pair) → IsPair before → IsCode AreBytes (pair_after before)
unfolding pair_after
pair_is_code before fits_before = record {
  sound = λ letters rest pair text found.
      option_and_then_some after (mc.parse letters) (pair, rest) found
      (λ one was next. option_and_then_some (last one.0) (signed_mc.parse one.1) (pair, rest) next
      (λ two was_two made. option_map_some (λ (pair : Pair). (pair, two.1)) (pair_at_steps before one.0 two.0) (pair, rest) made
      (λ of_steps leads same. subst (IsFound (pair_after before).Spells letters) same
      (of_parts letters one two of_steps text (mc_is_code.sound letters one.1 one.0 text was) was_two (steps_lead before of_steps one.0 two.0 leads)))));
  complete = λ prefix rest pair spelled.
      ap (λ all. option_and_then after (mc.parse all)) (ap (λ all. all ++ rest) spelled.whole ∙ append_assoc spelled.prefix spelled.back rest)
      ∙ ap (option_and_then after) (mc_is_code.complete spelled.prefix (spelled.back ++ rest) spelled.step spelled.step_spelled)
      ∙ ap (option_and_then (last spelled.step)) (signed_mc_is_code.complete spelled.back rest spelled.move spelled.move_spelled)
      ∙ ap (option_map (λ (pair : Pair). (pair, rest))) (steps_there before pair spelled.step spelled.move (leads_of prefix pair spelled));
  value = λ prefix pair spelled. (spelled.in_range, omega (arith, spelled.handle));
  canonical = λ pair fits. record {
    step = pair.handle - before.handle;
    move = move_between before.place pair.place;
    prefix = mc.short (pair.handle - before.handle);
    back = signed_mc.short (move_between before.place pair.place);
    in_range = fits.0;
    handle = omega (arith, fits.1);
    place = move_leads before.place pair.place;
    step_spelled = mc_is_code.canonical (pair.handle - before.handle) (mc_has (pair.handle - before.handle) (omega (arith, fits.0.handle)));
    move_spelled = signed_mc_is_code.canonical (move_between before.place pair.place) (move_small before.place pair.place fits_before.place fits.0.place);
    whole = refl;
  };
  least = λ prefix pair spelled.
      let step : spelled.step ≡ pair.handle - before.handle = omega (arith, spelled.handle) in
      let one : length (mc.short (pair.handle - before.handle)) ≤ length spelled.prefix =
      subst (λ n. length (mc.short n) ≤ length spelled.prefix) step (mc_is_code.least spelled.prefix spelled.step spelled.step_spelled) in
      let two : length (signed_mc.short (move_between before.place pair.place)) ≤ length spelled.back =
      subst (λ z. length (signed_mc.short z) ≤ length spelled.back) (move_is before.place pair.place spelled.move spelled.place)
      (signed_mc_is_code.least spelled.back spelled.move spelled.move_spelled) in
      omega (
        arith,
        ap length spelled.whole,
        length-append spelled.prefix spelled.back,
        length-append (mc.short (pair.handle - before.handle)) (signed_mc.short (move_between before.place pair.place)),
      );
}
  where
    last : ℕ → ℤ × List ℕ → Option (Pair × List ℕ)
    last step two = option_map (λ (pair : Pair). (pair, two.1)) (pair_at_steps before step two.0)

    after : ℕ × List ℕ → Option (Pair × List ℕ)
    after one = option_and_then (last one.0) (signed_mc.parse one.1)

    leads_of : (prefix : List ℕ) (pair : Pair) (spelled : PairSpells before pair prefix) → StepsLead before spelled.step spelled.move pair
    leads_of prefix pair spelled = record { in_range = spelled.in_range; handle = spelled.handle; place = spelled.place }

    of_parts : (letters : List ℕ) (one : ℕ × List ℕ) (two : ℤ × List ℕ) (pair : Pair) → AreBytes letters → IsFound mc.Spells letters one → signed_mc.parse one.1 ≡ Some two
        → StepsLead before one.0 two.0 pair → IsFound (PairSpells before) letters (pair, two.1)
    of_parts letters one two pair text (prefix, first, same) was leads =
        let (back, second, after) = signed_mc_is_code.sound one.1 two.1 two.0 (bytes_closed prefix one.1 (subst AreBytes same text)) was in (
          prefix ++ back,
          record {
            step = one.0;
            move = two.0;
            prefix = prefix;
            back = back;
            in_range = leads.in_range;
            handle = leads.handle;
            place = leads.place;
            step_spelled = first;
            move_spelled = second;
            whole = refl;
          },
          same ∙ ap (λ rest. prefix ++ rest) after ∙ sym (append_assoc prefix back two.1),
        )
