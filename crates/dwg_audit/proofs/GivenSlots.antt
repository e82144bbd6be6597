-- The slots of an object, and where their targets stand, one by one.
use Rattle.std.proofs.Common.{◌≡◌, refl, sym, ap, ◌∙◌, ◌<◌, ℕ, List, length, get_or, Option, None, Some}
use Rattle.std.specs.List.{slice_get}
use Rattle.std.specs.Option.{option_map}
use Rattle.std.proofs.lemmas.List.{length-map}
use Rattle.std.proofs.lemmas.Option.{get_or_from_slice_get, slice_get-map, slice_get_read}
use Rattle.dwg_audit.specs.Lookups.{slot_places}
use Rattle.dwg_graph.specs.declared.slot.Slot.{Slot}
use Rattle.dwg_graph.specs.Placed.{place_in}

-- one that is given is one that is held
pub slot_there : (held given : List Slot) (i : ℕ) (slot : Slot) → given ≡ held → i < length given → slot ≡ get_or given i slot → slice_get held i ≡ Some slot
slot_there held given i slot same within is = ap (λ (all : List Slot). slice_get all i) (sym same) ∙ slice_get_read given (length given) i slot refl within is

-- there are as many places
pub places_long : (handles : List ℕ) (held given : List Slot) (places : List (Option ℕ)) → given ≡ held → places ≡ slot_places handles held → length places ≡ length given
places_long handles held given places same are = ap length are ∙ length-map held (λ (slot : Slot). place_in handles slot.target) ∙ ap length (sym same)

-- and each is where the target stands
pub place_there : (handles : List ℕ) (held given : List Slot) (places : List (Option ℕ)) (i : ℕ) (slot : Slot) (place : Option ℕ) → given ≡ held → places ≡ slot_places handles held
    → i < length given → slot ≡ get_or given i slot → place ≡ get_or places i None → place ≡ place_in handles slot.target
place_there handles held given places i slot place same are within is reported =
    reported
    ∙ get_or_from_slice_get places i (place_in handles slot.target) None
    (ap (λ (all : List (Option ℕ)). slice_get all i) are
    ∙ slice_get-map (λ (s : Slot). place_in handles s.target) held i
    ∙ ap (option_map (λ (s : Slot). place_in handles s.target)) (slot_there held given i slot same within is))
