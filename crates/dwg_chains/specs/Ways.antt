-- How paths and chains are sought among finitely many things: by steps, of which as many are tried as there are things. A rule of this project.
use Rattle.std.specs.Prelude.{◌≡◌, ℕ, zero, suc, Bool, false, List, [], ◌∷◌, length, Option, Some, None, Contains, is_some, find, ◌&&◌, if◌then◌else◌}
use Rattle.std.specs.List.{list_all, list_any, filter}
use Rattle.std.specs.Option.{option_and_then, option_map, option_map_or}

-- things of a list lead only to things of it
abbrev pub IsClosed : {A : Type 0} → List A → (A → Option A) → Type 0
IsClosed {A} all step = (x y : A) → Contains all x → step x ≡ Some y → Contains all y

-- the way from x to the first goal, in at most so many steps
unfoldable pub way : {A : Type 0} → (A → Option A) → (A → Bool) → ℕ → A → Option (List A)
way {A} step goal zero x = if goal x then Some (x ∷ []) else None
way {A} step goal (suc more) x = if goal x then Some (x ∷ []) else option_map (λ rest. x ∷ rest) (option_and_then (way step goal more) (step x))

-- whether a path leads from x, where all things are these
unfoldable pub has_path : {A : Type 0} → List A → (A → Option A) → (A → Bool) → A → Bool
has_path {A} all step goal x = is_some (way step goal (length all) x)

-- whether the members of these things are exactly those of the list
abbrev pub are_members : {A : Type 0} → (A → A → Bool) → List A → (A → Bool) → List A → Bool
are_members {A} same all member listed = list_all member listed && list_all (λ x. list_any (same x) listed) (filter member all)

-- whether these things, of which the test reports which are one, have a chain of the members
unfoldable pub has_chain : {A : Type 0} → (A → A → Bool) → List A → (A → Option A) → (A → Bool) → (A → Bool) → (A → Bool) → Bool
has_chain {A} same all step member first last =
    option_map_or (are_members same all member) (option_and_then (way step last (length all)) (find first all)) false
