-- Loops that count, place or give one piece for each item: what is done so far and what is left give the whole.
use Rattle.std.proofs.Common.{◌≡◌, refl, sym, ◌∙◌, ap, subst, ℕ, ◌+◌, ◌<◌, ◌≤◌, List, [], ◌∷◌, ◌++◌, length, length-append, drop, get_or, append_assoc, arith}
use Rattle.std.specs.Prelude.{map, flat_map}
use Rattle.std.specs.List.{AllByRecursion}
use Rattle.std.proofs.lemmas.List.{append-nil, drop_more, drop_all}
use Rattle.std.specs.Prelude.{Option}
use Rattle.dwg_file.specs.WriteBuffer.{WritesWhole, WritesPrefix}
use Rattle.dwg_file.proofs.GivenBytes.{waits, given_both, cut_before, cut_after}

-- what is left from a place on is the item there and what is left after it
pub left_at : {X : Type 0} (items : List X) (i : ℕ) (item : X) → i < length items → item ≡ get_or items i item → drop i items ≡ item ∷ drop (i + 1) items
left_at items i item inside here = drop_more items i item inside ∙ ap (λ first. first ∷ drop (i + 1) items) (sym here)

module _ {X V : Type 0} (value : X → V) (piece : V → List ℕ) where
  -- the pieces of items
  abbrev pub pieces : List X → List ℕ
  pieces items = flat_map piece (map value items)

  -- items are counted up to those that are left
  abbrev pub AreCounted : List X → List X → ℕ → ℕ → Type 0
  AreCounted all left from place = from + length (pieces all) ≡ place + length (pieces left)

  -- with one more counted, those after it are left
  pub one_counted : (all : List X) (i : ℕ) (item : X) (from place more : ℕ) → i < length all → item ≡ get_or all i item → more ≡ length (piece (value item))
      → AreCounted all (drop i all) from place → AreCounted all (drop (i + 1) all) from (place + more)
  one_counted all i item from place more inside here long counted =
      let left = drop (i + 1) all in
      omega (arith, counted, ap (λ rest. length (pieces rest)) (left_at all i item inside here), length-append (piece (value item)) (pieces left))

  -- where none is left, all are counted
  pub all_counted : (all : List X) (i : ℕ) (from place : ℕ) → length all ≤ i → AreCounted all (drop i all) from place → place ≡ from + length (pieces all)
  all_counted all i from place past counted = omega (arith, counted, ap (λ rest. length (pieces rest)) (drop_all i all past))

  -- pieces are given up to those of items that are left
  pub record AreGiven (all left : List X) (old now : Option (List ℕ)) (waited waiting : List ℕ) : Type 0 where
    pub done : List ℕ
    pub given : WritesWhole old now waited waiting done
    pub whole : done ++ pieces left ≡ pieces all

  -- at the begin all are left
  pub none_given : (all : List X) (now : Option (List ℕ)) (waited : List ℕ) → AreGiven all all now now waited waited
  none_given all now waited = record { done = []; given = waits now waited [] waited (sym (append-nil waited)); whole = refl }

  -- with one more given, those after it are left
  pub one_given : (all : List X) (i : ℕ) (item : X) (old mid new : Option (List ℕ)) (waited between waiting : List ℕ) → i < length all → item ≡ get_or all i item
      → WritesWhole mid new between waiting (piece (value item)) → AreGiven all (drop i all) old mid waited between → AreGiven all (drop (i + 1) all) old new waited waiting
  one_given all i item old mid new waited between waiting inside here more so_far = record {
    done = so_far.done ++ piece (value item);
    given = given_both old mid new waited between waiting so_far.done (piece (value item)) (so_far.done ++ piece (value item)) refl so_far.given more;
    whole =
        append_assoc so_far.done (piece (value item)) (pieces (drop (i + 1) all))
        ∙ ap (λ rest. so_far.done ++ pieces rest) (sym (left_at all i item inside here)) ∙ so_far.whole;
  }

  -- where one is cut off, all are
  pub one_cut : (all : List X) (i : ℕ) (item : X) (old mid new : Option (List ℕ)) (waited between : List ℕ) → i < length all → item ≡ get_or all i item
      → WritesPrefix mid new between (piece (value item)) → AreGiven all (drop i all) old mid waited between → WritesPrefix old new waited (pieces all)
  one_cut all i item old mid new waited between inside here cut so_far =
      cut_after old mid new waited between so_far.done (pieces (drop i all)) (pieces all) so_far.whole so_far.given
      (cut_before mid new between (piece (value item)) (pieces (drop (i + 1) all)) (pieces (drop i all)) (ap pieces (sym (left_at all i item inside here))) cut)

  -- where none is left, all are given
  pub all_given : (all : List X) (i : ℕ) (old new : Option (List ℕ)) (waited waiting : List ℕ) → length all ≤ i → AreGiven all (drop i all) old new waited waiting
      → WritesWhole old new waited waiting (pieces all)
  all_given all i old new waited waiting past so_far =
      subst (WritesWhole old new waited waiting) (sym (append-nil so_far.done) ∙ ap (λ rest. so_far.done ++ pieces rest) (sym (drop_all i all past)) ∙ so_far.whole) so_far.given

  -- what holds of all that are left holds of the first of them, and of those after it
  pub holds_here : (P : V → Type 0) (all : List X) (i : ℕ) (item : X) → i < length all → item ≡ get_or all i item → AllByRecursion P (map value (drop i all))
      → P (value item) × AllByRecursion P (map value (drop (i + 1) all))
  holds_here P all i item inside here holds = subst (λ rest. AllByRecursion P (map value rest)) (left_at all i item inside here) holds
