-- Objects and unknown sections that are lent, one after the other and in another order.
use Rattle.std.proofs.Common.{◌≡◌, sym, subst, List, [], ◌∷◌, ◌++◌}
use Rattle.std.specs.List.{All}
use Rattle.std.specs.List.Sorted.{IsPermutation}
use Rattle.std.proofs.lemmas.List.Elements.{All-append, All-cons, All-nil}
use Rattle.std.proofs.lemmas.List.Sorted.{All-permutation}
use Rattle.dwg_object.specs.declared.object.Object.{Object}
use Rattle.dwg_object.specs.Objects.{IsBorrowedObject}
use Rattle.dwg_file.specs.Borrowed.{IsBorrowedSection}
use Rattle.dwg_file.specs.declared.drawing_parts.Other.{Other}

-- one more
all_more : {X : Type 0} (P : X → Type 0) (xs more : List X) (x : X) → more ≡ xs ++ x ∷ [] → All P xs → P x → All P more
all_more P xs more x grown all one = subst (All P) (sym grown) (All-append P xs (x ∷ []) all (All-cons P x [] one (All-nil P)))

-- an object more
pub object_lent : (objects more : List Object) (object : Object) → more ≡ objects ++ object ∷ [] → All IsBorrowedObject objects → IsBorrowedObject object → All IsBorrowedObject more
object_lent objects more object grown all one = all_more IsBorrowedObject objects more object grown all one

-- a section more
pub section_lent : (others more : List Other) (other : Other) → more ≡ others ++ other ∷ [] → All IsBorrowedSection others → IsBorrowedSection other → All IsBorrowedSection more
section_lent others more other grown all one = all_more IsBorrowedSection others more other grown all one

-- in another order
pub order_lent : (objects ordered list : List Object) → IsPermutation objects ordered → list ≡ ordered → All IsBorrowedObject objects → All IsBorrowedObject list
order_lent objects ordered list same is all = subst (All IsBorrowedObject) (sym is) (All-permutation IsBorrowedObject objects ordered same all)

-- no section
pub no_sections_lent : (others : List Other) → others ≡ [] → All IsBorrowedSection others
no_sections_lent others none = subst (All IsBorrowedSection) (sym none) (All-nil IsBorrowedSection)

-- no object
pub no_objects_lent : (objects : List Object) → objects ≡ [] → All IsBorrowedObject objects
no_objects_lent objects none = subst (All IsBorrowedObject) (sym none) (All-nil IsBorrowedObject)
