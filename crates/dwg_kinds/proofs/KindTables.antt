-- Numbers in the tables of kinds: what a run gives, what no row gives, and which kinds are those of entities.
use Rattle.std.proofs.Common.{◌≡◌, refl, sym, ap, ◌∙◌, ℕ, ◌<◌, ◌≤◌, true, false, List, [], ◌∷◌, arith}
use Rattle.std.specs.Prelude.{◌≢◌, ◌==◌, ◌↔◌, ◌&&◌, ◌||◌, Bool, nat_lt, not, None, Contains, IsTrue}
use Rattle.std.specs.List.{AllByRecursion, list_all, list_any}
use Rattle.std.specs.Cmp.{on_equiv, nat_eq_equiv}
use Rattle.std.specs.Map.{lookup}
use Rattle.std.proofs.lemmas.Bool.Decides.{nat_tests}
use Rattle.std.proofs.lemmas.Bool.{true≢false}
use Rattle.std.proofs.lemmas.Map.Views.{Contains-from_any, list_any-from_Contains}
use Rattle.dwg_kinds.specs.declared.kind.Kind.{Kind}
use Rattle.dwg_kinds.specs.declared.kind.Kind.TheVariants.{Text, PlainEntity, PlainObject, Unknown}
use Rattle.dwg_kinds.specs.declared.number.ClassHint.{ClassHint}
use Rattle.dwg_kinds.specs.Kinds.{Run, TYPED_KINDS, PLAIN_ENTITIES, PLAIN_OBJECTS, ENTITY_KINDS, LiesOutside, lies_in, fixed_kind_of, kind_at, place_of_kind, is_entity_kind, same_kind}
use Rattle.dwg_kinds.proofs.SameKinds.{same_kinds}

-- a number of no row is not found
not_found : (number : ℕ) (rows : List (ℕ × Kind)) → AllByRecursion (λ typed. number ≢ typed.0) rows → lookup (λ typed. typed == number) rows ≡ None
not_found number [] others = refl
not_found number (row ∷ rows) others =
    let test : (row.0 == number) ≡ false = grind (arith, nat_tests, others.0) in
    rw test (not_found number rows others.1)

-- a number outside each run lies in none
outside : (number : ℕ) (runs : List Run) → LiesOutside runs number → lies_in runs number ≡ false
outside number [] out = refl
outside number (run ∷ runs) out =
    let test : lies_in (run ∷ []) number ≡ false = grind (arith, nat_tests, out.0) in
    grind (arith, nat_tests, out.0, outside number runs out.1)

-- a number below 500 in none of the lists has no kind
pub no_other : (number : ℕ) (hint : ClassHint) → number < 500 → AllByRecursion (λ typed. number ≢ typed.0) TYPED_KINDS → LiesOutside PLAIN_ENTITIES number → LiesOutside PLAIN_OBJECTS number
    → kind_at number hint ≡ Unknown
unfolding kind_at fixed_kind_of
no_other number hint small typed entities objects =
    let fixed : nat_lt number 500 ≡ true = grind (arith, nat_tests) in
    rw (fixed, not_found number TYPED_KINDS typed, outside number PLAIN_ENTITIES entities, outside number PLAIN_OBJECTS objects) refl

-- what holds of a number where it lies in a run holds of it at each run that has it
at_each_run : (P : Type 0) (number : ℕ) (runs : List Run) → (lies_in runs number ≡ true → P) → AllByRecursion (λ (run : Run). run.0 ≤ number → number ≤ run.1 → P) runs
at_each_run P number [] lies = tt
at_each_run P number (run ∷ runs) lies = (
  λ first last. lies (grind (arith, nat_tests)),
  at_each_run P number runs (λ others. lies (grind (arith, nat_tests, others))),
)

-- a number that lies in runs is below what all runs lie below
below_all : (number bound : ℕ) (runs : List Run) → list_all (λ run. nat_lt run.1 bound) runs ≡ true → lies_in runs number ≡ true → nat_lt number bound ≡ true
below_all number bound [] below lies = absurd (cc)
below_all number bound (run ∷ runs) below lies = grind (arith, nat_tests, below_all number bound runs)

-- a test fails, and the others pass
fails_first : (one others : Bool) → (not one && others) ≡ true → (one ≡ false) × (others ≡ true)
fails_first true others pass = absurd (cc)
fails_first false others pass = (refl, pass)

-- two numbers of which one lies in runs differ
differ : (number other : ℕ) (runs : List Run) → lies_in runs number ≡ true → lies_in runs other ≡ false → number ≢ other
differ number other runs lies out = λ same. true≢false (sym lies ∙ (ap (lies_in runs) same ∙ out))

-- a number that lies in runs is that of no row whose number lies in none
no_row : (number : ℕ) (runs : List Run) (rows : List (ℕ × Kind)) → list_all (λ row. not (lies_in runs row.0)) rows ≡ true → lies_in runs number ≡ true → AllByRecursion (λ typed. number ≢ typed.0) rows
no_row number runs [] apart lies = tt
no_row number runs (row ∷ rows) apart lies =
    let tests = fails_first (lies_in runs row.0) (list_all (λ row. not (lies_in runs row.0)) rows) apart in
    (differ number row.0 runs lies tests.0, no_row number runs rows tests.1 lies)

-- tests of the tables: plain entities have numbers below 500, and no number of a typed kind
below_classes : list_all (λ run. nat_lt run.1 500) PLAIN_ENTITIES ≡ true
unfolding PLAIN_ENTITIES
below_classes = refl

entities_untyped : list_all (λ row. not (lies_in PLAIN_ENTITIES row.0)) TYPED_KINDS ≡ true
unfolding PLAIN_ENTITIES TYPED_KINDS
entities_untyped = refl

-- a number in a run of plain entities has their kind
pub in_plain_entities : (number : ℕ) (hint : ClassHint) → AllByRecursion (λ (run : Run). run.0 ≤ number → number ≤ run.1 → kind_at number hint ≡ PlainEntity) PLAIN_ENTITIES
unfolding kind_at fixed_kind_of
in_plain_entities number hint =
    at_each_run (kind_at number hint ≡ PlainEntity) number PLAIN_ENTITIES
    (λ lies. rw (below_all number 500 PLAIN_ENTITIES below_classes lies, not_found number TYPED_KINDS (no_row number PLAIN_ENTITIES TYPED_KINDS entities_untyped lies), lies) refl)

objects_untyped : list_all (λ row. not (lies_in PLAIN_OBJECTS row.0)) TYPED_KINDS ≡ true
unfolding PLAIN_OBJECTS TYPED_KINDS
objects_untyped = refl

-- whether two runs have no number in common
abbrev are_apart : Run → Run → Bool
are_apart run other = nat_lt run.1 other.0 || nat_lt other.1 run.0

-- a number in a run lies in no run that is apart from it
in_no_other : (number : ℕ) (run : Run) (others : List Run) → list_all (are_apart run) others ≡ true → run.0 ≤ number → number ≤ run.1 → lies_in others number ≡ false
in_no_other number run [] apart first last = refl
in_no_other number run (other ∷ others) apart first last = grind (arith, nat_tests, in_no_other number run others)

-- a number that lies in runs lies in none of others that are apart from all of them
in_no_others : (number : ℕ) (runs others : List Run) → list_all (λ run. list_all (are_apart run) others) runs ≡ true → lies_in runs number ≡ true → lies_in others number ≡ false
in_no_others number [] others apart lies = absurd (cc)
in_no_others number (run ∷ runs) others apart lies = grind (arith, nat_tests, in_no_other number run others, in_no_others number runs others)

-- the runs of other objects are below 500, and apart from those of entities
objects_below : list_all (λ run. nat_lt run.1 500) PLAIN_OBJECTS ≡ true
unfolding PLAIN_OBJECTS
objects_below = refl

objects_apart : list_all (λ run. list_all (are_apart run) PLAIN_ENTITIES) PLAIN_OBJECTS ≡ true
unfolding PLAIN_OBJECTS PLAIN_ENTITIES
objects_apart = refl

-- a number in a run of other plain objects has their kind
pub in_plain_objects : (number : ℕ) (hint : ClassHint) → AllByRecursion (λ (run : Run). run.0 ≤ number → number ≤ run.1 → kind_at number hint ≡ PlainObject) PLAIN_OBJECTS
unfolding kind_at fixed_kind_of
in_plain_objects number hint =
    at_each_run (kind_at number hint ≡ PlainObject) number PLAIN_OBJECTS
    (λ lies. rw (
      below_all number 500 PLAIN_OBJECTS objects_below lies,
      not_found number TYPED_KINDS (no_row number PLAIN_OBJECTS TYPED_KINDS objects_untyped lies),
      in_no_others number PLAIN_OBJECTS PLAIN_ENTITIES objects_apart lies,
      lies,
    ) refl)

-- a kind is one of entities where the list of their kinds has it
is_listed : (kind : Kind) → list_any (same_kind kind) ENTITY_KINDS ≡ is_entity_kind kind
unfolding is_entity_kind same_kind
is_listed Text = refl
is_listed kind = refl

-- the kinds of entities are those of the list
pub entities_listed : (kind : Kind) → IsTrue (is_entity_kind kind) ↔ Contains ENTITY_KINDS kind
unfolding same_kind
entities_listed kind = (
  λ is. Contains-from_any (λ one other. (same_kinds one other).0) kind ENTITY_KINDS (is_listed kind ∙ is),
  λ listed. sym (is_listed kind) ∙ list_any-from_Contains (on_equiv place_of_kind nat_eq_equiv) kind ENTITY_KINDS listed,
)
