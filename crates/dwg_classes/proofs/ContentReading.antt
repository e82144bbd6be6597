-- Reading a content class by class: what is read so far, and what is left.
use Rattle.std.proofs.Common.{◌≡◌, refl, sym, ◌∙◌, ap, ap₂, subst, ℕ, ◌+◌, ◌*◌, ◌<◌, ◌≤◌, Bool, List, [], ◌∷◌, ◌++◌, length, arith}
use Rattle.std.specs.Prelude.{Some, Ok, Err}
use Rattle.std.proofs.lemmas.List.{append_assoc, length-append}
use Rattle.dwg_base.specs.Refusals.{Answers, IfRefused}
use Rattle.dwg_base.specs.Refusal.{Refusal}
use Rattle.dwg_base.specs.declared.refusal.Fault.{Fault}
use Rattle.dwg_base.specs.declared.refusal.Fault.TheVariants.{NoMemory, Refused}
use Rattle.dwg_bits.specs.Bits.{bits}
use Rattle.dwg_bits.proofs.BitLaws.{bits_between_all}
use Rattle.dwg_bits.specs.Cursor.{bits_between}
use Rattle.dwg_grammar.specs.Grammar.{Reads}
use Rattle.dwg_grammar.specs.ToEnd.{SpellsAll}
use Rattle.dwg_grammar.proofs.ToEndLemmas.{all_to_end, spells_one_more}
use Rattle.dwg_classes.specs.declared.class.Class.{Class}
use Rattle.dwg_classes.specs.Class.{numbered_class, LEAST_BITS, AreClasses}
use Rattle.dwg_classes.proofs.ClassCode.{class_least}
use Rattle.dwg_classes.specs.ClassLines.{ClassFails, RefusesClass, tried_classes}
use Rattle.dwg_classes.proofs.ClassLineLemmas.{tried_ok, tried_err}

-- the classes so far are spelled by so many bits of the content, and these are left
pub record AreReadSoFar (content : List ℕ) (classes : List Class) (first : ℕ) (left : List Bool) : Type 0 where
  pub prefix : List Bool
  pub spelled : SpellsAll numbered_class classes prefix
  pub whole : bits content ≡ prefix ++ left
  pub far : length prefix ≡ first

-- at the begin no class is read, and all bits are left
pub none_so_far : (content : List ℕ) (classes : List Class) (bytes : List ℕ) (first end : ℕ) → classes ≡ [] → bytes ≡ content → first ≡ 0 → end ≡ 8 * length content
    → AreReadSoFar content classes first (bits_between bytes first end)
none_so_far content classes bytes first end none same begin last = record {
  prefix = [];
  spelled = subst (λ read. SpellsAll numbered_class read []) (sym none) refl;
  whole = sym (bits_between_all content end last) ∙ ap₂ (λ held at. bits_between held at end) (sym same) (sym begin);
  far = sym begin;
}

-- a class more is read, and the bits after it are left
pub one_so_far : (content : List ℕ) (classes : List Class) (class : Class) (first next : ℕ) (left after : List Bool) → AreReadSoFar content classes first left → Reads numbered_class (Some class) left after
    → next + length after ≡ first + length left → AreReadSoFar content (classes ++ class ∷ []) next after
one_so_far content classes class first next left after so_far taken moved = record {
  prefix = so_far.prefix ++ taken.0;
  spelled = spells_one_more numbered_class classes class so_far.prefix taken.0 so_far.spelled taken.1;
  whole = so_far.whole ∙ ap (λ rest. so_far.prefix ++ rest) taken.2 ∙ sym (append_assoc so_far.prefix taken.0 after);
  far = omega (arith, so_far.far, length-append so_far.prefix taken.0, ap length taken.2, length-append taken.0 after);
}

-- a class that was taken leaves fewer bits
pub fewer_left : (class : Class) (left after : List Bool) → Reads numbered_class (Some class) left after → length after < length left
fewer_left class left after taken =
    omega (arith, class_least class taken.0 taken.1, ap length taken.2, length-append taken.0 after)

-- where fewer bits than a class has are left, the content is cut into the classes so far
pub all_read : (content : List ℕ) (classes : List Class) (first : ℕ) (left : List Bool) → AreReadSoFar content classes first left → length left < LEAST_BITS → AreClasses content classes
all_read content classes first left so_far few =
    (left, all_to_end LEAST_BITS numbered_class classes (bits content) so_far.prefix left so_far.spelled so_far.whole few)

-- where as many are left and the next class fails, the content is refused
class_refused : (place : ℕ) (content : List ℕ) (classes : List Class) (first : ℕ) (left : List Bool) (refusal : Refusal) → AreReadSoFar content classes first left → LEAST_BITS ≤ length left
    → ClassFails place (length classes) first left refusal → RefusesClass place content refusal
class_refused place content classes first left refusal so_far enough fails = record {
  before = classes;
  prefix = so_far.prefix;
  rest = left;
  spelled = so_far.spelled;
  whole = so_far.whole;
  more = enough;
  fails = subst (λ bit. ClassFails place (length classes) bit left refusal) (sym so_far.far) fails;
}

-- the same of a fault, whose index is the count of the classes in hand
pub fault_refused : (place : ℕ) (content : List ℕ) (classes held : List Class) (first : ℕ) (left : List Bool) (fault : Fault) → AreReadSoFar content classes first left → LEAST_BITS ≤ length left
    → held ≡ classes → IfRefused fault (ClassFails place (length held) first left) → IfRefused fault (RefusesClass place content)
fault_refused place content classes held first left NoMemory so_far enough same fails = tt
fault_refused place content classes held first left (Refused refusal) so_far enough same fails =
    class_refused place content classes first left refusal so_far enough (subst (λ (list : List Class). ClassFails place (length list) first left refusal) same fails)

-- classes that were read are what was tried
pub answers_ok : (place : ℕ) (content : List ℕ) (classes : List Class) → AreClasses content classes → tried_classes place content ≡ Ok classes
answers_ok place content classes are = (tried_ok place content classes).1 are

-- and so is a refusal
pub answers_err : (place : ℕ) (content : List ℕ) (fault : Fault) → IfRefused fault (RefusesClass place content) → Answers (Err fault) (tried_classes place content)
answers_err place content NoMemory refuses = tt
answers_err place content (Refused refusal) refuses = (tried_err place content refusal).1 refuses
