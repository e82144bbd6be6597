-- Classes that are written: which lists of classes have spellings, and that what is written of them, padded, is cut into them. A rule of this project.
use Rattle.std.proofs.Common.{◌≡◌, ap, ◌*◌, ◌≤◌, ℕ, List, [], ◌∷◌, length, arith}
use Rattle.std.specs.Prelude.{◌↔◌}
use Rattle.std.specs.List.{AllByRecursion}
use Rattle.std.proofs.lemmas.Bool.Decides.{nat_tests}
use Rattle.std.proofs.lemmas.List.{length-append}
use Rattle.dwg_bits.specs.Bits.{bits}
use Rattle.dwg_bits.proofs.BitLaws.{length_of_bits}
use Rattle.dwg_bits.specs.Sink.{padding}
use Rattle.dwg_bits.proofs.PaddingLaw.{padding_fills}
use Rattle.dwg_grammar.specs.Grammar.{AnyLetters}
use Rattle.dwg_grammar.specs.ToEnd.{AreValues, short_all}
use Rattle.dwg_grammar.proofs.ToEndLemmas.{value_all, canonical_all, least_all, all_to_end}
use Rattle.dwg_classes.specs.declared.class.Class.{Class}
use Rattle.dwg_classes.specs.Class.{any_class, numbered_class, LEAST_BITS, AreClasses}
use Rattle.dwg_classes.proofs.ClassCode.{numbered_class_is_code}
use Rattle.dwg_classes.specs.WrittenClasses.{AreWritable, IsNumbered, padded}

-- lists that have spellings are of such classes
numbered_of_values : (classes : List Class) → AreValues numbered_class classes → AllByRecursion IsNumbered classes
unfolding any_class
numbered_of_values [] are = tt
numbered_of_values (class ∷ classes) are = let numbered = are.0.0 in ((are.0.1, grind (arith, nat_tests)), numbered_of_values classes are.1)

-- and lists of such classes have spellings
values_of_numbered : (classes : List Class) → AllByRecursion IsNumbered classes → AreValues numbered_class classes
unfolding any_class
values_of_numbered [] are = tt
values_of_numbered (class ∷ classes) are = let enough = are.0.1 in ((grind (arith, nat_tests), are.0.0), values_of_numbered classes are.1)

-- lists of classes have spellings exactly where each lies in the ranges of its type and has a number that classes have
pub are_values : (classes : List Class) → AreValues numbered_class classes ↔ AllByRecursion IsNumbered classes
are_values classes = (numbered_of_values classes, values_of_numbered classes)

-- bytes that hold what is written of classes are cut into these classes
pub written_are_classes : (content : List ℕ) (classes : List Class) → AreValues numbered_class classes → bits content ≡ padded classes → AreClasses content classes
written_are_classes content classes are same =
    let all = short_all numbered_class classes in (
      padding all,
      all_to_end LEAST_BITS numbered_class classes (bits content) all (padding all)
          (canonical_all AnyLetters numbered_class classes numbered_class_is_code are) same (omega (arith, (padding_fills all).1)),
    )

-- classes that have spellings can be written
writable_of_numbered : (classes : List Class) → AllByRecursion IsNumbered classes → AreWritable classes
writable_of_numbered [] are = tt
writable_of_numbered (class ∷ classes) are = (
  record {
    number = are.0.1;
    application = are.0.0.application.0;
    cpp_name = are.0.0.cpp_name.0;
    dxf_name = are.0.0.dxf_name.0;
  },
  writable_of_numbered classes are.1,
)

-- what a content is cut into has spellings, and is written by no more bits
pub read_are_values : (content : List ℕ) (classes : List Class) → AreClasses content classes → AreValues numbered_class classes × (length (short_all numbered_class classes) ≤ 8 * length content)
read_are_values content classes (slack, cut) = (
  value_all AnyLetters numbered_class classes cut.prefix numbered_class_is_code cut.spelled,
  omega (
    arith,
    least_all AnyLetters numbered_class classes cut.prefix numbered_class_is_code cut.spelled,
    ap length cut.whole,
    length-append cut.prefix slack,
    length_of_bits content,
  ),
)

-- and it can be written
pub read_are_writable : (content : List ℕ) (classes : List Class) → AreClasses content classes → AreWritable classes
read_are_writable content classes are = writable_of_numbered classes (numbered_of_values classes (read_are_values content classes are).0)
