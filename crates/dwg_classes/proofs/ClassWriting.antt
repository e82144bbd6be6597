-- Writing a class: the bits of its parts, one after the other.
use Rattle.std.proofs.Common.{◌≡◌, refl, sym, ◌∙◌, ap, subst, ℕ, ◌+◌, ◌%◌, ◌<◌, ◌≤◌, Bool, List, [], ◌∷◌, ◌++◌, length, drop, get_or, arith}
use Rattle.std.specs.Prelude.{false, replicate}
use Rattle.std.proofs.lemmas.Bool.Decides.{nat_tests}
use Rattle.std.proofs.lemmas.List.{append_assoc, append-nil, length-append, drop_more, drop_all}
use Rattle.dwg_bits.specs.Sink.{Written, Extends, padding, missing_bits}
use Rattle.dwg_bits.proofs.SinkLemmas.{extends_by_none, extends_by_both}
use Rattle.dwg_grammar.specs.Codes.{bs, tv, b}
use Rattle.dwg_classes.specs.declared.class.Class.{Class}
use Rattle.dwg_grammar.specs.ToEnd.{AreValues, short_all}
use Rattle.dwg_classes.specs.Class.{IsClass, any_class, numbered_class, LEAST_NUMBER}
use Rattle.dwg_classes.specs.WrittenClasses.{AreWritable}

-- a class in the ranges of its type is a value
is_any_class : (class : Class) → IsClass class → any_class.IsValue class
unfolding any_class
is_any_class class is = is

-- a class is written by its parts
class_short : (class : Class)
    → any_class.short class
    ≡ bs.short class.number ++ (bs.short class.version ++ (tv.short class.application ++ (tv.short class.cpp_name ++ (tv.short class.dxf_name ++ (b.short class.proxy ++ bs.short class.item)))))
unfolding any_class
class_short class = refl

-- seven lists have the bits of each
length_of_seven : (first second third fourth fifth sixth last : List Bool)
    → length (first ++ (second ++ (third ++ (fourth ++ (fifth ++ (sixth ++ last)))))) ≡ length first + length second + length third + length fourth + length fifth + length sixth + length last
length_of_seven first second third fourth fifth sixth last =
    omega (
      arith,
      length-append first (second ++ (third ++ (fourth ++ (fifth ++ (sixth ++ last))))),
      length-append second (third ++ (fourth ++ (fifth ++ (sixth ++ last)))),
      length-append third (fourth ++ (fifth ++ (sixth ++ last))),
      length-append fourth (fifth ++ (sixth ++ last)),
      length-append fifth (sixth ++ last),
      length-append sixth last,
    )

-- so it has the bits of its parts
pub length_of_class : (class : Class)
    → length (any_class.short class)
    ≡ length (bs.short class.number) + length (bs.short class.version) + length (tv.short class.application) + length (tv.short class.cpp_name) + length (tv.short class.dxf_name)
    + length (b.short class.proxy) + length (bs.short class.item)
length_of_class class =
    ap length (class_short class)
    ∙ length_of_seven (bs.short class.number) (bs.short class.version) (tv.short class.application) (tv.short class.cpp_name) (tv.short class.dxf_name) (b.short class.proxy) (bs.short class.item)

-- a sink that grew by each part grew by the class
pub class_written : (class : Class) (s0 s1 s2 s3 s4 s5 s6 s7 : Written) → Extends s0 s1 (bs.short class.number) → Extends s1 s2 (bs.short class.version) → Extends s2 s3 (tv.short class.application)
    → Extends s3 s4 (tv.short class.cpp_name) → Extends s4 s5 (tv.short class.dxf_name) → Extends s5 s6 (b.short class.proxy) → Extends s6 s7 (bs.short class.item) → Extends s0 s7 (any_class.short class)
class_written class s0 s1 s2 s3 s4 s5 s6 s7 number version application cpp_name dxf_name proxy item =
    subst (Extends s0 s7) (sym (class_short class))
    (extends_by_both s0 s1 s7 _ _ number (extends_by_both s1 s2 s7 _ _ version (extends_by_both s2 s3 s7 _ _ application
    (extends_by_both s3 s4 s7 _ _ cpp_name (extends_by_both s4 s5 s7 _ _ dxf_name (extends_by_both s5 s6 s7 _ _ proxy item))))))

-- what is left from a place on is the class there and what is left after it
left_at : (classes : List Class) (i : ℕ) (class : Class) → i < length classes → class ≡ get_or classes i class → drop i classes ≡ class ∷ drop (i + 1) classes
left_at classes i class inside here = drop_more classes i class inside ∙ ap (λ (first : Class). first ∷ drop (i + 1) classes) (sym here)

-- classes are counted up to those that are left: so many bits so far and theirs are all, and all are values where those are
pub record AreCounted (classes left : List Class) (count : ℕ) : Type 0 where
  pub writable : AreWritable left
  pub bits : length (short_all numbered_class classes) ≡ count + length (short_all numbered_class left)
  pub values : AreValues numbered_class left → AreValues numbered_class classes

-- at the begin all are left
pub none_counted : (classes : List Class) → AreWritable classes → AreCounted classes (drop 0 classes) 0
none_counted classes writable = record { writable = writable; bits = omega arith; values = λ are. are }

-- with the first of them counted, those after it are left
one_counted : (classes left : List Class) (class : Class) (count : ℕ) → IsClass class → AreCounted classes (class ∷ left) count → AreCounted classes left (count + length (any_class.short class))
one_counted classes left class count is counted =
    let numbered : LEAST_NUMBER ≤ class.number = counted.writable.0.number in
    record {
      writable = counted.writable.1;
      bits = counted.bits ∙ omega (arith, length-append (any_class.short class) (short_all numbered_class left));
      values = λ are. counted.values ((grind (arith, nat_tests), is_any_class class is), are);
    }

-- the same by its place
pub counted_at : (classes : List Class) (i : ℕ) (class : Class) (count more : ℕ) → i < length classes → class ≡ get_or classes i class → IsClass class → more ≡ length (any_class.short class)
    → AreCounted classes (drop i classes) count → AreCounted classes (drop (i + 1) classes) (count + more)
counted_at classes i class count more inside here is bits counted =
    subst (λ n. AreCounted classes (drop (i + 1) classes) (count + n)) (sym bits)
    (one_counted classes (drop (i + 1) classes) class count is (subst (λ (rest : List Class). AreCounted classes rest count) (left_at classes i class inside here) counted))

-- where none is left, all are counted
pub all_counted : (classes : List Class) (count : ℕ) → AreCounted classes [] count → (count ≡ length (short_all numbered_class classes)) × AreValues numbered_class classes
all_counted classes count counted = (omega (arith, counted.bits), counted.values tt)

-- classes are written up to those that are left: the sink grew by so many bits, and these and what is written of those that are left are what is written of all
pub record AreWrittenSoFar (classes left : List Class) (old now : Written) : Type 0 where
  pub done : List Bool
  pub grown : Extends old now done
  pub whole : short_all numbered_class classes ≡ done ++ short_all numbered_class left
  pub writable : AreWritable left

-- at the begin none is written
pub none_so_far : (classes : List Class) (sink : Written) → AreWritable classes → AreWrittenSoFar classes (drop 0 classes) sink sink
none_so_far classes sink writable = record {
  done = [];
  grown = extends_by_none sink;
  whole = refl;
  writable = writable;
}

-- with the first of those that are left written, those after it are left
one_so_far : (classes left : List Class) (class : Class) (old mid new : Written) → Extends mid new (any_class.short class) → AreWrittenSoFar classes (class ∷ left) old mid → AreWrittenSoFar classes left old new
one_so_far classes left class old mid new more so_far = record {
  done = so_far.done ++ any_class.short class;
  grown = extends_by_both old mid new so_far.done (any_class.short class) so_far.grown more;
  whole = so_far.whole ∙ sym (append_assoc so_far.done (any_class.short class) (short_all numbered_class left));
  writable = so_far.writable.1;
}

-- there is room for the class at a place, where there was room for all
pub room_at : (classes : List Class) (i : ℕ) (class : Class) (old mid : Written) → i < length classes → class ≡ get_or classes i class → length (short_all numbered_class classes) ≤ old.spare
    → AreWrittenSoFar classes (drop i classes) old mid → length (any_class.short class) ≤ mid.spare
room_at classes i class old mid inside here room so_far =
    let left = drop (i + 1) classes in
    let whole : short_all numbered_class classes ≡ so_far.done ++ (any_class.short class ++ short_all numbered_class left) =
    so_far.whole ∙ ap (λ (rest : List Class). so_far.done ++ short_all numbered_class rest) (left_at classes i class inside here) in
    omega (
      arith,
      room,
      so_far.grown.spare,
      ap length whole,
      length-append so_far.done (any_class.short class ++ short_all numbered_class left),
      length-append (any_class.short class) (short_all numbered_class left),
    )

-- where none is left, all are written
pub all_so_far : (classes : List Class) (i : ℕ) (old new : Written) → length classes ≤ i → AreWrittenSoFar classes (drop i classes) old new → Extends old new (short_all numbered_class classes)
all_so_far classes i old new past so_far =
    let whole : short_all numbered_class classes ≡ so_far.done =
    so_far.whole ∙ ap (λ (rest : List Class). so_far.done ++ short_all numbered_class rest) (drop_all i classes past) ∙ append-nil so_far.done in
    subst (Extends old new) (sym whole) so_far.grown

-- after whole bytes the bits that fill up all are those that fill up what was written last
padding_after : (prefix back : List Bool) → length prefix % 8 ≡ 0 → padding (prefix ++ back) ≡ padding back
padding_after prefix back whole = let same : missing_bits (length (prefix ++ back)) ≡ missing_bits (length back) = omega (arith, length-append prefix back) in ap (λ n. replicate n false) same
