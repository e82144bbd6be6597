-- A class is a code, and has at least 29 bits where its number is one that classes have.
use Rattle.std.proofs.Common.{◌≡◌, refl, ◌∙◌, ap, subst, ℕ, zero, suc, ◌≤◌, Bool, List, length, arith}
use Rattle.std.specs.Prelude.{nat_le}
use Rattle.std.proofs.lemmas.Bool.Decides.{nat_tests}
use Rattle.std.proofs.lemmas.List.{length-append}
use Rattle.dwg_grammar.specs.Grammar.{IsCode, AnyLetters, IsLawful}
use Rattle.dwg_grammar.proofs.CodeLemmas.{lawful_of_code}
use Rattle.dwg_grammar.proofs.CombinatorLemmas.{any_letters_closed, seq_is_code, struct_is_code, restrict_is_code}
use Rattle.dwg_grammar.specs.Codes.{bs, bs_by, tv, b}
use Rattle.dwg_grammar.proofs.NumberLemmas.{rs_is_code, rc_is_code, length_of_rs}
use Rattle.dwg_grammar.proofs.TableLemmas.{bs_is_code, tv_is_code, tv_bytes, tv_has}
use Rattle.dwg_grammar.proofs.TruthCode.{b_is_code}
use Rattle.dwg_grammar.specs.ToEnd.{HaveLeast, IsCutUniquely}
use Rattle.dwg_grammar.proofs.ToEndLemmas.{cut_uniquely}
use Rattle.dwg_classes.specs.declared.class.Class.{Class}
use Rattle.dwg_classes.specs.Class.{IsClassText, IsClass, ClassParts, class_parts, class_of, parts_of, any_class, numbered_class, LEAST_NUMBER, LEAST_BITS}

-- the parts of a class are a code
class_parts_is_code : IsCode AnyLetters class_parts
class_parts_is_code =
    seq_is_code AnyLetters bs _ any_letters_closed bs_is_code (λ number number_fits.
    seq_is_code AnyLetters bs _ any_letters_closed bs_is_code (λ version version_fits.
    seq_is_code AnyLetters tv _ any_letters_closed tv_is_code (λ application application_fits.
    seq_is_code AnyLetters tv _ any_letters_closed tv_is_code (λ cpp_name cpp_name_fits.
    seq_is_code AnyLetters tv _ any_letters_closed tv_is_code (λ dxf_name dxf_name_fits.
    seq_is_code AnyLetters b _ any_letters_closed b_is_code (λ proxy proxy_fits. bs_is_code))))))

-- a value of TV is the text of a class
class_text : (text : List ℕ) → tv.IsValue text → IsClassText text
class_text text fits = let parts = tv_bytes text fits in (omega (arith, parts.0), parts.1)

-- and the text of a class is a value of TV
text_of_tv : (text : List ℕ) → IsClassText text → tv.IsValue text
text_of_tv text is = tv_has text (omega (arith, is.0)) is.1

-- parts that are spelled make a class
parts_in_range : (parts : ClassParts) → class_parts.IsValue parts → IsClass (class_of parts)
parts_in_range parts (number, (version, (application, (cpp_name, (dxf_name, (proxy, item)))))) = record {
  number = number;
  version = version;
  application = class_text parts.1.1.0 application;
  cpp_name = class_text parts.1.1.1.0 cpp_name;
  dxf_name = class_text parts.1.1.1.1.0 dxf_name;
  item = item;
}

-- the parts of a class are spelled
class_in_parts : (class : Class) → IsClass class → class_parts.IsValue (parts_of class)
class_in_parts class is =
    (is.number, (is.version, (text_of_tv class.application is.application, (text_of_tv class.cpp_name is.cpp_name, (text_of_tv class.dxf_name is.dxf_name, (tt, is.item))))))

-- a class, whatever its number, is a code
pub any_class_is_code : IsCode AnyLetters any_class
unfolding any_class
any_class_is_code =
    struct_is_code AnyLetters IsClass class_of parts_of class_parts class_parts_is_code parts_in_range (λ class is. (class_in_parts class is, refl)) (λ parts fits. refl)

-- a class whose number is one that classes have is a code
pub numbered_class_is_code : IsCode AnyLetters numbered_class
numbered_class_is_code = restrict_is_code AnyLetters (λ class. nat_le LEAST_NUMBER class.number) any_class any_class_is_code

-- both are lawful
pub any_class_is_lawful : IsLawful any_class
any_class_is_lawful = lawful_of_code AnyLetters any_class any_class_is_code

pub numbered_class_is_lawful : IsLawful numbered_class
numbered_class_is_lawful = lawful_of_code AnyLetters numbered_class numbered_class_is_code

-- a BS has at least two bits
length_of_bs : (value : ℕ) (letters : List Bool) → bs.Spells value letters → 2 ≤ length letters
length_of_bs value letters (tag, prefix, back, first, after, same) = omega (arith, first.0, ap length same, length-append prefix back)

-- and after its tag 16, where its value is a number of a class
length_after_tag : (tag value : ℕ) (back : List Bool) → LEAST_NUMBER ≤ value → (bs_by tag).Spells value back → 16 ≤ length back
length_after_tag zero value back enough spelled = omega (arith, rs_is_code.least back value spelled, length_of_rs value)
length_after_tag (suc zero) value back enough spelled = absurd (omega (arith, rc_is_code.value back value spelled))
length_after_tag (suc (suc zero)) value back enough spelled = absurd (omega (arith, spelled.0))
length_after_tag (suc (suc (suc zero))) value back enough spelled = absurd (omega (arith, spelled.0))
length_after_tag (suc (suc (suc (suc tag)))) value back enough spelled = absurd spelled

-- so 18 in all
length_of_number : (value : ℕ) (letters : List Bool) → LEAST_NUMBER ≤ value → bs.Spells value letters → 18 ≤ length letters
length_of_number value letters enough (tag, prefix, back, first, after, same) =
    omega (arith, length_after_tag tag value back enough after, first.0, ap length same, length-append prefix back)

-- a TV has at least two bits
length_of_tv : (text : List ℕ) (letters : List Bool) → tv.Spells text letters → 2 ≤ length letters
unfolding tv
length_of_tv text letters (inner, seen, (prefix, back, first, after, same)) =
    omega (arith, length_of_bs inner.0 prefix first, ap length same, length-append prefix back)

-- a B has one bit
length_of_b : (value : Bool) (letters : List Bool) → b.Spells value letters → length letters ≡ 1
length_of_b value letters spelled = spelled.2.0

-- the parts of a class have at least 29 bits, where the number is one that classes have
length_of_parts : (parts : ClassParts) (letters : List Bool) → LEAST_NUMBER ≤ parts.0 → class_parts.Spells parts letters → LEAST_BITS ≤ length letters
length_of_parts parts letters enough (number, more, one, (version, more_1, two, (application, more_2, three, (cpp_name, more_3, four, (dxf_name, more_4, five, (proxy, item, six, seven, same_5), same_4), same_3), same_2), same_1), same) =
    omega (
      arith,
      length_of_number parts.0 number enough one,
      length_of_bs parts.1.0 version two,
      length_of_tv parts.1.1.0 application three,
      length_of_tv parts.1.1.1.0 cpp_name four,
      length_of_tv parts.1.1.1.1.0 dxf_name five,
      length_of_b parts.1.1.1.1.1.0 proxy six,
      length_of_bs parts.1.1.1.1.1.1 item seven,
      ap length same ∙ length-append number more,
      ap length same_1 ∙ length-append version more_1,
      ap length same_2 ∙ length-append application more_2,
      ap length same_3 ∙ length-append cpp_name more_3,
      ap length same_4 ∙ length-append dxf_name more_4,
      ap length same_5 ∙ length-append proxy item,
    )

-- no class has fewer than 29 bits
pub class_least : HaveLeast LEAST_BITS numbered_class
unfolding any_class
class_least class letters (numbered, (parts, same, spelled)) =
    let enough : LEAST_NUMBER ≤ class.number = grind (arith, nat_tests) in
    length_of_parts parts letters (subst (λ (one : Class). LEAST_NUMBER ≤ one.number) same enough) spelled

-- letters are cut into classes in one way at the most
pub classes_cut_uniquely : IsCutUniquely LEAST_BITS numbered_class
classes_cut_uniquely = cut_uniquely AnyLetters LEAST_BITS numbered_class numbered_class_is_code class_least
