-- What differs between the versions is a code, or a part of the references, in each of them.
use Rattle.std.proofs.Common.{◌≡◌, refl, ℕ, ◌^◌, ◌<◌, Bool, true, false, List}
use Rattle.dwg_base.specs.declared.version.Version.{Version}
use Rattle.dwg_base.specs.declared.version.Version.TheVariants.{Ac1014, Ac1015}
use Rattle.dwg_base.specs.Versions.{is_newer}
use Rattle.dwg_grammar.specs.Codes.{bd, bt, bd3, be, IsPoint3}
use Rattle.std.proofs.lemmas.Option.{none-some}
use Rattle.dwg_grammar.specs.Bodies.{BodyGrammar, IsBody}
use Rattle.dwg_grammar.specs.Grammar.{Grammar, IsCode, AnyLetters}
use Rattle.dwg_grammar.specs.declared.points.Point3.{Point3}
use Rattle.dwg_grammar.specs.References.{ReferencePart, IsReferencePart}
use Rattle.dwg_grammar.specs.Versions.{NOWHERE, in_version, given, given_ref, ref_since_1015, only_1015, refs_in_version, fixed_refs, thickness, extrusion}
use Rattle.dwg_grammar.proofs.CombinatorLemmas.{always_is_code}
use Rattle.dwg_grammar.specs.Reference.{Reference}
use Rattle.dwg_grammar.proofs.ReferenceParts.{one_is_part}
use Rattle.dwg_grammar.proofs.TableLemmas.{bd_is_code, bt_is_code, bd3_is_code, be_is_code}

-- one code in AC1014 and another in AC1015
pub in_version_is_code : {A V : Type 0} (IsText : List A → Type 0) (version : Version) (older newer : Grammar A V)
    → IsCode IsText older → IsCode IsText newer → IsCode IsText (in_version version older newer)
in_version_is_code IsText Ac1014 older newer is was = is
in_version_is_code IsText Ac1015 older newer is was = was

-- a value that is spelled where a test holds
pub given_is_code : {A V : Type 0} (IsText : List A → Type 0) (test : Bool) (fixed : V) (code : Grammar A V) → IsCode IsText code → IsCode IsText (given test fixed code)
given_is_code IsText true fixed code is = is
given_is_code IsText false fixed code is = always_is_code IsText fixed

-- one of references
pub in_version_is_part : {R : Type 0} (base : ℕ) (version : Version) (older newer : ReferencePart R)
    → IsReferencePart base older → IsReferencePart base newer → IsReferencePart base (refs_in_version version older newer)
in_version_is_part base Ac1014 older newer is was = is
in_version_is_part base Ac1015 older newer is was = was

-- references that aren't spelled
pub fixed_is_part : {R : Type 0} (base : ℕ) (only : R) → IsReferencePart base (fixed_refs only)
fixed_is_part {R} base only = record {
  is_code = always_is_code AnyLetters only;
  listed = λ value letters spelled. spelled.1;
  respelled = λ value letters other spelled others. (spelled.0, others);
}

-- a reference that is spelled where a test holds
pub given_ref_is_part : (base : ℕ) (test : Bool) (fixed : Reference) → base < 2 ^ 63 → IsReferencePart base (given_ref base test fixed)
given_ref_is_part base true fixed small = one_is_part base small
given_ref_is_part base false fixed small = fixed_is_part base fixed

-- a reference that AC1015 alone spells
pub ref_since_is_part : (version : Version) (base : ℕ) → base < 2 ^ 63 → IsReferencePart base (ref_since_1015 version base)
ref_since_is_part version base small = given_ref_is_part base (is_newer version) NOWHERE small

-- a thickness and an extrusion
pub thickness_is_code : (version : Version) → IsCode AnyLetters (thickness version)
thickness_is_code version = in_version_is_code AnyLetters version bd bt bd_is_code bt_is_code

pub extrusion_is_code : (version : Version) → IsCode AnyLetters (extrusion version)
extrusion_is_code version = in_version_is_code AnyLetters version bd3 be bd3_is_code be_is_code

-- a word is a thickness
pub thickness_value : (version : Version) (word : ℕ) → word < 2 ^ 64 → (thickness version).IsValue word
thickness_value Ac1014 word small = small
thickness_value Ac1015 word small = small

-- a point is an extrusion, and only a point
pub extrusion_value : (version : Version) (point : Point3) → IsPoint3 point → (extrusion version).IsValue point
extrusion_value Ac1014 point is = is
extrusion_value Ac1015 point is = is

pub extrusion_point : (version : Version) (point : Point3) → (extrusion version).IsValue point → IsPoint3 point
extrusion_point Ac1014 point is = is
extrusion_point Ac1015 point is = is

-- a body that AC1015 alone spells is one in each version
pub only_1015_is_body : {V : Type 0} (base : ℕ) (version : Version) (body : BodyGrammar V) → IsBody base body → IsBody base (only_1015 version body)
only_1015_is_body {V} base Ac1015 body is = record {
  sound = λ main main_left references references_left value found.
      let begins = is.sound main main_left references references_left value found in
      record {
        main_prefix = begins.main_prefix;
        reference_prefix = begins.reference_prefix;
        spelled = (refl, begins.spelled);
        main_whole = begins.main_whole;
        references_whole = begins.references_whole;
      };
  complete = λ main main_left references references_left value spelled. is.complete main main_left references references_left value spelled.1;
  value = λ value main references over spelled. (refl, is.value value main references over spelled.1);
  canonical = λ value over fits may. (refl, is.canonical value over fits.1 may);
  least_main = λ value main references over spelled. is.least_main value main references over spelled.1;
  least_references = λ value main references over spelled. is.least_references value main references over spelled.1;
  listed = λ value main references over spelled. is.listed value main references over spelled.1;
  respelled = λ value main references other over other_over spelled others may. (refl, is.respelled value main references other over other_over spelled.1 others may);
  padded = is.padded;
}
only_1015_is_body {V} base Ac1014 body is = record {
  sound = λ main main_left references references_left value found. absurd (none-some (value, (main_left, references_left)) found);
  complete = λ main main_left references references_left value spelled. absurd (false_isnt_true spelled.0);
  value = λ value main references over spelled. absurd (false_isnt_true spelled.0);
  canonical = λ value over fits may. absurd (false_isnt_true fits.0);
  least_main = λ value main references over spelled. absurd (false_isnt_true spelled.0);
  least_references = λ value main references over spelled. absurd (false_isnt_true spelled.0);
  listed = λ value main references over spelled. absurd (false_isnt_true spelled.0);
  respelled = λ value main references other over other_over spelled others may. absurd (false_isnt_true spelled.0);
  padded = is.padded;
}
  where
    false_isnt_true : false ≡ true → ⊥
    false_isnt_true same = cc
