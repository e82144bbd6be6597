-- What the versions of the format spell otherwise (Open Design Specification, "Bit codes", BT and BE). Which value a part has that AC1014 doesn't spell is a rule of this project.
use Rattle.std.specs.Prelude.{◌≡◌, true, None, ℕ, Bool, not, [], ◌∷◌, if◌then◌else◌}
use Rattle.dwg_base.specs.declared.version.Version.{Version}
use Rattle.dwg_base.specs.declared.version.Version.TheVariants.{Ac1014, Ac1015}
use Rattle.dwg_base.specs.Versions.{is_newer}
use Rattle.dwg_grammar.specs.Codes.{bd, bt, bd3, be}
use Rattle.dwg_grammar.specs.Bodies.{BodyGrammar}
use Rattle.dwg_grammar.specs.Combinators.{always, choose}
use Rattle.dwg_grammar.specs.Grammar.{Grammar}
use Rattle.dwg_grammar.specs.Reference.{Reference}
use Rattle.dwg_grammar.specs.ReferenceCodes.{reference}
use Rattle.dwg_grammar.specs.References.{ReferencePart}
use Rattle.dwg_grammar.specs.declared.points.Point3.{Point3}

-- AC1014 spells a value by one code, AC1015 by another
abbrev pub in_version : {A V : Type 0} → Version → Grammar A V → Grammar A V → Grammar A V
in_version {A} {V} Ac1014 older newer = older
in_version {A} {V} Ac1015 older newer = newer

-- a value that is spelled where a test holds; elsewhere it is this one, and nothing spells it
abbrev pub given : {A V : Type 0} → Bool → V → Grammar A V → Grammar A V
given {A} {V} test fixed code = choose test code (always fixed)

-- AC1015 alone spells it; in AC1014 it has this value
abbrev pub since_1015 : {A V : Type 0} → Version → V → Grammar A V → Grammar A V
since_1015 {A} {V} version fixed code = given (is_newer version) fixed code

-- AC1014 alone spells it; in AC1015 it has this value
abbrev pub until_1014 : {A V : Type 0} → Version → V → Grammar A V → Grammar A V
until_1014 {A} {V} version fixed code = given (not (is_newer version)) fixed code

-- the same of references
abbrev pub refs_in_version : {R : Type 0} → Version → ReferencePart R → ReferencePart R → ReferencePart R
refs_in_version {R} Ac1014 older newer = older
refs_in_version {R} Ac1015 older newer = newer

-- a part of the references that isn't spelled: it has this value
abbrev pub fixed_refs : {R : Type 0} → R → ReferencePart R
fixed_refs {R} only = record { grammar = always only; list = λ value. [] }

-- a reference that is spelled where a test holds; elsewhere it is this one
abbrev pub given_ref : ℕ → Bool → Reference → ReferencePart Reference
given_ref base test fixed = record { grammar = given test fixed (reference base); list = λ value. if test then value ∷ [] else [] }

-- a reference that leads nowhere
abbrev pub NOWHERE : Reference
NOWHERE = record { code = 5; target = 0 }

-- a reference that AC1015 alone spells; in AC1014 it leads nowhere
abbrev pub ref_since_1015 : Version → ℕ → ReferencePart Reference
ref_since_1015 version base = given_ref base (is_newer version) NOWHERE

-- a thickness: BT, in AC1014 BD
abbrev pub thickness : Version → Grammar Bool ℕ
thickness version = in_version version bd bt

-- an extrusion: BE, in AC1014 3BD
abbrev pub extrusion : Version → Grammar Bool Point3
extrusion version = in_version version bd3 be

-- a body that AC1015 alone spells
abbrev pub only_1015 : {V : Type 0} → Version → BodyGrammar V → BodyGrammar V
only_1015 {V} version body = record {
  Spells = λ value main references over. (is_newer version ≡ true) × body.Spells value main references over;
  Fits = λ value. (is_newer version ≡ true) × body.Fits value;
  MayFollow = body.MayFollow;
  parse = λ main references. if is_newer version then body.parse main references else None;
  short_main = body.short_main;
  short_references = body.short_references;
  references = body.references;
}
