-- Corners after the first that are parsed are read.
use Rattle.std.proofs.Common.{◌≡◌, sym, subst, Bool, List, Option, Some, None}
use Rattle.dwg_grammar.proofs.BodyReading.{parsed_value}
use Rattle.dwg_grammar.proofs.CodeLemmas.{reads_some, reads_none}
use Rattle.dwg_grammar.specs.Codes.{IsPoint3}
use Rattle.dwg_grammar.specs.Grammar.{AnyLetters, Reads}
use Rattle.dwg_grammar.specs.declared.points.Point3.{Point3}
use Rattle.dwg_more.specs.CornerLaws.{dd3_is_code}
use Rattle.dwg_more.specs.Faces.{dd3}

-- three DDs
pub dd3_read : (default value : Point3) (old new : List Bool) → IsPoint3 default → (dd3 default).parse old ≡ Some (value, new) → Reads (dd3 default) (Some value) old new
dd3_read default value old new is found = reads_some AnyLetters (dd3 default) old new value (dd3_is_code default is) tt found

pub dd3_value : (default value : Point3) (old new : List Bool) → IsPoint3 default → (dd3 default).parse old ≡ Some (value, new) → (dd3 default).IsValue value
dd3_value default value old new is found = parsed_value (dd3 default) value old new (dd3_is_code default is) found

pub dd3_unread : (default : Point3) (result : Option Point3) (old : List Bool) → IsPoint3 default → result ≡ None → (dd3 default).parse old ≡ None → Reads (dd3 default) result old old
dd3_unread default result old is none unparsed =
    subst (λ (one : Option Point3). Reads (dd3 default) one old old) (sym none) (reads_none AnyLetters (dd3 default) old (dd3_is_code default is) unparsed)
