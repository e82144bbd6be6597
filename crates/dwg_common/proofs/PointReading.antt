-- Points that are parsed are read.
use Rattle.std.proofs.Common.{◌≡◌, sym, subst, ◌^◌, ◌<◌, Bool, List, Option, Some, None}
use Rattle.dwg_grammar.proofs.CodeLemmas.{reads_some, reads_none}
use Rattle.dwg_grammar.specs.Grammar.{AnyLetters, Reads}
use Rattle.dwg_grammar.specs.declared.points.Point2.{Point2}
use Rattle.dwg_grammar.proofs.BodyReading.{parsed_value}
use Rattle.dwg_grammar.proofs.PointLemmas.{dd2_is_code}
use Rattle.dwg_grammar.specs.Points.{dd2}

-- two DDs
pub dd2_read : (default value : Point2) (old new : List Bool) → default.x < 2 ^ 64 → default.y < 2 ^ 64 → (dd2 default).parse old ≡ Some (value, new)
    → Reads (dd2 default) (Some value) old new
dd2_read default value old new x y found = reads_some AnyLetters (dd2 default) old new value (dd2_is_code default (record { x = x; y = y })) tt found

pub dd2_value : (default value : Point2) (old new : List Bool) → default.x < 2 ^ 64 → default.y < 2 ^ 64 → (dd2 default).parse old ≡ Some (value, new) → (dd2 default).IsValue value
dd2_value default value old new x y found = parsed_value (dd2 default) value old new (dd2_is_code default (record { x = x; y = y })) found

pub dd2_unread : (default : Point2) (result : Option Point2) (old : List Bool) → default.x < 2 ^ 64 → default.y < 2 ^ 64 → result ≡ None → (dd2 default).parse old ≡ None
    → Reads (dd2 default) result old old
dd2_unread default result old x y none unparsed =
    subst (λ (one : Option Point2). Reads (dd2 default) one old old) (sym none) (reads_none AnyLetters (dd2 default) old (dd2_is_code default (record { x = x; y = y })) unparsed)
