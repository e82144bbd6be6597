-- Two references that are parsed are read.
use Rattle.std.proofs.Common.{◌≡◌, ℕ, ◌^◌, ◌<◌, Bool, List, Some, None}
use Rattle.dwg_grammar.proofs.BodyReading.{parsed_value}
use Rattle.dwg_grammar.proofs.CodeLemmas.{reads_some, reads_none}
use Rattle.dwg_grammar.proofs.ReferenceParts.{two_is_part}
use Rattle.dwg_grammar.specs.Grammar.{AnyLetters, Reads}
use Rattle.dwg_grammar.specs.Reference.{Reference}
use Rattle.dwg_grammar.specs.References.{two_refs}

-- those that are parsed are read
pub two_refs_read : (base : ℕ) (both : Reference × Reference) (old new : List Bool) → base < 2 ^ 63 → (two_refs base).grammar.parse old ≡ Some (both, new)
    → Reads (two_refs base).grammar (Some both) old new
two_refs_read base both old new small found = reads_some AnyLetters (two_refs base).grammar old new both (two_is_part base small).is_code tt found

-- and have a spelling
pub two_refs_value : (base : ℕ) (both : Reference × Reference) (old new : List Bool) → base < 2 ^ 63 → (two_refs base).grammar.parse old ≡ Some (both, new)
    → (two_refs base).grammar.IsValue both
two_refs_value base both old new small found = parsed_value (two_refs base).grammar both old new (two_is_part base small).is_code found

-- where none are parsed, none are there
pub two_refs_unread : (base : ℕ) (old : List Bool) → base < 2 ^ 63 → (two_refs base).grammar.parse old ≡ None → Reads (two_refs base).grammar None old old
two_refs_unread base old small none = reads_none AnyLetters (two_refs base).grammar old (two_is_part base small).is_code none
