-- Attributes of an insert that are parsed are read.
use Rattle.std.proofs.Common.{◌≡◌, ℕ, ◌^◌, ◌<◌, Bool, List, Some, None}
use Rattle.dwg_grammar.proofs.CodeLemmas.{reads_some, reads_none}
use Rattle.dwg_grammar.specs.Grammar.{AnyLetters, Reads}
use Rattle.dwg_entities.specs.BodiesLaws.{attributes_is_part}
use Rattle.dwg_entities.specs.InsertBody.{attributes}
use Rattle.dwg_entities.specs.declared.insert.Attributes.{Attributes}
use Rattle.dwg_grammar.proofs.BodyReading.{parsed_value}

-- attributes
pub attributes_read : (base : ℕ) (value : Attributes) (old new : List Bool) → base < 2 ^ 63 → (attributes base).grammar.parse old ≡ Some (value, new)
    → Reads (attributes base).grammar (Some value) old new
attributes_read base value old new small found = reads_some AnyLetters (attributes base).grammar old new value (attributes_is_part base small).is_code tt found

pub attributes_value : (base : ℕ) (value : Attributes) (old new : List Bool) → base < 2 ^ 63 → (attributes base).grammar.parse old ≡ Some (value, new)
    → (attributes base).grammar.IsValue value
attributes_value base value old new small found = parsed_value (attributes base).grammar value old new (attributes_is_part base small).is_code found

pub attributes_unread : (base : ℕ) (old : List Bool) → base < 2 ^ 63 → (attributes base).grammar.parse old ≡ None → Reads (attributes base).grammar None old old
attributes_unread base old small none = reads_none AnyLetters (attributes base).grammar old (attributes_is_part base small).is_code none
