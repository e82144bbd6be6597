-- Parts that are parsed are read.
use Rattle.std.proofs.Common.{◌≡◌, Bool, List, Some, None}
use Rattle.dwg_grammar.proofs.CodeLemmas.{reads_some, reads_none}
use Rattle.dwg_grammar.specs.Grammar.{Grammar, IsCode, AnyLetters, Reads}

-- a value that is parsed
pub part_read : {V : Type 0} (code : Grammar Bool V) (value : V) (old new : List Bool) → IsCode AnyLetters code → code.parse old ≡ Some (value, new) → Reads code (Some value) old new
part_read code value old new is found = reads_some AnyLetters code old new value is tt found

-- and none
pub part_unread : {V : Type 0} (code : Grammar Bool V) (old : List Bool) → IsCode AnyLetters code → code.parse old ≡ None → Reads code None old old
part_unread code old is none = reads_none AnyLetters code old is none
