-- What a reader of a part did: what it found is what is parsed, and its cursor moved as far as it came. A rule of this project.
use Rattle.std.specs.Prelude.{◌≡◌, Bool, Option}
use Rattle.std.specs.Option.{option_map}
use Rattle.dwg_bits.specs.Cursor.{rest}
use Rattle.dwg_bits.specs.declared.cursor.BitCursor.{BitCursor}
use Rattle.dwg_grammar.specs.Bodies.{BodyGrammar}
use Rattle.dwg_grammar.specs.Grammar.{Grammar}

-- a cursor that moved has the bytes and the end that it had
pub record Keeps (old new : BitCursor) : Type 0 where
  pub bytes : new.bytes.now ≡ old.bytes.now
  pub end : new.end ≡ old.end

-- a code is parsed: the value that was found, and what is left for the cursor; None where none is parsed
abbrev pub Parses : {V : Type 0} → Grammar Bool V → Option V → BitCursor → BitCursor → Type 0
Parses {V} code found old new = code.parse (rest old) ≡ option_map (λ (value : V). (value, rest new)) found

-- so is a body, of main bits and reference bits
abbrev pub ParsesBody : {V : Type 0} → BodyGrammar V → Option V → BitCursor → BitCursor → BitCursor → BitCursor → Type 0
ParsesBody {V} body found main main_left references references_left =
    body.parse (rest main) (rest references) ≡ option_map (λ (value : V). (value, (rest main_left, rest references_left))) found
