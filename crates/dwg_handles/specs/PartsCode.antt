-- What references and own handles are spelled by: a code, a count of bytes, and so many bytes of a number (Open Design Specification, "Handle references").
use Rattle.std.specs.Prelude.{◌≡◌, ◌*◌, ◌^◌, ◌<◌, ◌≤◌, Bool}
use Rattle.dwg_grammar.specs.Grammar.{Grammar}
use Rattle.dwg_grammar.specs.Combinators.{fixed, seq, image}
use Rattle.dwg_handles.specs.declared.reference_parts.ReferenceParts.{ReferenceParts}
use Rattle.dwg_grammar.specs.ReferenceCodes.{byte_counts}

-- the parts lie in their ranges
pub record AreParts (parts : ReferenceParts) : Type 0 where
  pub code : parts.code < 16
  pub few : parts.count ≤ 8
  pub fits : parts.number < 2 ^ (8 * parts.count)

-- four bits of code, four bits of the count, and the bytes
unfoldable pub parts : Grammar Bool ReferenceParts
parts = image AreParts (λ found. record { code = found.0; count = found.1.0; number = found.1.1 }) (λ parts. (parts.code, (parts.count, parts.number)))
    (seq (fixed 4) (λ code. seq byte_counts (λ count. fixed (8 * count))))

-- the parts are those of an own handle: code 0, and a positive number below 2^63
pub record IsOwn (parts : ReferenceParts) : Type 0 where
  pub code : parts.code ≡ 0
  pub positive : 0 < parts.number
  pub within : parts.number < 2 ^ 63
