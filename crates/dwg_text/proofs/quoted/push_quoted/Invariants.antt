use Rattle.std.proofs.Common.{◌≡◌, ◌++◌, drop, string_bytes}
use Rattle.std.specs.Prelude.{flat_map, codes}
use Rattle.dwg_text.specs.Lines.{quoted_byte, quoted}
use Rattle.dwg_text.proofs.quoted.push_quoted.Given as goal

-- what is written, the bytes that are left and the closing mark are the whole text
abbrev pub invariant-bytes : goal.invariant-bytes
invariant-bytes l = string_bytes l.text ++ (flat_map quoted_byte (drop l.byte-index l.bytes) ++ codes "\"") ≡ string_bytes l.fn.text ++ quoted l.bytes
