use Rattle.std.proofs.Common.{ℕ, length}
use Rattle.dwg_bits.specs.Cursor.{rest}
use Rattle.dwg_grammar.specs.Reference.{Reference}
use Rattle.dwg_grammar.specs.ReferenceCodes.{reference}
use Rattle.dwg_common.specs.Parsing.{Keeps}
use Rattle.dwg_common.proofs.ChainReading.{IsBegun}
use Rattle.dwg_tables.proofs.members.read_names.Given as goal

-- as many references as turns are read
abbrev pub invariant-names : goal.invariant-names
invariant-names g l = record {
  so_far : IsBegun (λ (state : ℕ). reference l.base) (λ (name : Reference). 0) 0 0 (length l.parsed) l.counter l.names (rest l.fn.cursor) (rest l.cursor);
  kept : Keeps l.fn.cursor l.cursor;
}
