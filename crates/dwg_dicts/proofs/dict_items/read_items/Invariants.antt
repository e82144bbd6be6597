use Rattle.std.proofs.Common.{ℕ, List}
use Rattle.dwg_bits.specs.Cursor.{rest}
use Rattle.dwg_grammar.specs.Codes.{tv}
use Rattle.dwg_grammar.specs.Reference.{Reference}
use Rattle.dwg_grammar.specs.ReferenceCodes.{reference}
use Rattle.dwg_common.specs.Parsing.{Keeps}
use Rattle.dwg_common.proofs.ChainReading.{IsBegun}
use Rattle.dwg_dicts.specs.Dictionaries.{names_of, targets_of}
use Rattle.dwg_dicts.proofs.dict_items.read_items.Given as goal

-- so many names and targets as turns are read
abbrev pub invariant-items : goal.invariant-items
invariant-items l = record {
  names : IsBegun (λ (state : ℕ). tv) (λ (name : List ℕ). 0) 0 0 l.count l.counter (names_of l.found) (rest l.fn.main) (rest l.main);
  targets : IsBegun (λ (state : ℕ). reference l.base) (λ (target : Reference). 0) 0 0 l.count l.counter (targets_of l.found) (rest l.fn.refs) (rest l.refs);
  kept : Keeps l.fn.main l.main;
  refs_kept : Keeps l.fn.refs l.refs;
}
