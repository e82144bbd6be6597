use Rattle.dwg_grammar.proofs.ByteRunLemmas.{short_of_bytes, values_of_bytes}
use Rattle.dwg_codes.proofs.run.byte_run_laws.Goals as goal

pub returns-clause-short : goal.returns-clause-short
returns-clause-short c = short_of_bytes

pub returns-clause-values : goal.returns-clause-values
returns-clause-values c = values_of_bytes
