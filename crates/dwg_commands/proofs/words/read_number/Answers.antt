use Rattle.std.proofs.Common.{sym, ap, ◌∙◌}
use Rattle.dwg_commands.specs.Words.{is_numeral}
use Rattle.dwg_commands.proofs.Numerals.{number_of_none, parsed}
use Rattle.dwg_commands.proofs.words.read_number.Goals as goal

pub returns-then-not-is_numeral : goal.returns-then-not-is_numeral
returns-then-not-is_numeral c = number_of_none _ (sym (c.if-not-is_numeral.ensures ∙ ap is_numeral c.as_bytes.ensures.value))

pub returns : goal.returns
returns c = c.ok.ensures.value ∙ parsed _ (sym (c.if-not-is_numeral.ensures ∙ ap is_numeral c.as_bytes.ensures.value)) _ c.parse.ensures.value.0
