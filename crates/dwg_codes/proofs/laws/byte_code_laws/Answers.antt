use Rattle.std.proofs.Common.{arith}
use Rattle.dwg_base.specs.Bytes.{AreBytes}
use Rattle.dwg_grammar.specs.Codes.{tv}
use Rattle.dwg_grammar.proofs.CodeLemmas.{lawful_of_code}
use Rattle.dwg_grammar.specs.Grammar.{AnyLetters}
use Rattle.dwg_grammar.specs.ModularCodes.{mc, ms, signed_mc}
use Rattle.dwg_grammar.proofs.ModularLemmas.{mc_is_code, mc_below, mc_has, ms_is_code, ms_below, ms_has}
use Rattle.dwg_grammar.proofs.SignedLemmas.{signed_mc_is_code}
use Rattle.dwg_grammar.proofs.TableLemmas.{tv_is_code, tv_bytes, tv_has}
use Rattle.dwg_codes.proofs.laws.byte_code_laws.Goals as goal

pub returns-clause-mc : goal.returns-clause-mc
returns-clause-mc c = lawful_of_code AreBytes mc mc_is_code

pub returns-clause-mc_values : goal.returns-clause-mc_values
returns-clause-mc_values c value = (mc_below value, mc_has value)

pub returns-clause-signed_mc : goal.returns-clause-signed_mc
returns-clause-signed_mc c = lawful_of_code AreBytes signed_mc signed_mc_is_code

pub returns-clause-signed_mc_values : goal.returns-clause-signed_mc_values
returns-clause-signed_mc_values c value = ((λ fits. fits), (λ small. small))

pub returns-clause-ms : goal.returns-clause-ms
returns-clause-ms c = lawful_of_code AreBytes ms ms_is_code

pub returns-clause-ms_values : goal.returns-clause-ms_values
returns-clause-ms_values c value = (ms_below value, ms_has value)

pub returns-clause-tv : goal.returns-clause-tv
returns-clause-tv c = lawful_of_code AnyLetters tv tv_is_code

pub returns-clause-tv_values : goal.returns-clause-tv_values
returns-clause-tv_values c text =
    ((λ fits. (omega (arith, (tv_bytes text fits).0), (tv_bytes text fits).1)), (λ both. tv_has text (omega (arith, both.0)) both.1))
